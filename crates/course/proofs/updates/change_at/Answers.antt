use Rattle.std.proofs.Common.{ℕ, ap}
use Rattle.machine.specs.Shown.{Shown}
use Rattle.course.specs.Courses.{entitling_at, sizing_at}
use Rattle.course.proofs.Runs.{by_pid, goes_on, stops}
use Rattle.course.proofs.updates.change_at.Goals as goal

pub returns-in_err-size_at-clause-ran : goal.returns-in_err-size_at-clause-ran
returns-in_err-size_at-clause-ran g c = stops (sizing_at c.args.hand.now.pid c.args.sized c.args.update.length) _ _ c.from_residual.ensures.1 c.in_err-size_at.ensures.ran

pub returns-clause-ran : goal.returns-clause-ran
returns-clause-ran g c = goes_on (sizing_at c.args.hand.now.pid c.args.sized c.args.update.length) _ c.in_ok-size_at.ensures.ran (by_pid (λ p. entitling_at p c.args.owned c.args.permitted c.args.update.owner c.args.update.permissions) (ap (λ (b : ℕ × Shown). b.0) c.in_ok-size_at.ensures.bound) c.entitle_at.ensures.ran)
