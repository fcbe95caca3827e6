use Rattle.std.proofs.Common.{ℕ, ap}
use Rattle.machine.specs.Shown.{Shown}
use Rattle.course.specs.Courses.{entitling_open, sizing_open}
use Rattle.course.proofs.Runs.{by_pid, goes_on, stops}
use Rattle.course.proofs.updates.update_open.Goals as goal

pub returns-in_err-size_open-clause-ran : goal.returns-in_err-size_open-clause-ran
returns-in_err-size_open-clause-ran g c = stops (sizing_open c.args.hand.now.pid c.args.fd c.args.update.length) _ _ c.from_residual.ensures.1 c.in_err-size_open.ensures.ran

pub returns-clause-ran : goal.returns-clause-ran
returns-clause-ran g c = goes_on (sizing_open c.args.hand.now.pid c.args.fd c.args.update.length) _ c.in_ok-size_open.ensures.ran (by_pid (λ p. entitling_open p c.args.fd c.args.update.owner c.args.update.permissions) (ap (λ (b : ℕ × Shown). b.0) c.in_ok-size_open.ensures.bound) c.entitle_open.ensures.ran)
