use Rattle.std.proofs.Common.{ℕ, ap}
use Rattle.machine.specs.Shown.{Shown}
use Rattle.course.specs.Courses.{owning_at, permitting_at}
use Rattle.course.proofs.Runs.{by_pid, goes_on, stops}
use Rattle.course.proofs.updates.entitle_at.Goals as goal

pub returns-in_err-own_at-clause-ran : goal.returns-in_err-own_at-clause-ran
returns-in_err-own_at-clause-ran g c = stops (owning_at c.args.hand.now.pid c.args.owned c.args.owner) _ _ c.from_residual.ensures.1 c.in_err-own_at.ensures.ran

pub returns-clause-ran : goal.returns-clause-ran
returns-clause-ran g c = goes_on (owning_at c.args.hand.now.pid c.args.owned c.args.owner) _ c.in_ok-own_at.ensures.ran (by_pid (λ p. permitting_at p c.args.permitted c.args.permissions) (ap (λ (b : ℕ × Shown). b.0) c.in_ok-own_at.ensures.bound) c.permit_at.ensures.ran)
