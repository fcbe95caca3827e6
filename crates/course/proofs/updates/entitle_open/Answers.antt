use Rattle.std.proofs.Common.{ℕ, ap}
use Rattle.machine.specs.Shown.{Shown}
use Rattle.course.specs.Courses.{owning_open, permitting_open}
use Rattle.course.proofs.Runs.{by_pid, goes_on, stops}
use Rattle.course.proofs.updates.entitle_open.Goals as goal

pub returns-in_err-own_open-clause-ran : goal.returns-in_err-own_open-clause-ran
returns-in_err-own_open-clause-ran g c = stops (owning_open c.args.hand.now.pid c.args.fd c.args.owner) _ _ c.from_residual.ensures.1 c.in_err-own_open.ensures.ran

pub returns-clause-ran : goal.returns-clause-ran
returns-clause-ran g c = goes_on (owning_open c.args.hand.now.pid c.args.fd c.args.owner) _ c.in_ok-own_open.ensures.ran (by_pid (λ p. permitting_open p c.args.fd c.args.permissions) (ap (λ (b : ℕ × Shown). b.0) c.in_ok-own_open.ensures.bound) c.permit_open.ensures.ran)
