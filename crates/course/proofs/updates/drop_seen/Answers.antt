use Rattle.std.proofs.Common.{ℕ, ap}
use Rattle.ids.specs.declared.call.Call.TheVariants as call
use Rattle.machine.specs.Shown.{Shown}
use Rattle.course.specs.Courses.{dropping_by, stating}
use Rattle.course.proofs.Runs.{by_pid, goes_on, stops}
use Rattle.course.proofs.updates.drop_seen.Goals as goal

pub returns-in_err-stat-clause-ran : goal.returns-in_err-stat-clause-ran
returns-in_err-stat-clause-ran g c = stops (stating c.args.hand.now.pid (call.Fstat c.args.fd)) _ _ c.from_residual.ensures.1 c.in_err-stat.ensures.ran

pub returns-clause-ran : goal.returns-clause-ran
returns-clause-ran g c = goes_on (stating c.args.hand.now.pid (call.Fstat c.args.fd)) _ c.in_ok-stat.ensures.ran (by_pid (λ p. dropping_by p c.args.fd c.in_ok-stat.stat) (ap (λ (b : ℕ × Shown). b.0) c.in_ok-stat.ensures.bound) c.drop_by.ensures.ran)
