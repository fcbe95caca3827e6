use Rattle.std.proofs.Common.{ℕ, ap}
use Rattle.ids.specs.declared.call.Call.TheVariants as call
use Rattle.machine.specs.Shown.{Shown}
use Rattle.course.specs.Courses.{closing, if_seen, stating}
use Rattle.course.proofs.Runs.{by_pid, done, goes}
use Rattle.course.proofs.files.see.Goals as goal

pub returns-in-Ok-clause-ran : goal.returns-in-Ok-clause-ran
returns-in-Ok-clause-ran g c = goes (stating c.args.hand.now.pid (call.Fstat c.args.fd)) (if_seen c.args.hand.now.pid c.args.fd c.args.is_new) c.in-Ok.ensures.ran done

pub returns-in-Err-clause-ran : goal.returns-in-Err-clause-ran
returns-in-Err-clause-ran g c = goes (stating c.args.hand.now.pid (call.Fstat c.args.fd)) (if_seen c.args.hand.now.pid c.args.fd c.args.is_new) c.in-Err.ensures.ran (by_pid (λ p. closing p c.args.fd c.in-Err.fault) (ap (λ (b : ℕ × Shown). b.0) c.in-Err.ensures.bound) c.close_for.ensures.ran)
