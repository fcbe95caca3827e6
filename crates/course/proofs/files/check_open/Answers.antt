use Rattle.std.proofs.Common.{ℕ, sym, ap, ◌∙◌}
use Rattle.ids.specs.declared.call.Call.TheVariants as call
use Rattle.machine.specs.Shown.{Shown}
use Rattle.course.specs.declared.fault.Fault.TheVariants as fault
use Rattle.course.specs.Courses.{closing, if_same, stating}
use Rattle.course.proofs.Runs.{by_pid, goes, other_file, same_file}
use Rattle.course.proofs.files.check_open.Goals as goal

pub returns-then-eq-clause-ran : goal.returns-then-eq-clause-ran
returns-then-eq-clause-ran g c = goes (stating c.args.hand.now.pid (call.Fstat c.args.fd)) (if_same c.args.hand.now.pid c.args.fd c.args.inode) c.in-Ok.ensures.ran (same_file c.args.hand.now.pid c.args.fd c.args.inode c.in-Ok.stat (sym c.eq.ensures ∙ c.if-eq.true))

pub returns-else-eq-clause-ran : goal.returns-else-eq-clause-ran
returns-else-eq-clause-ran g c = goes (stating c.args.hand.now.pid (call.Fstat c.args.fd)) (if_same c.args.hand.now.pid c.args.fd c.args.inode) c.in-Ok.ensures.ran (other_file c.args.hand.now.pid c.args.fd c.args.inode c.in-Ok.stat (sym c.eq.ensures ∙ c.if-eq.false) (by_pid (λ p. closing p c.args.fd fault.Stale) (ap (λ (b : ℕ × Shown). b.0) c.in-Ok.ensures.bound) c.close_for.ensures.ran))

pub returns-in-Err-clause-ran : goal.returns-in-Err-clause-ran
returns-in-Err-clause-ran g c = goes (stating c.args.hand.now.pid (call.Fstat c.args.fd)) (if_same c.args.hand.now.pid c.args.fd c.args.inode) c.in-Err.ensures.ran (by_pid (λ p. closing p c.args.fd c.in-Err.fault) (ap (λ (b : ℕ × Shown). b.0) c.in-Err.ensures.bound) c.close_for-in-Err.ensures.ran)
