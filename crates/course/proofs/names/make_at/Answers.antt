use Rattle.std.proofs.Common.{ℕ, ap}
use Rattle.ids.specs.declared.call.Call.TheVariants as call
use Rattle.machine.specs.Shown.{Shown}
use Rattle.course.specs.Courses.{doing, stating}
use Rattle.course.proofs.Runs.{by_pid, goes_on, stops}
use Rattle.course.proofs.names.make_at.Goals as goal

pub returns-in_err-do_call-clause-ran : goal.returns-in_err-do_call-clause-ran
returns-in_err-do_call-clause-ran g c = stops (doing c.args.hand.now.pid c.args.call) _ _ c.from_residual.ensures.1 c.in_err-do_call.ensures.ran

pub returns-clause-ran : goal.returns-clause-ran
returns-clause-ran g c = goes_on (doing c.args.hand.now.pid c.args.call) _ c.in_ok-do_call.ensures.ran (by_pid (λ p. stating p (call.Lstat c.args.again)) (ap (λ (b : ℕ × Shown). b.0) c.in_ok-do_call.ensures.bound) c.stat_path.ensures.ran)
