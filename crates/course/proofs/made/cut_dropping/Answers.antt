use Rattle.std.proofs.Common.{ℕ, ap}
use Rattle.ids.specs.declared.call.Call.TheVariants as call
use Rattle.machine.specs.Shown.{Shown}
use Rattle.course.specs.Courses.{doing, dropping}
use Rattle.course.proofs.Runs.{by_pid, goes_on, stops}
use Rattle.course.proofs.made.cut_dropping.Goals as goal

pub returns-in_err-drop_set_ids-clause-ran : goal.returns-in_err-drop_set_ids-clause-ran
returns-in_err-drop_set_ids-clause-ran g c = stops (dropping c.args.hand.now.pid c.args.fd) _ _ c.from_residual.ensures.1 c.in_err-drop_set_ids.ensures.ran

pub returns-clause-ran : goal.returns-clause-ran
returns-clause-ran g c = goes_on (dropping c.args.hand.now.pid c.args.fd) _ c.in_ok-drop_set_ids.ensures.ran (by_pid (λ p. doing p (call.Ftruncate c.args.fd 0)) (ap (λ (b : ℕ × Shown). b.0) c.in_ok-drop_set_ids.ensures.bound) c.set_length.ensures.ran)
