use Rattle.std.proofs.Common.{ℕ, ap}
use Rattle.machine.specs.Shown.{Shown}
use Rattle.course.specs.Courses.{doing, entitling_made}
use Rattle.course.proofs.Runs.{by_pid, goes_on, stops}
use Rattle.course.proofs.making.make_entitled.Goals as goal

pub returns-in_err-do_call-clause-ran : goal.returns-in_err-do_call-clause-ran
returns-in_err-do_call-clause-ran g c = stops (doing c.args.hand.now.pid c.args.call) _ _ c.from_residual.ensures.1 c.in_err-do_call.ensures.ran

pub returns-clause-ran : goal.returns-clause-ran
returns-clause-ran g c = goes_on (doing c.args.hand.now.pid c.args.call) _ c.in_ok-do_call.ensures.ran (by_pid (λ p. entitling_made p c.args.again c.args.rights) (ap (λ (b : ℕ × Shown). b.0) c.in_ok-do_call.ensures.bound) c.entitle_made.ensures.ran)
