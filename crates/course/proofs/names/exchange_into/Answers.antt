use Rattle.std.proofs.Common.{ℕ, ap}
use Rattle.ids.specs.declared.call.Call.TheVariants as call
use Rattle.machine.specs.Shown.{Shown}
use Rattle.course.specs.Courses.{doing}
use Rattle.course.proofs.Runs.{moved_off, stays_there}
use Rattle.course.proofs.names.exchange_into.Goals as goal

pub returns-in_err-check_place-clause-ran : goal.returns-in_err-check_place-clause-ran
returns-in_err-check_place-clause-ran g c = moved_off c.args.hand.now.pid c.args.place (doing c.args.hand.now.pid (call.Exchange c.args.first c.args.second)) _ c.from_residual.ensures.1 c.in_err-check_place.ensures.ran

pub returns-clause-ran : goal.returns-clause-ran
returns-clause-ran g c = stays_there c.args.place (λ p. doing p (call.Exchange c.args.first c.args.second)) (ap (λ (b : ℕ × Shown). b.0) c.in_ok-check_place.ensures.bound) c.in_ok-check_place.ensures.ran c.do_call.ensures.ran
