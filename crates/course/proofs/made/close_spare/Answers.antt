use Rattle.ids.specs.declared.call.Call.TheVariants as call
use Rattle.course.specs.Courses.{doing}
use Rattle.course.proofs.Runs.{done, goes_on, spare_closed, stops}
use Rattle.course.proofs.made.close_spare.Goals as goal

pub returns-in_err-close-clause-ran : goal.returns-in_err-close-clause-ran
returns-in_err-close-clause-ran g c = spare_closed c.args.hand.now.pid c.args.is_open c.args.made c.if-not-is_open.false (stops (doing c.args.hand.now.pid (call.Close c.args.made.fd)) _ _ c.from_residual.ensures.1 c.in_err-close.ensures.ran)

pub returns-clause-ran : goal.returns-clause-ran
returns-clause-ran g c = spare_closed c.args.hand.now.pid c.args.is_open c.args.made c.if-not-is_open.false (goes_on (doing c.args.hand.now.pid (call.Close c.args.made.fd)) _ c.in_ok-close.ensures.ran done)
