use Rattle.ids.specs.declared.call.Call.TheVariants as call
use Rattle.course.specs.Courses.{doing}
use Rattle.course.proofs.Runs.{done, goes_on, stops}
use Rattle.course.proofs.made.close_made.Goals as goal

pub returns-in_err-close-clause-ran : goal.returns-in_err-close-clause-ran
returns-in_err-close-clause-ran g c = stops (doing c.args.hand.now.pid (call.Close c.args.made.fd)) _ _ c.from_residual.ensures.1 c.in_err-close.ensures.ran

pub returns-clause-ran : goal.returns-clause-ran
returns-clause-ran g c = goes_on (doing c.args.hand.now.pid (call.Close c.args.made.fd)) _ c.in_ok-close.ensures.ran done
