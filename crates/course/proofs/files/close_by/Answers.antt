use Rattle.std.specs.Prelude.{Err}
use Rattle.std.proofs.Common.{ap}
use Rattle.ids.specs.declared.call.Call.TheVariants as call
use Rattle.course.specs.Courses.{doing}
use Rattle.course.specs.Faults.{unless_aborted}
use Rattle.course.proofs.Runs.{gives}
use Rattle.course.proofs.files.close_by.Goals as goal

pub returns-clause-ran : goal.returns-clause-ran
returns-clause-ran g c = gives (doing c.args.hand.now.pid (call.Close c.args.fd)) (λ r. Err (unless_aborted c.args.fault r)) c.close-closed.ensures.ran (ap Err c.unless_aborted.ensures)
