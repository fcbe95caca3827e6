use Rattle.ids.specs.declared.call.Call.TheVariants as call
use Rattle.course.specs.Courses.{calling}
use Rattle.course.specs.Faults.{bytes_in}
use Rattle.course.proofs.Runs.{gives}
use Rattle.course.proofs.names.read_target.Goals as goal

pub returns-clause-ran : goal.returns-clause-ran
returns-clause-ran g c = gives (calling c.args.hand.now.pid (call.Readlink c.args.path)) bytes_in c.ask-reply.ensures.ran c.bytes_in.ensures
