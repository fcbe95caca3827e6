use Rattle.ids.specs.declared.call.Call.TheVariants as call
use Rattle.course.specs.Courses.{calling}
use Rattle.course.specs.Faults.{fd_in}
use Rattle.course.proofs.Runs.{gives}
use Rattle.course.proofs.files.open.Goals as goal

pub returns-clause-ran : goal.returns-clause-ran
returns-clause-ran g c = gives (calling c.args.hand.now.pid (call.Open c.args.path c.args.flags)) fd_in c.ask-reply.ensures.ran c.fd_in.ensures
