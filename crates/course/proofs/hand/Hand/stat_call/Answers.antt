use Rattle.course.specs.Courses.{calling}
use Rattle.course.specs.Faults.{stat_in}
use Rattle.course.proofs.Runs.{gives}
use Rattle.course.proofs.hand.Hand.stat_call.Goals as goal

pub returns-clause-ran : goal.returns-clause-ran
returns-clause-ran g c = gives (calling c.args.self.now.pid c.args.call) stat_in c.ask-reply.ensures.ran c.stat_in.ensures
