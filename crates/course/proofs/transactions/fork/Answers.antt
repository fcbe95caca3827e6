use Rattle.ids.specs.declared.call.Call.TheVariants as call
use Rattle.course.specs.Courses.{calling}
use Rattle.course.specs.Faults.{child_in}
use Rattle.course.proofs.Processes.{call_bears}
use Rattle.course.proofs.Runs.{gives}
use Rattle.course.proofs.transactions.fork.Goals as goal

pub returns-clause-ran : goal.returns-clause-ran
returns-clause-ran g c = gives (calling c.args.hand.now.pid (call.Fork)) child_in c.ask-reply.ensures.ran c.child_in.ensures

pub returns-clause-child : goal.returns-clause-child
returns-clause-child g c = call_bears (c.args.hand.now.shown) (c.ask-reply.new.self.shown) c.args.hand.now.pid call.Fork c.ask-reply.result c.child_in.result c.ask-reply.ensures.was c.ask-reply.ensures.kept c.ask-reply.ensures.ran c.child_in.ensures
