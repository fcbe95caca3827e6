use Rattle.std.specs.Prelude.{true}
use Rattle.ids.specs.declared.call.Op.TheVariants as op
use Rattle.course.specs.Course.{step}
use Rattle.course.specs.Faults.{given_up_in}
use Rattle.course.proofs.Runs.{gives, one}
use Rattle.course.proofs.transactions.give_up.Goals as goal

pub returns-clause-ran : goal.returns-clause-ran
returns-clause-ran g c = gives (step c.args.hand.now.pid (op.Abort true)) given_up_in (one c.args.hand.now.pid (op.Abort true) c.step-reply.ensures.taken) c.given_up_in.ensures
