use Rattle.ids.specs.declared.call.Op.TheVariants as op
use Rattle.course.specs.Course.{step}
use Rattle.course.specs.Faults.{committed_in}
use Rattle.course.proofs.Runs.{gives, one}
use Rattle.course.proofs.transactions.end.Goals as goal

pub returns-clause-ran : goal.returns-clause-ran
returns-clause-ran g c = gives (step c.args.hand.now.pid op.End) committed_in (one c.args.hand.now.pid op.End c.step-reply.ensures.taken) c.committed_in.ensures
