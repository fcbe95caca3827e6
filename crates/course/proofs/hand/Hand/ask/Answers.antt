use Rattle.ids.specs.declared.call.Op.TheVariants as op
use Rattle.course.proofs.Runs.{one}
use Rattle.course.proofs.hand.Hand.ask.Goals as goal

pub returns-clause-ran : goal.returns-clause-ran
returns-clause-ran g c = one c.args.self.now.pid (op.Call c.args.call) c.step.ensures.taken
