use Rattle.course.proofs.Processes.{stand_then, taken_stands}
use Rattle.course.proofs.Since.{since_taken, since_then}
use Rattle.course.proofs.hand.Hand.step.Goals as goal

pub invariant_of-self : goal.invariant_of-self
invariant_of-self g c = record {
  kept = c.take_step.ensures.kept;
  since = since_then c.self.inside.pid _ _ _ c.self.invariant.since (since_taken (g.K.Machine.shown c.self.inside.kernel) (g.K.Machine.shown c.take_step.new.kernel) c.self.inside.pid c.args.op c.take_step.result c.take_step.ensures.taken);
  stand = stand_then c.self.invariant.stand (taken_stands (g.K.Machine.shown c.self.inside.kernel) (g.K.Machine.shown c.take_step.new.kernel) c.self.inside.pid c.args.op c.take_step.result c.self.invariant.kept c.take_step.ensures.kept c.requires c.take_step.ensures.taken);
}
