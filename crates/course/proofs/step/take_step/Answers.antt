use Rattle.course.proofs.Since.{taken_after}
use Rattle.course.proofs.step.take_step.Goals as goal

pub returns-clause-taken : goal.returns-clause-taken
returns-clause-taken g c = taken_after c.args.pid c.args.op c.step.result c.make_room.ensures.forgot c.step.ensures.step
