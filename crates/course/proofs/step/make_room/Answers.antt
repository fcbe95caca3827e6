use Rattle.course.proofs.Since.{if_forgotten}
use Rattle.course.proofs.step.make_room.Goals as goal

pub returns-clause-forgot : goal.returns-clause-forgot
returns-clause-forgot g c = if_forgotten c.forget-forgotten.result c.forget-forgotten.ensures.yes c.forget-forgotten.ensures.no
