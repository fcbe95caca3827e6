use Rattle.history_laws.proofs.Laws.{modes_follow_marks}
use Rattle.history_laws.proofs.modes_follow_marks.Goals as goal

pub returns : goal.returns
returns c = modes_follow_marks
