use Rattle.history_laws.proofs.Laws.{doomed_are_told_theirs}
use Rattle.history_laws.proofs.doomed_are_told_theirs.Goals as goal

pub returns : goal.returns
returns c = doomed_are_told_theirs
