use Rattle.history_laws.proofs.Laws.{losers_are_told_theirs}
use Rattle.history_laws.proofs.losers_are_told_theirs.Goals as goal

pub returns : goal.returns
returns c = losers_are_told_theirs
