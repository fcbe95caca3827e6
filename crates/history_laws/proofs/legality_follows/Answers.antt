use Rattle.history_laws.proofs.Laws.{legality_follows}
use Rattle.history_laws.proofs.legality_follows.Goals as goal

pub returns : goal.returns
returns c = legality_follows
