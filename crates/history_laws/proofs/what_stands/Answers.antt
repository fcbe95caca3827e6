use Rattle.history_laws.proofs.Laws.{what_stands}
use Rattle.history_laws.proofs.what_stands.Goals as goal

pub returns : goal.returns
returns c = what_stands
