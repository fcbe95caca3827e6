use Rattle.history_laws.proofs.Laws.{lists_stay}
use Rattle.history_laws.proofs.lists_stay.Goals as goal

pub returns : goal.returns
returns c = lists_stay
