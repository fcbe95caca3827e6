use Rattle.history_laws.proofs.Laws.{lists_are_their_effects}
use Rattle.history_laws.proofs.lists_are_their_effects.Goals as goal

pub returns : goal.returns
returns c = lists_are_their_effects
