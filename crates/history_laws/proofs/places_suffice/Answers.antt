use Rattle.history_laws.proofs.Laws.{places_suffice}
use Rattle.history_laws.proofs.places_suffice.Goals as goal

pub returns : goal.returns
returns c = places_suffice
