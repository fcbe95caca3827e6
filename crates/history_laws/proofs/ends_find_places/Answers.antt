use Rattle.history_laws.proofs.Laws.{ends_find_places}
use Rattle.history_laws.proofs.ends_find_places.Goals as goal

pub returns : goal.returns
returns c = ends_find_places
