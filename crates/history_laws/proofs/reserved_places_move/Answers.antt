use Rattle.history_laws.proofs.Laws.{reserved_places_move}
use Rattle.history_laws.proofs.reserved_places_move.Goals as goal

pub returns : goal.returns
returns c = reserved_places_move
