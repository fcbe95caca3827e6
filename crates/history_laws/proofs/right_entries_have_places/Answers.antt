use Rattle.history_laws.proofs.Laws.{right_entries_have_places}
use Rattle.history_laws.proofs.right_entries_have_places.Goals as goal

pub returns : goal.returns
returns c = right_entries_have_places
