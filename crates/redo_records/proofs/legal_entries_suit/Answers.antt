use Rattle.redo_records.proofs.Laws.{legal_entries_suit}
use Rattle.redo_records.proofs.legal_entries_suit.Goals as goal

pub returns : goal.returns
returns c = legal_entries_suit
