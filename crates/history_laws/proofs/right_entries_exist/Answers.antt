use Rattle.history_laws.proofs.Laws.{right_entries_exist}
use Rattle.history_laws.proofs.right_entries_exist.Goals as goal

pub returns : goal.returns
returns c = right_entries_exist
