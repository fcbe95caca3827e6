use Rattle.redo_records.proofs.Laws.{left_out_changes_nothing}
use Rattle.redo_records.proofs.left_out_changes_nothing.Goals as goal

pub returns : goal.returns
returns c = left_out_changes_nothing
