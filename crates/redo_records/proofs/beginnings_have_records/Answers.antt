use Rattle.redo_records.proofs.Laws.{beginnings_have_records}
use Rattle.redo_records.proofs.beginnings_have_records.Goals as goal

pub returns : goal.returns
returns c = beginnings_have_records
