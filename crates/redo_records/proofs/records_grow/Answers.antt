use Rattle.redo_records.proofs.Laws.{records_grow}
use Rattle.redo_records.proofs.records_grow.Goals as goal

pub returns : goal.returns
returns c = records_grow
