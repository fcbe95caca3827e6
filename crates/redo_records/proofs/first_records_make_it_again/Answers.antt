use Rattle.redo_records.proofs.Laws.{first_records_make_it_again}
use Rattle.redo_records.proofs.first_records_make_it_again.Goals as goal

pub returns : goal.returns
returns c = first_records_make_it_again
