use Rattle.store_form.proofs.Laws.{first_records_run_to_a_beginning}
use Rattle.store_form.proofs.first_records_run_to_a_beginning.Goals as goal

pub returns : goal.returns
returns c = first_records_run_to_a_beginning
