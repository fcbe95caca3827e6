use Rattle.store_form.proofs.Laws.{records_run_to_the_state}
use Rattle.store_form.proofs.records_run_to_the_state.Goals as goal

pub returns : goal.returns
returns c = records_run_to_the_state
