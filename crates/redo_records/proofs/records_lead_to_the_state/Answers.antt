use Rattle.redo_records.proofs.Laws.{records_lead_to_the_state}
use Rattle.redo_records.proofs.records_lead_to_the_state.Goals as goal

pub returns : goal.returns
returns c = records_lead_to_the_state
