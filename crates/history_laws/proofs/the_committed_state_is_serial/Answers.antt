use Rattle.history_laws.proofs.Laws.{the_committed_state_is_serial}
use Rattle.history_laws.proofs.the_committed_state_is_serial.Goals as goal

pub returns : goal.returns
returns c = the_committed_state_is_serial
