use Rattle.history_laws.proofs.Laws.{plain_calls_run}
use Rattle.history_laws.proofs.plain_calls_run.Goals as goal

pub returns : goal.returns
returns c = plain_calls_run
