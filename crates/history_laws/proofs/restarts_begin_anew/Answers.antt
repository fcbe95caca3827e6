use Rattle.history_laws.proofs.Laws.{restarts_begin_anew}
use Rattle.history_laws.proofs.restarts_begin_anew.Goals as goal

pub returns : goal.returns
returns c = restarts_begin_anew
