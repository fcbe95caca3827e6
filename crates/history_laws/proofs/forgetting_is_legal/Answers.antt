use Rattle.history_laws.proofs.Laws.{forgetting_is_legal}
use Rattle.history_laws.proofs.forgetting_is_legal.Goals as goal

pub returns : goal.returns
returns c = forgetting_is_legal
