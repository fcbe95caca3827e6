use Rattle.history_laws.proofs.Laws.{unmade_are_refused}
use Rattle.history_laws.proofs.unmade_are_refused.Goals as goal

pub returns : goal.returns
returns c = unmade_are_refused
