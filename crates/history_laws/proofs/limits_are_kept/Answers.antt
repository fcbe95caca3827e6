use Rattle.history_laws.proofs.Laws.{limits_are_kept}
use Rattle.history_laws.proofs.limits_are_kept.Goals as goal

pub returns : goal.returns
returns c = limits_are_kept
