use Rattle.freeing_laws.proofs.Laws.{sweep_is_tidy_lem}
use Rattle.freeing_laws.proofs.sweep_is_tidy.Goals as goal

pub returns : goal.returns
returns c = sweep_is_tidy_lem
