use Rattle.walk.proofs.Laws.{goes}
use Rattle.path_calls.proofs.stats.stated.Goals as goal

pub returns : goal.returns
returns g c = goes _ c.in_ok-rights.ensures (c.unchanged.ensures _ _)
