use Rattle.walk.proofs.Laws.{goes}
use Rattle.path_calls.proofs.stats.status_of_name.Goals as goal

pub returns : goal.returns
returns g c = goes _ c.in_ok-links.ensures c.stated.ensures
