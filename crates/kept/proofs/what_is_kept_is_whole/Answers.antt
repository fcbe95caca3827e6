use Rattle.kept.proofs.Going.{what_is_kept_is_whole}
use Rattle.kept.proofs.what_is_kept_is_whole.Goals as goal

pub returns : goal.returns
returns g c = what_is_kept_is_whole g.D.Disk
