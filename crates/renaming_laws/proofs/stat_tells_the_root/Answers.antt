use Rattle.renaming_laws.proofs.Stats.{stat_tells_the_root}
use Rattle.renaming_laws.proofs.stat_tells_the_root.Goals as goal

pub returns : goal.returns
returns c = stat_tells_the_root
