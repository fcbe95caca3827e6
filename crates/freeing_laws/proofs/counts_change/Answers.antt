use Rattle.freeing_laws.proofs.Counts.{counts_change}
use Rattle.freeing_laws.proofs.counts_change.Goals as goal

pub returns : goal.returns
returns c = counts_change
