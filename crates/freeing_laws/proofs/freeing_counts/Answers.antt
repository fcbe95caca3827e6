use Rattle.freeing_laws.proofs.Turns.{freeing_counts_lem}
use Rattle.freeing_laws.proofs.freeing_counts.Goals as goal

pub returns : goal.returns
returns c = freeing_counts_lem
