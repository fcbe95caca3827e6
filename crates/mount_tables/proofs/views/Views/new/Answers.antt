use Rattle.mount_tables.proofs.Below.{below_empty}
use Rattle.mount_tables.proofs.views.Views.new.Goals as goal

pub invariant_of-result : goal.invariant_of-result
invariant_of-result c = rw c.new.ensures (below_empty 1)
