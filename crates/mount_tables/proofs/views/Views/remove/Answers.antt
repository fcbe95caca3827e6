use Rattle.mount_tables.proofs.Below.{below_remove}
use Rattle.mount_tables.proofs.views.Views.remove.Goals as goal

pub invariant_of-self-2 : goal.invariant_of-self-2
invariant_of-self-2 c = rw c.remove-2.ensures.rows (below_remove _ _ _ c.self.invariant)
