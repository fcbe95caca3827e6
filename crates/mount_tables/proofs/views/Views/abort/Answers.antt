use Rattle.mount_tables.proofs.Below.{below_replaced}
use Rattle.mount_tables.proofs.views.Views.abort.Goals as goal

pub invariant_of-self : goal.invariant_of-self
invariant_of-self c = rw c.set.ensures.rows (below_replaced _ _ _ _ c.self.invariant)
