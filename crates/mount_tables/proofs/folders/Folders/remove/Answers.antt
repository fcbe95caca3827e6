use Rattle.mount_tables.proofs.Below.{below_remove}
use Rattle.mount_tables.proofs.folders.Folders.remove.Goals as goal

pub invariant_of-self : goal.invariant_of-self
invariant_of-self c = rw c.remove.ensures.rows (below_remove _ _ _ c.self.invariant)
