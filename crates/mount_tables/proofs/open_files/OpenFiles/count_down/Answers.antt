use Rattle.mount_tables.proofs.Below.{below_replaced}
use Rattle.mount_tables.proofs.open_files.OpenFiles.count_down.Goals as goal

pub invariant_of-self : goal.invariant_of-self
invariant_of-self c = rw c.set.ensures.rows (below_replaced _ _ _ _ c.self.invariant.0, c.self.invariant.1)
