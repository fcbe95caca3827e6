use Rattle.mount_tables.proofs.Below.{below_remove, below_replaced, leads_unlinked}
use Rattle.mount_tables.proofs.open_files.OpenFiles.release.Goals as goal

pub invariant_of-self : goal.invariant_of-self
invariant_of-self c = rw c.set.ensures.rows (below_replaced _ _ _ _ c.self.invariant.0, c.self.invariant.1)

pub invariant_of-self-2 : goal.invariant_of-self-2
invariant_of-self-2 c =
    rw (c.drop_file.ensures.each, c.drop_file.ensures.handles) (below_remove _ _ _ c.self.invariant.0, leads_unlinked _ _ _ _ c.self.invariant.1)
