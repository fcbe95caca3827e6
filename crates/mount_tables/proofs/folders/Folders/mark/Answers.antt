use Rattle.mount_tables.proofs.Below.{below_marked}
use Rattle.mount_tables.proofs.folders.Folders.mark.Goals as goal

pub invariant_of-self : goal.invariant_of-self
invariant_of-self c = rw c.mark.ensures.folders (below_marked _ _ _ c.self.invariant)
