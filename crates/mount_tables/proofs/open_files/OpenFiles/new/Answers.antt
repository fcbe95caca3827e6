use Rattle.mount_tables.proofs.Below.{below_empty, leads_empty}
use Rattle.mount_tables.proofs.open_files.OpenFiles.new.Goals as goal

pub invariant_of-result : goal.invariant_of-result
invariant_of-result c = rw (c.new.ensures, c.new-2.ensures) (below_empty 1, leads_empty 1)
