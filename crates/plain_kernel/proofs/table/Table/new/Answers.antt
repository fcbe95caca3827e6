use Rattle.std.proofs.Common.{nat_cmp}
use Rattle.plain_kernel.proofs.Kept.{from_sorted-none}
use Rattle.plain_kernel.proofs.table.Table.new.Goals as goal

pub returns : goal.returns
returns g c = rw c.new.ensures.items (from_sorted-none nat_cmp)
