use Rattle.plain_kernel.proofs.Linked.{nothing_counted}
use Rattle.plain_kernel.proofs.inodes.Inodes.new.Goals as goal

pub invariant_of-result : goal.invariant_of-result
invariant_of-result c = nothing_counted c.new.result c.new-2.result c.new.ensures c.new-2.ensures
