use Rattle.plain_kernel.proofs.Opened.{nothing_opened}
use Rattle.plain_kernel.proofs.descriptions.Descriptions.new.Goals as goal

pub invariant_of-result : goal.invariant_of-result
invariant_of-result c = nothing_opened c.new.result c.new-2.result c.new.ensures c.new-2.ensures
