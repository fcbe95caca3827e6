use Rattle.list_modes.proofs.Leaving.{counted_none}
use Rattle.list_modes.proofs.Holders.new.Goals as goal

pub invariant_of-result : goal.invariant_of-result
invariant_of-result c = counted_none c.new.result c.new-2.result c.new.ensures.empty c.new-2.ensures.empty
