use Rattle.std.proofs.Common.{arith}
use Rattle.nodes.proofs.Orderly.{empty_orderly}
use Rattle.nodes.proofs.nodes.Nodes.new.Goals as goal

pub invariant_of-result : goal.invariant_of-result
invariant_of-result c = (omega arith, rw (c.new.ensures, c.new-2.ensures, c.new-3.ensures) empty_orderly)
