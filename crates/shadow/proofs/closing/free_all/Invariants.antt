-- What is left of the inodes is still to be freed.
use Rattle.std.specs.Vec.Iter.{into_iter_items}
use Rattle.freeing_laws.specs.Sweep.{free_inodes}
use Rattle.shadow.proofs.freeing.RemovalSteps.{Leaves}
use Rattle.shadow.proofs.closing.free_all.Given as goal

abbrev pub invariant-loop-num : goal.invariant-loop-num
invariant-loop-num l = Leaves free_inodes l.fn.store l.store l.fn.unnamed.items (into_iter_items l.num-iterator)
