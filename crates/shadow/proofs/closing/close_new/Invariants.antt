-- What is left of the descriptions is still to be closed.
use Rattle.std.specs.Map.{keys_of}
use Rattle.freeing_laws.specs.Sweep.{all_closed}
use Rattle.shadow.proofs.freeing.RemovalSteps.{Leaves}
use Rattle.shadow.proofs.closing.close_new.Given as goal

abbrev pub invariant-loop-num : goal.invariant-loop-num
invariant-loop-num l = Leaves all_closed l.fn.store l.store (keys_of l.fn.openings) (keys_of l.num-iterator)
