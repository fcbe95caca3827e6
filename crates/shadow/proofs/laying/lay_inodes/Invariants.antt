-- What is left of the changes is still to be made.
use Rattle.shadow.proofs.committing.InodeSteps.{Carries}
use Rattle.shadow.proofs.laying.lay_inodes.Given as goal

abbrev pub invariant-loop-num : goal.invariant-loop-num
invariant-loop-num l = Carries l.fn.store l.store l.fn.inodes l.num-iterator
