-- What is left of the rights is still to be set.
use Rattle.shadow.proofs.committing.RightsSteps.{Revises}
use Rattle.shadow.proofs.laying.lay_rights.Given as goal

abbrev pub invariant-loop-num : goal.invariant-loop-num
invariant-loop-num l = Revises l.fn.store l.store l.fn.rights l.num-iterator
