-- What is left of the changes is still to be made.
use Rattle.shadow.proofs.committing.DescriptionSteps.{Reopens}
use Rattle.shadow.proofs.laying.lay_openings.Given as goal

abbrev pub invariant-loop-num : goal.invariant-loop-num
invariant-loop-num l = Reopens l.fn.store l.store l.fn.openings l.num-iterator
