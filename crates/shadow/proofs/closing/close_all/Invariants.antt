-- What is open from this number on is still to be closed.
use Rattle.std.proofs.Common.{◌-◌}
use Rattle.ids.specs.declared.limits.TheConstants.{DESCRIPTORS}
use Rattle.model.specs.FiniteMap.{values}
use Rattle.freeing_laws.specs.Sweep.{all_closed}
use Rattle.shadow.proofs.freeing.RemovalSteps.{Leaves, open_from}
use Rattle.shadow.proofs.closing.close_all.Given as goal

abbrev pub invariant-loop-fd : goal.invariant-loop-fd
invariant-loop-fd l = Leaves all_closed l.fn.store l.store (values l.former) (open_from l.former l.from)

abbrev pub decreases-loop-fd : goal.decreases-loop-fd
decreases-loop-fd l = DESCRIPTORS - l.from
