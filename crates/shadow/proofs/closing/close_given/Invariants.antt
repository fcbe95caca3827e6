-- What slots give from this number on is still to be closed.
use Rattle.std.proofs.Common.{◌-◌}
use Rattle.ids.specs.declared.limits.TheConstants.{DESCRIPTORS}
use Rattle.std.specs.List.{flat_map}
use Rattle.model.specs.FiniteMap.{entries}
use Rattle.freeing_laws.specs.Sweep.{all_closed}
use Rattle.shadow.specs.Laid.{given_by}
use Rattle.shadow.proofs.freeing.RemovalSteps.{Leaves, given_from}
use Rattle.shadow.proofs.closing.close_given.Given as goal

abbrev pub invariant-loop-fd : goal.invariant-loop-fd
invariant-loop-fd l =
    Leaves all_closed l.fn.store l.store (flat_map (λ g. given_by g.1) (entries l.former)) (given_from l.former l.from)

abbrev pub decreases-loop-fd : goal.decreases-loop-fd
decreases-loop-fd l = DESCRIPTORS - l.from
