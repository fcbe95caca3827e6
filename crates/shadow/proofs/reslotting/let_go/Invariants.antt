-- The slots below this number are counted.
use Rattle.std.proofs.Common.{◌-◌}
use Rattle.ids.specs.declared.limits.TheConstants.{DESCRIPTORS}
use Rattle.shadow.specs.Laid.{AreHeld}
use Rattle.shadow.proofs.committing.HeldSteps.{IsLessTo}
use Rattle.shadow.proofs.reslotting.let_go.Given as goal

abbrev pub invariant-loop-fd : goal.invariant-loop-fd
invariant-loop-fd l = AreHeld (IsLessTo l.former l.from) l.fn.store l.store

abbrev pub decreases-loop-fd : goal.decreases-loop-fd
decreases-loop-fd l = DESCRIPTORS - l.from
