-- The slots below this number are counted.
use Rattle.std.proofs.Common.{◌-◌}
use Rattle.ids.specs.declared.limits.TheConstants.{DESCRIPTORS}
use Rattle.shadow.specs.Laid.{AreHeld}
use Rattle.shadow.proofs.committing.HeldSteps.{IsMoreTo}
use Rattle.shadow.proofs.reslotting.hold_given.Given as goal

abbrev pub invariant-loop-fd : goal.invariant-loop-fd
invariant-loop-fd l = AreHeld (IsMoreTo l.patch l.from) l.fn.store l.store

abbrev pub decreases-loop-fd : goal.decreases-loop-fd
decreases-loop-fd l = DESCRIPTORS - l.from
