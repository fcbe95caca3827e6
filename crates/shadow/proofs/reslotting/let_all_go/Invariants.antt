-- The slots below this number are counted.
use Rattle.std.proofs.Common.{◌-◌}
use Rattle.ids.specs.declared.limits.TheConstants.{DESCRIPTORS}
use Rattle.shadow.specs.Laid.{AreHeld}
use Rattle.shadow.proofs.committing.HeldSteps.{IsLessOpen}
use Rattle.shadow.proofs.reslotting.let_all_go.Given as goal

abbrev pub invariant-loop-fd : goal.invariant-loop-fd
invariant-loop-fd l = AreHeld (IsLessOpen l.table l.from) l.fn.store l.store

abbrev pub decreases-loop-fd : goal.decreases-loop-fd
decreases-loop-fd l = DESCRIPTORS - l.from
