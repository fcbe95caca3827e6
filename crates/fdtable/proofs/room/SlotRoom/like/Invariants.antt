-- There is room for all that are open below this number.
use Rattle.std.proofs.Common.{◌≢◌, ℕ, ◌-◌, ◌<◌, None}
use Rattle.model.specs.FiniteMap.{get}
use Rattle.ids.specs.declared.limits.TheConstants.{DESCRIPTORS}
use Rattle.fdtable.specs.Pages.{HasRoom}
use Rattle.fdtable.proofs.room.SlotRoom.like.Given as goal

abbrev pub invariant-loop-fd : goal.invariant-loop-fd
invariant-loop-fd l = (f : ℕ) → f < l.from → get l.table f ≢ None → HasRoom l.room f

abbrev pub decreases-loop-fd : goal.decreases-loop-fd
decreases-loop-fd l = DESCRIPTORS - l.from
