-- The changes below this number are laid, and what the table gave stands in their places; there is room
-- for all others.
use Rattle.std.proofs.Common.{◌≢◌, ℕ, ◌-◌, None}
use Rattle.model.specs.FiniteMap.{get}
use Rattle.ids.specs.declared.limits.TheConstants.{DESCRIPTORS}
use Rattle.fdtable.specs.Pages.{HasRoom}
use Rattle.fdtable.proofs.Laying.{AreSwapped}
use Rattle.fdtable.proofs.patch.SlotPatch.lay_on.Given as goal

abbrev pub invariant-loop-fd : goal.invariant-loop-fd
invariant-loop-fd l = record {
  swapped : AreSwapped l.fn.self l.fn.table l.table-inside.pages.slots l.self l.from;
  room : (f : ℕ) → get l.fn.self f ≢ None → HasRoom l.table-inside.pages.rooms f;
}

abbrev pub decreases-loop-fd : goal.decreases-loop-fd
decreases-loop-fd l = DESCRIPTORS - l.from
