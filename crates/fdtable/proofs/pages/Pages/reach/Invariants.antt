-- Pages without room have come, and nothing else.
use Rattle.std.proofs.Common.{◌≡◌, ℕ, suc, ◌-◌, ◌/◌, ◌<◌, length}
use Rattle.fdtable.specs.Pages.{AreMarked, HasRoom, rooms_of}
use Rattle.fdtable.proofs.Paged.{table_of}
use Rattle.fdtable.proofs.pages.Pages.reach.Given as goal

abbrev pub invariant-loop-heap : goal.invariant-loop-heap
invariant-loop-heap l = record {
  marked : AreMarked l.self-inside.each.items l.self-inside.full.items;
  slots : table_of l.self-inside.each.items ≡ l.fn.self.slots;
  rooms : (f : ℕ) → HasRoom l.fn.self.rooms f → HasRoom (rooms_of l.self-inside.each.items) f;
  words : l.index / 64 < length l.self-inside.full.items;
}

abbrev pub decreases-loop-heap : goal.decreases-loop-heap
decreases-loop-heap l = suc l.index - length l.self-inside.each.items
