-- The changes of the processes before this place are made, and there is room for the others.
use Rattle.std.proofs.Common.{◌≢◌, ◌<◌, ◌≤◌, ℕ, [], None, get_or, length}
use Rattle.model.specs.FiniteMap.{get}
use Rattle.fdtable.specs.Pages.{HasRoom}
use Rattle.notes.proofs.Laws.{patch_at}
use Rattle.shadow.proofs.committing.ProcessSteps.{Lays}
use Rattle.shadow.proofs.reslotting.lay_slots.Given as goal

abbrev pub invariant-loop-i : goal.invariant-loop-i
invariant-loop-i l = record {
  laid : Lays l.i l.fn.each l.each l.fn.processes l.processes l.fn.store l.store;
  reach : length l.fn.each ≤ length l.rooms.items;
  rooms : (j f : ℕ) → l.i ≤ j → j < length l.fn.each → get (patch_at l.fn.each j) f ≢ None → HasRoom (get_or l.rooms.items j []) f;
}
