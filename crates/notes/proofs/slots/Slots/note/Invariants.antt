-- No process before this place is this one, and all is as it was.
use Rattle.std.proofs.Common.{◌≡◌}
use Rattle.notes.proofs.SlotLemmas.{NoneBefore}
use Rattle.notes.proofs.slots.Slots.note.Given as goal

abbrev pub invariant-loop-i : goal.invariant-loop-i
invariant-loop-i l = record {
  none : NoneBefore l.self-inside.each.items l.pid l.i;
  same : l.self-inside ≡ l.initial.self-inside;
}
