use Rattle.std.proofs.Common.{◌≡◌, ◌≤◌, suc, length, vec_capacity}
use Rattle.commit.specs.ProcessStates.{AreFirstSlots}
use Rattle.commit.proofs.process_state.first_slots.Given as goal

abbrev pub invariant-loop-i : goal.invariant-loop-i
invariant-loop-i l = record {
  count : length l.slots.items ≡ suc l._i;
  first : AreFirstSlots l.slots.items l._i;
  room : suc l.count ≤ vec_capacity l.slots;
}
