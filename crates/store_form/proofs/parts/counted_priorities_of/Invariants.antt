use Rattle.std.proofs.Common.{◌≡◌, ◌-◌}
use Rattle.entry_codec.specs.Reading.{items_at}
use Rattle.entry_codec.proofs.Loop.{with_front}
use Rattle.store_form.specs.ReadingSetups.{priority_at}
use Rattle.store_form.proofs.parts.counted_priorities_of.Given as goal

-- what was read, and what the rest is read as, is the whole
abbrev pub invariant-loop : goal.invariant-loop
invariant-loop l = with_front l.priorities.items (items_at priority_at (l.count - l.counter) l.rest) ≡ items_at priority_at l.count l.bytes
