use Rattle.std.proofs.Common.{◌≡◌, ◌-◌}
use Rattle.entry_codec.specs.Reading.{items_at}
use Rattle.entry_codec.specs.ReadingEntries.{entry_at}
use Rattle.entry_codec.proofs.Loop.{with_front}
use Rattle.entry_codec.proofs.entries.counted_entries_of.Given as goal

-- what was read, and what the rest is read as, is the whole
abbrev pub invariant-loop : goal.invariant-loop
invariant-loop l = with_front l.entries.items (items_at entry_at (l.count - l.counter) l.rest) ≡ items_at entry_at l.count l.bytes
