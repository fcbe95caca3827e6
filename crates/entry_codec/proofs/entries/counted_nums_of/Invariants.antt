use Rattle.std.proofs.Common.{◌≡◌, ◌-◌}
use Rattle.std.specs.Int.{w64}
use Rattle.entry_codec.specs.Reading.{items_at, number_at}
use Rattle.entry_codec.proofs.Loop.{with_front}
use Rattle.entry_codec.proofs.entries.counted_nums_of.Given as goal

-- what was read, and what the rest is read as, is the whole
abbrev pub invariant-loop : goal.invariant-loop
invariant-loop l = with_front l.nums (items_at (number_at w64) (l.count - l.counter) l.rest) ≡ items_at (number_at w64) l.count l.bytes
