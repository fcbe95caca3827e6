use Rattle.std.proofs.Common.{◌≡◌, ◌+◌, ◌*◌, ◌≤◌, ◌++◌, length, take}
use Rattle.std.specs.Prelude.{flat_map}
use Rattle.transcript.specs.Text.{byte_text}
use Rattle.transcript.proofs.spelling.spell.Given as goal

abbrev pub invariant-loop-byte : goal.invariant-loop-byte
invariant-loop-byte l =
    (take l.end l.out ≡ take l.fn.offset l.fn.out ++ flat_map byte_text (take l.byte-index l.bytes))
    × (l.end ≤ l.fn.offset + l.byte-index * 4)
    × (length l.out ≡ length l.fn.out)
