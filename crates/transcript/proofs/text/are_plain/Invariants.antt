use Rattle.std.proofs.Common.{◌≡◌, true, take}
use Rattle.std.specs.Prelude.{flat_map}
use Rattle.transcript.specs.Text.{byte_text}
use Rattle.transcript.proofs.text.are_plain.Given as goal

abbrev pub invariant-loop-byte : goal.invariant-loop-byte
invariant-loop-byte l = l.plain ≡ true → flat_map byte_text (take l.byte-index l.portion) ≡ take l.byte-index l.portion
