use Rattle.std.proofs.Common.{◌≡◌, ◌≤◌, take}
use Rattle.std.specs.Str.Parse.{AllDigits, digits_value}
use Rattle.script.proofs.number.digits_in.Given as goal

-- the bytes so far are digits, and `n` is their value
abbrev pub invariant-loop-byte : goal.invariant-loop-byte
invariant-loop-byte l =
    AllDigits 10 (take l.byte-index l.word) × (l.n ≡ digits_value 10 (take l.byte-index l.word)) × (l.n ≤ l.most)
