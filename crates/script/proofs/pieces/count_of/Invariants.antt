use Rattle.std.proofs.Common.{◌≡◌, ◌+◌, eqb, take}
use Rattle.std.specs.List.{count_by}
use Rattle.script.proofs.pieces.count_of.Given as goal

abbrev pub invariant-loop-b : goal.invariant-loop-b
invariant-loop-b l = l.count ≡ count_by (λ b. eqb b l.byte) (take l.b-index l.text) + 1
