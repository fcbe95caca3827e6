use Rattle.std.proofs.Common.{◌≡◌, ◌++◌, ℕ, List, length}
use Rattle.std.specs.Prelude.{flat_map}
use Rattle.transcript.specs.Text.{byte_text}
use Rattle.transcript.proofs.text.split_plain.Given as goal

-- What is in front of the rest stands for itself.
abbrev pub invariant-loop-portion : goal.invariant-loop-portion
invariant-loop-portion l = (front : List ℕ) × (l.text ≡ front ++ l.rest) × (flat_map byte_text front ≡ front)

abbrev pub decreases-loop-portion : goal.decreases-loop-portion
decreases-loop-portion l = length l.rest
