-- How many pieces a text has.
use Rattle.std.proofs.Common.{ℕ, ◌+◌, ◌≤◌, List, eqb, length, arith}
use Rattle.std.specs.List.{slice_split}
use Rattle.std.proofs.lemmas.List.Splits.{length-slice_split}
use Rattle.std.proofs.lemmas.List.Sums.{count_by-le-length}

pub length_pieces : (byte : ℕ) (text : List ℕ) → length (slice_split (λ b. eqb b byte) text) ≤ length text + 1
length_pieces byte text = omega (arith, length-slice_split (λ b. eqb b byte) text, count_by-le-length (λ b. eqb b byte) text)
