-- All bits are set from the first on below this word.
use Rattle.std.proofs.Common.{◌≡◌, ℕ, ◌*◌, ◌<◌, ◌≤◌}
use Rattle.fdtable.specs.Words.{bit_in}
use Rattle.fdtable.proofs.words.clear_from.Given as goal

abbrev pub invariant-loop-index : goal.invariant-loop-index
invariant-loop-index l = (i : ℕ) → l.first ≤ i → i < 64 * l.index → bit_in l.words i ≡ 1
