use Rattle.std.proofs.Common.{◌≡◌, ℕ, suc, ◌+◌, ◌-◌, ◌/◌, ◌≤◌, length, max}
use Rattle.fdtable.specs.Words.{bit_in}
use Rattle.fdtable.proofs.words.reach.Given as goal

abbrev pub invariant-loop-words : goal.invariant-loop-words
invariant-loop-words l = ((i : ℕ) → bit_in l.words.items i ≡ bit_in l.fn.words.items i) × (length l.words.items ≤ max (length l.fn.words.items) (l.bit / 64 + 1)) × (length l.fn.words.items ≤ length l.words.items)

abbrev pub decreases-loop-words : goal.decreases-loop-words
decreases-loop-words l = suc (l.bit / 64) - length l.words.items
