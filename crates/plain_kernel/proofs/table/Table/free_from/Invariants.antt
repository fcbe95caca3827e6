-- All numbers up to the lower place are there, one after the other, and none from the higher one on is as near.
use Rattle.std.proofs.Common.{◌≡◌, ℕ, ◌+◌, ◌-◌, ◌<◌, ◌≤◌, length}
use Rattle.plain_kernel.proofs.Rising.{key}
use Rattle.plain_kernel.proofs.table.Table.free_from.Given as goal

abbrev pub invariant-loop-low : goal.invariant-loop-low
invariant-loop-low g l = record {
  from : l.start ≤ l.low;
  order : l.low ≤ l.high;
  within : l.high ≤ length l.slots;
  taken : (i : ℕ) → l.start ≤ i → i < l.low → key l.slots i ≡ l.first + (i - l.start);
  wider : (i : ℕ) → l.high ≤ i → i < length l.slots → l.first + (i - l.start) < key l.slots i;
}

abbrev pub decreases-loop-low : goal.decreases-loop-low
decreases-loop-low g l = l.high - l.low
