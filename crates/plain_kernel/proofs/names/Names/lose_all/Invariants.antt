-- What the names that the tree has shown gave is lost.
use Rattle.std.proofs.Common.{◌≡◌, ℕ, ◌-◌, ◌==◌, map}
use Rattle.std.specs.List.{count_by}
use Rattle.std.specs.Map.Iter.{deref}
use Rattle.plain_kernel.specs.Counts.{count_at}
use Rattle.plain_kernel.proofs.names.Names.lose_all.Given as goal

abbrev pub invariant-loop-num : goal.invariant-loop-num
invariant-loop-num l = (n : ℕ) → count_at l.counts n ≡ count_at l.initial.counts n - count_by (λ m. m == n) (map deref l.yielded)
