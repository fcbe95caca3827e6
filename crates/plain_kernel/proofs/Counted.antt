-- What the counts of a kernel are.
use Rattle.std.proofs.Common.{◌≡◌, ℕ, ◌||◌, ◌==◌, map, nat_lt, refl}
use Rattle.std.specs.List.{sum_by}
use Rattle.model.specs.FiniteMap.{entries}
use Rattle.model.specs.State.{Kernel, links}
use Rattle.model.specs.Changes.{openings, is_reached}
use Rattle.plain_kernel.specs.Counts.{given_by, opened_by_all}

pub links_is : (k : Kernel) (n : ℕ) → links k n ≡ sum_by (given_by n) (map (λ e. e.1) (entries k.inodes))
unfolding links
links_is k n = refl

pub reached_is : (k : Kernel) (n : ℕ) → is_reached k n ≡ (n == k.root) || (nat_lt 0 (links k n) || nat_lt 0 (opened_by_all k.descriptions n))
unfolding openings
reached_is k n = refl
