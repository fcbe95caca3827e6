use Rattle.std.proofs.Common.{List, ℕ, sym, subst}
use Rattle.std.specs.List.Sorted.{IsNonDecreasing}
use Rattle.std.proofs.lemmas.List.Sorted.{IsNonDecreasingBy-from_sort}
use Rattle.replay.proofs.Guessing.{apart_from_sorted}
use Rattle.replay.proofs.root.first_unchosen.Goals as goal

pub first_missing-requires : goal.first_missing-requires
first_missing-requires c = subst (λ (xs : List ℕ). IsNonDecreasing xs) (sym c.as_slice.ensures.value) (IsNonDecreasingBy-from_sort (λ (x : ℕ). x) c.sort_unstable.new.self.items c.sort_unstable.ensures.sorted)

pub returns : goal.returns
returns c = c.in_ok-chosen.ensures c.first_missing.result (apart_from_sorted c.first_missing.result c.in_ok-chosen.chosen.items c.sort_unstable.new.self.items c.as_slice.result.now c.sort_unstable.ensures.permutation c.as_slice.ensures.value c.first_missing.ensures)
