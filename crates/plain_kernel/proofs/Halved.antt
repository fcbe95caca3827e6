-- What a search by halving finds in a list of entries whose keys rise.
use Rattle.std.proofs.Common.{◌≡◌, ℕ, zero, suc, ◌≤◌, ◌<◌, Bool, true, false, ◌&&◌, List, [], ◌∷◌, length, get_or, IsTrue, Result, Ok, Err, refl, sym, ap, ◌∙◌, arith}
use Rattle.std.specs.Ordering.{match_ordering, ordering_index, ordering_reverse, is_lt}
use Rattle.std.specs.declared.cmp.Ordering.{Ordering}
use Rattle.std.specs.declared.cmp.Ordering.TheVariants.{Less, Equal, Greater}
use Rattle.std.specs.Cmp.{IsTotalOrder, alike_right}
use Rattle.std.specs.List.{AllWithin, HoldsAt}
use Rattle.std.specs.Result.{MatchResult}
use Rattle.std.specs.List.Sorted.{IsNonDecreasingBy, IsBinarySearchResult, IsSearchInRange}
use Rattle.std.specs.FinMap.Entries.{is_sorted, below_all}
use Rattle.plain_kernel.specs.Indices.{rank, holds, IsIndexOf, IsIndexFor}

pub both_parts : (a b : Bool) → (a && b) ≡ true → (a ≡ true) × (b ≡ true)
both_parts true b h = (refl, h)
both_parts false b h = absurd cc

pub less_by : (o : Ordering) → is_lt o ≡ true → o ≡ Less
less_by Less h = refl
less_by Equal h = absurd cc
less_by Greater h = absurd cc

index_top : (o : Ordering) → ordering_index o ≤ 2
index_top Less = omega arith
index_top Equal = omega arith
index_top Greater = omega arith

module _ {K : Type 0} {R : K → K → Ordering} (total : IsTotalOrder R) where
  -- against any key, a lower one does not come later
  index_by : (x y k : K) → R x y ≡ Less → (o : Ordering) → R y k ≡ o → ordering_index (R x k) ≤ ordering_index o
  index_by x y k less Less e = let h : ordering_index (R x k) ≡ 0 = ap ordering_index (total.trans x y k less e) in omega arith
  index_by x y k less Equal e = let h : ordering_index (R x k) ≡ 0 = ap ordering_index (sym (alike_right total y k x e) ∙ less) in omega arith
  index_by x y k less Greater e = index_top (R x k)

  pub turned_by : (x k : K) (o : Ordering) → R x k ≡ o → R k x ≡ ordering_reverse o
  turned_by x k o e = total.antisymm k x ∙ ap ordering_reverse e

module _ {K X : Type 0} {R : K → K → Ordering} (total : IsTotalOrder R) where
  -- the first key lies below each later one
  below_at : (x : K) (es : List (K × X)) → below_all R x es ≡ true → (i : ℕ) (d : K × X) → i < length es → R x (get_or es i d).0 ≡ Less
  below_at x [] h i d low = absurd (omega arith)
  below_at x (e ∷ es) h zero d low = less_by _ (both_parts _ _ h).0
  below_at x (e ∷ es) h (suc i) d low = below_at x es (both_parts _ _ h).1 i d (omega arith)

  -- keys that rise rise against any key
  non_decreasing : (k : K) (es : List (K × X)) → IsTrue (is_sorted R es) → IsNonDecreasingBy (λ e. ordering_index (R e.0 k)) es
  non_decreasing k [] s i j d le low = absurd (omega arith)
  non_decreasing k (e ∷ es) s zero zero d le low = omega arith
  non_decreasing k (e ∷ es) s zero (suc j) d le low =
      index_by total e.0 (get_or es j d).0 k (below_at e.0 es (both_parts _ _ s).0 j d (omega arith)) _ refl
  non_decreasing k (e ∷ es) s (suc i) zero d le low = absurd (omega arith)
  non_decreasing k (e ∷ es) s (suc i) (suc j) d le low = non_decreasing k es (both_parts _ _ s).1 i j d (omega arith) (omega arith)

  -- the steps of a scan, by what the first key is to the one that is looked up
  rank_by : (k : K) (e : K × X) (es : List (K × X)) (o : Ordering) → R k e.0 ≡ o → rank R k (e ∷ es) ≡ match_ordering o 0 0 (suc (rank R k es))
  rank_by k e es o h = ap (λ o. match_ordering o 0 0 (suc (rank R k es))) h

  holds_by : (k : K) (e : K × X) (es : List (K × X)) (o : Ordering) → R k e.0 ≡ o → holds R k (e ∷ es) ≡ match_ordering o false true (holds R k es)
  holds_by k e es o h = ap (λ o. match_ordering o false true (holds R k es)) h

  -- a key that was met is in its place
  placed_at : (k : K) (es : List (K × X)) → IsTrue (is_sorted R es) → (i : ℕ) → i < length es → HoldsAt (λ e. R e.0 k ≡ Equal) es i → IsIndexOf R k es i
  placed_at k [] s i low met = absurd (omega arith)
  placed_at k (e ∷ es) s zero low met =
      let back : R k e.0 ≡ Equal = turned_by total e.0 k Equal (met e) in
      record { held = holds_by k e es Equal back; index = sym (rank_by k e es Equal back); within = low }
  placed_at k (e ∷ es) s (suc i) low met =
      let later : i < length es = omega arith in
      let rest : IsIndexOf R k es i = placed_at k es (both_parts _ _ s).1 i later met in
      let first : R e.0 k ≡ Less = sym (alike_right total (get_or es i e).0 k e.0 (met e)) ∙ below_at e.0 es (both_parts _ _ s).0 i e later in
      let back : R k e.0 ≡ Greater = turned_by total e.0 k Less first in
      record { held = holds_by k e es Greater back ∙ rest.held; index = ap suc rest.index ∙ sym (rank_by k e es Greater back); within = low }

  -- between the lower keys and the higher ones is the place for one that was not met
  placed_between : (k : K) (es : List (K × X)) (i : ℕ) → i ≤ length es → AllWithin (λ e. R e.0 k ≡ Less) es 0 i → AllWithin (λ e. R e.0 k ≡ Greater) es i (length es) → IsIndexFor R k es i
  placed_between k [] zero low lower higher = record { absent = refl; index = refl; within = low }
  placed_between k [] (suc i) low lower higher = absurd (omega arith)
  placed_between k (e ∷ es) zero low lower higher =
      let back : R k e.0 ≡ Less = turned_by total e.0 k Greater (higher 0 e (omega arith) (omega arith)) in
      record { absent = holds_by k e es Less back; index = sym (rank_by k e es Less back); within = low }
  placed_between k (e ∷ es) (suc i) low lower higher =
      let rest : IsIndexFor R k es i = placed_between k es i (omega arith) (λ m d from upto. lower (suc m) d (omega arith) (omega arith)) (λ m d from upto. higher (suc m) d (omega arith) (omega arith)) in
      let back : R k e.0 ≡ Greater = turned_by total e.0 k Less (lower 0 e (omega arith) (omega arith)) in
      record { absent = holds_by k e es Greater back ∙ rest.absent; index = ap suc rest.index ∙ sym (rank_by k e es Greater back); within = low }

  -- what a search by halving answers
  pub searched_index : (k : K) (es : List (K × X)) → IsTrue (is_sorted R es) → (r : Result ℕ ℕ) → IsSearchInRange r (length es) → IsBinarySearchResult (λ e. R e.0 k) es r → MatchResult r (IsIndexOf R k es) (IsIndexFor R k es)
  searched_index k es s (Ok i) low met = placed_at k es s i low met
  searched_index k es s (Err i) low between = let parts = between (non_decreasing k es s) in placed_between k es i low parts.0 parts.1
