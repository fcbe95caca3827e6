-- The one list in order that has the keys of a map.
use Rattle.std.proofs.Common.{◌≡◌, ◌+◌, Bool, true, false, ◌&&◌, ◌||◌, List, [], ◌∷◌, ◌++◌, get_or, IsPermutation, IsSorted, refl, sym, ap, ◌∙◌, arith}
use Rattle.std.proofs.Math.Dec.{T}
use Rattle.std.proofs.lemmas.Map.Keys.{IsDistinct-IsPermutation, IsDistinct-head, IsDistinct-tail, IsDistinct-cons, apart_from_distinct, sorted_from_all_adjacent}
use Rattle.std.proofs.lemmas.Map.Lookups.{btree_set_from_contains}
use Rattle.std.proofs.lemmas.List.Sorted.{list_any-IsPermutation}
use Rattle.std.specs.BTreeSet.{BTreeSet}
use Rattle.std.specs.List.{AllByRecursion, IsDistinct, list_any}
use Rattle.std.specs.List.Sorted.{IsStrictlySortedBy}
use Rattle.std.specs.Map.{keys_of}
use Rattle.std.specs.Option.{is_some}
use Rattle.std.specs.Ordering.{eq_by_cmp, is_eq, is_lt, ordering_reverse}
use Rattle.std.specs.declared.cmp.Ordering.{Ordering}
use Rattle.std.specs.declared.cmp.Ordering.TheVariants.{Less, Equal, Greater}
use Rattle.std.specs.Cmp.{IsTotalOrder, eq_by_cmp_equiv}
use Rattle.std.specs.FinMap.Entries.{is_sorted, below_all}
use Rattle.model.specs.FiniteMap as finite

both : (a b : Bool) → T (a && b) → T a × T b
both true b p = (tt, p)
both false b p = absurd p

less_by : (o : Ordering) → T (is_lt o) → o ≡ Less
less_by Less p = refl
less_by Equal p = absurd p
less_by Greater p = absurd p

no_some : {A : Type 0} (test : A → Bool) (x : A) (xs : List A) → list_any test (x ∷ xs) ≡ false → (test x ≡ false) × (list_any test xs ≡ false)
no_some test x xs h = elim (test x) as (λ b. (b || list_any test xs) ≡ false → (b ≡ false) × (list_any test xs ≡ false)) [ true ↦ λ e. absurd cc | false ↦ λ e. (refl, e) ] h

none_pass : {A : Type 0} (test : A → Bool) (xs : List A) → list_any test xs ≡ false → AllByRecursion (λ x. test x ≡ false) xs
none_pass test [] h = tt
none_pass test (x ∷ xs) h = let p = no_some test x xs h in (p.0, none_pass test xs p.1)

all_append : {A : Type 0} (P : A → Type 0) (xs ys : List A) → AllByRecursion P xs → AllByRecursion P ys → AllByRecursion P (xs ++ ys)
all_append P [] ys h k = k
all_append P (x ∷ xs) ys h k = (h.0, all_append P xs ys h.1 k)

-- two lists of distinct keys that share none
pub distinct-append : {K : Type 0} (eq : K → K → Bool) (xs ys : List K) → IsDistinct eq xs → IsDistinct eq ys → AllByRecursion (λ x. list_any (eq x) ys ≡ false) xs → IsDistinct eq (xs ++ ys)
distinct-append eq [] ys d e apart = e
distinct-append eq (x ∷ xs) ys d e apart =
    IsDistinct-cons eq x (xs ++ ys)
    (all_append (λ y. eq x y ≡ false) xs ys (IsDistinct-head eq x xs d) (none_pass (eq x) ys apart.0))
    (distinct-append eq xs ys (IsDistinct-tail eq x xs d) e apart.1)

module _ {K : Type 0} {R : K → K → Ordering} (total : IsTotalOrder R) where
  above : {X : Type 0} (x : K) (es : List (K × X)) → T (below_all R x es) → AllByRecursion (λ y. R x y ≡ Less) (keys_of es)
  above x [] h = tt
  above x (e ∷ es) h = let p = both _ _ h in (less_by _ p.0, above x es p.1)

  pub keys_rise : {X : Type 0} (es : List (K × X)) → T (is_sorted R es) → IsStrictlySortedBy R (keys_of es)
  unfolding IsStrictlySortedBy
  keys_rise [] h = tt
  keys_rise (e ∷ es) h = let p = both _ _ h in (above e.0 es p.0, keys_rise es p.1)

  -- one that does not come later and does not tie comes before
  before : (y z : K) (o : Ordering) → R z y ≡ o → is_lt o ≡ false → is_eq o ≡ false → R y z ≡ Less
  before y z Less e p q = absurd cc
  before y z Equal e p q = absurd cc
  before y z Greater e p q = total.antisymm y z ∙ ap ordering_reverse e

  -- keys in order that differ rise
  rise : (ks : List K) → IsSorted R ks → IsDistinct (eq_by_cmp R) ks → IsStrictlySortedBy R ks
  unfolding IsStrictlySortedBy
  rise [] s d = tt
  rise (k ∷ ks) s d =
      sorted_from_all_adjacent total (k ∷ ks) k (λ i within.
      before (get_or (k ∷ ks) i k) (get_or (k ∷ ks) (i + 1) k) _ refl (s i k (omega arith) within)
      ((eq_by_cmp_equiv total).symm (get_or (k ∷ ks) (i + 1) k) (get_or (k ∷ ks) i k) ∙ apart_from_distinct (eq_by_cmp R) (k ∷ ks) i (i + 1) k d (omega arith) within))

  -- the keys of a map, sorted
  pub sorted_keys : {X : Type 0} → finite.IsAntisymmetric R → (m : finite.FinMap R X) (us ks : List K) → IsPermutation us ks → IsSorted R ks → IsDistinct (eq_by_cmp R) us → ((q : K) → list_any (eq_by_cmp R q) us ≡ is_some (finite.get m q)) → ks ≡ finite.keys m
  sorted_keys exact m us ks moved s d has =
      let sorted : BTreeSet K = record { keys = ks } in
      let wanted : BTreeSet K = record { keys = finite.keys m } in
      btree_set_from_contains total sorted wanted
      (rise ks s (IsDistinct-IsPermutation (eq_by_cmp R) (eq_by_cmp_equiv total).symm us ks moved d))
      (keys_rise (finite.entries m) (finite.entries_sorted m))
      (λ q. sym (list_any-IsPermutation (eq_by_cmp R q) us ks moved) ∙ has q ∙ finite.contains_key-keys m q)
      exact
