-- The entries of a map of numbers from one of them on.
use Rattle.std.specs.Cmp.{nat_cmp_total}
use Rattle.model.specs.State.{mapped}
use Rattle.std.proofs.Common.{map, subst, ◌≡◌, ◌≢◌, ℕ, ◌+◌, ◌≤◌, ◌<◌, Bool, true, false, cond, T, ◌&&◌, List, [], ◌∷◌, Option, Some, None, nat_cmp, nat_lt, refl, sym, ap, ◌∙◌, arith, ◌⊎◌, inl, inr}
use Rattle.std.specs.Ordering.{MatchOrdering, is_lt}
use Rattle.std.specs.declared.cmp.Ordering.{Ordering}
use Rattle.std.specs.declared.cmp.Ordering.TheVariants.{Less, Equal, Greater}
use Rattle.std.specs.Cmp.{ranked}
use Rattle.std.specs.FinMap.Entries.{find, is_sorted, below_all}
use Rattle.std.proofs.lemmas.Bool.{cases_eq, cases_lt}
use Rattle.std.proofs.lemmas.Bool.Decides.{nat_tests}
use Rattle.model.specs.FiniteMap.{FinMap, get, entries, entries_sorted, entries-from_sorted, from_sorted, get-entries, get-from_sorted, same_map, nat_cmp-IsAntisymmetric}
use Rattle.model.proofs.Laws.{tied, untied}

parts : (a b : Bool) → T (a && b) → T a × T b
parts true b h = (tt, h)
parts false b h = absurd h

less_by : (q n : ℕ) → T (is_lt (nat_cmp q n)) → q < n
less_by q n h = by_order (nat_cmp q n) (ranked q n (nat_cmp q n) refl) h
  where
    by_order : (o : Ordering) → MatchOrdering o (q < n) (q ≡ n) (n < q) → T (is_lt o) → q < n
    by_order Less less h = less
    by_order Equal same h = absurd h
    by_order Greater more h = absurd h

test_low : (k n : ℕ) → k < n → nat_lt k n ≡ true
test_low k n low = grind (arith, nat_tests)

test_high : (k n : ℕ) → n ≤ k → nat_lt k n ≡ false
test_high k n high = grind (arith, nat_tests)

module _ {X : Type 0} where
  something : (o : Option X) (x : X) → o ≡ Some x → o ≢ None
  something o x is none = absurd cc

  some_is : {a b : X} → Some a ≡ Some b → a ≡ b
  some_is same = cc

  -- those that are not below a number
  unfoldable pub from_on : ℕ → List (ℕ × X) → List (ℕ × X)
  from_on n [] = []
  from_on n (e ∷ es) = cond (nat_lt e.0 n) (from_on n es) (e ∷ from_on n es)

  pub key_first : (e : ℕ × X) (es : List (ℕ × X)) → find nat_cmp e.0 (e ∷ es) ≡ Some e.1
  key_first e es = tied e.0 e.0 (Some e.1) (find nat_cmp e.0 es) refl

  key_later : (e : ℕ × X) (es : List (ℕ × X)) (q : ℕ) → q ≢ e.0 → find nat_cmp q (e ∷ es) ≡ find nat_cmp q es
  key_later e es q away = untied q e.0 (Some e.1) (find nat_cmp q es) away

  -- what stands behind a number is above it
  found_above : (k : ℕ) (es : List (ℕ × X)) → T (below_all nat_cmp k es) → (q : ℕ) → find nat_cmp q es ≢ None → k < q
  found_above k [] low q there = absurd (there refl)
  found_above k (e ∷ es) low q there = elim (cases_eq q e.0) [
    | inl same ↦ (let less : k < e.0 = less_by k e.0 (parts _ _ low).0 in omega arith)
    | inr away ↦ found_above k es (parts _ _ low).1 q (λ none. there (key_later e es q away ∙ none))
  ]

  skipped : (n : ℕ) (e : ℕ × X) (es : List (ℕ × X)) → e.0 < n → from_on n (e ∷ es) ≡ from_on n es
  unfolding from_on
  skipped n e es low = ap (λ b. cond b (from_on n es) (e ∷ from_on n es)) (test_low e.0 n low)

  kept : (n : ℕ) (e : ℕ × X) (es : List (ℕ × X)) → n ≤ e.0 → from_on n (e ∷ es) ≡ e ∷ from_on n es
  unfolding from_on
  kept n e es high = ap (λ b. cond b (from_on n es) (e ∷ from_on n es)) (test_high e.0 n high)

  no_more : (n : ℕ) → from_on n [] ≡ []
  unfolding from_on
  no_more n = refl

  -- all stand at such numbers
  from_low : (n : ℕ) (es : List (ℕ × X)) → ((q : ℕ) → find nat_cmp q es ≢ None → n ≤ q) → T (is_sorted nat_cmp es) → from_on n es ≡ es
  from_low n [] high rising = no_more n
  from_low n (e ∷ es) high rising =
      let first : n ≤ e.0 = high e.0 (something _ e.1 (key_first e es)) in
      kept n e es first ∙ ap (λ es. e ∷ es) (from_low n es (λ q there.
      let above : e.0 < q = found_above e.0 es (parts _ _ rising).0 q there in omega arith) (parts _ _ rising).1)

  -- none do
  from_high : (n : ℕ) (es : List (ℕ × X)) → ((q : ℕ) → n ≤ q → find nat_cmp q es ≡ None) → T (is_sorted nat_cmp es) → from_on n es ≡ []
  from_high n [] none rising = no_more n
  from_high n (e ∷ es) none rising = elim (cases_lt e.0 n) [
    | inl low ↦ skipped n e es low ∙ from_high n es (λ q high. sym (key_later e es q (λ same. omega (arith, same, low, high))) ∙ none q high) (parts _ _ rising).1
    | inr high ↦ absurd (something _ e.1 (key_first e es) (none e.0 (omega (arith, high))))
  ]

  -- the next of them
  from_next : (n f : ℕ) (v : X) (es : List (ℕ × X)) → n ≤ f → find nat_cmp f es ≡ Some v → ((q : ℕ) → n ≤ q → q < f → find nat_cmp q es ≡ None) → T (is_sorted nat_cmp es)
      → from_on n es ≡ (f, v) ∷ from_on (f + 1) es
  from_next n f v [] low is none rising = absurd cc
  from_next n f v (e ∷ es) low is none rising = by_place (λ there rest. from_next n f v es low there rest (parts _ _ rising).1) (cases_eq f e.0)
    where
      above : (q : ℕ) → find nat_cmp q es ≢ None → e.0 < q
      above = found_above e.0 es (parts _ _ rising).0

      by_place : (find nat_cmp f es ≡ Some v → ((q : ℕ) → n ≤ q → q < f → find nat_cmp q es ≡ None) → from_on n es ≡ (f, v) ∷ from_on (f + 1) es)
          → (f ≡ e.0) ⊎ (f ≢ e.0) → from_on n (e ∷ es) ≡ (f, v) ∷ from_on (f + 1) (e ∷ es)
      by_place behind (inl same) =
          kept n e es (omega (arith, low, same))
          ∙ ap (λ es. e ∷ es) (from_low n es (λ q there. let high : e.0 < q = above q there in omega (arith, high, low, same)) (parts _ _ rising).1)
          ∙ ap (λ k. (k, e.1) ∷ es) (sym same)
          ∙ ap (λ x. (f, x) ∷ es) (some_is (sym (ap (λ q. find nat_cmp q (e ∷ es)) same ∙ key_first e es) ∙ is))
          ∙ ap (λ es. (f, v) ∷ es) (sym (skipped (f + 1) e es (omega (arith, same))
          ∙ from_low (f + 1) es (λ q there. let high : e.0 < q = above q there in omega (arith, high, same)) (parts _ _ rising).1))
      by_place behind (inr away) =
          let there : find nat_cmp f es ≡ Some v = sym (key_later e es f away) ∙ is in
          let lower : e.0 < f = above f (something _ v there) in
          elim (cases_lt e.0 n) [
            | inl below ↦ skipped n e es below
                ∙ behind there (λ q high less. sym (key_later e es q (λ same. omega (arith, same, below, high))) ∙ none q high less)
                ∙ ap (λ es. (f, v) ∷ es) (sym (skipped (f + 1) e es (omega (arith, lower))))
            | inr high ↦ absurd (something _ e.1 (key_first e es) (none e.0 (omega (arith, high)) lower))
          ]

  -- the same of a map
  module _ (m : FinMap nat_cmp X) where
    pub all_on : from_on 0 (entries m) ≡ entries m
    all_on = from_low 0 (entries m) (λ q there. omega arith) (entries_sorted m)

    pub none_on : (n : ℕ) → ((q : ℕ) → n ≤ q → get m q ≡ None) → from_on n (entries m) ≡ []
    none_on n none = from_high n (entries m) (λ q high. sym (get-entries m q) ∙ none q high) (entries_sorted m)

    pub next_on : (n f : ℕ) (v : X) → n ≤ f → get m f ≡ Some v → ((q : ℕ) → n ≤ q → q < f → get m q ≡ None) → from_on n (entries m) ≡ (f, v) ∷ from_on (f + 1) (entries m)
    next_on n f v low is none = from_next n f v (entries m) low (sym (get-entries m f) ∙ is) (λ q high less. sym (get-entries m q) ∙ none q high less) (entries_sorted m)

-- other values under the same keys
module _ {X Y : Type 0} (h : ℕ → Y) where
  abbrev pub keyed : List (ℕ × X) → List (ℕ × Y)
  keyed es = map (λ e. (e.0, h e.0)) es

  below_keyed : (k : ℕ) (es : List (ℕ × X)) → below_all nat_cmp k (keyed es) ≡ below_all nat_cmp k es
  below_keyed k [] = refl
  below_keyed k (e ∷ es) = ap (λ b. is_lt (nat_cmp k e.0) && b) (below_keyed k es)

  sorted_keyed : (es : List (ℕ × X)) → is_sorted nat_cmp (keyed es) ≡ is_sorted nat_cmp es
  sorted_keyed [] = refl
  sorted_keyed (e ∷ es) = ap (λ b. b && is_sorted nat_cmp (keyed es)) (below_keyed e.0 es) ∙ ap (λ b. below_all nat_cmp e.0 es && b) (sorted_keyed es)

  find_keyed : (q : ℕ) (es : List (ℕ × X)) → find nat_cmp q (keyed es) ≡ mapped (λ _. h q) (find nat_cmp q es)
  find_keyed q [] = refl
  find_keyed q (e ∷ es) = elim (cases_eq q e.0) [
    | inl same ↦ tied q e.0 (Some (h e.0)) (find nat_cmp q (keyed es)) same ∙ ap (λ k. Some (h k)) (sym same) ∙ sym (ap (mapped (λ _. h q)) (tied q e.0 (Some e.1) (find nat_cmp q es) same))
    | inr away ↦ untied q e.0 (Some (h e.0)) (find nat_cmp q (keyed es)) away ∙ find_keyed q es ∙ sym (ap (mapped (λ _. h q)) (untied q e.0 (Some e.1) (find nat_cmp q es) away))
  ]

  pub entries_keyed : (m : FinMap nat_cmp X) (n : FinMap nat_cmp Y) → ((q : ℕ) → get n q ≡ mapped (λ _. h q) (get m q)) → entries n ≡ keyed (entries m)
  entries_keyed m n same =
      let rising : T (is_sorted nat_cmp (keyed (entries m))) = subst T (sym (sorted_keyed (entries m))) (entries_sorted m) in
      ap (λ (n : FinMap nat_cmp Y). entries n) (same_map nat_cmp_total nat_cmp-IsAntisymmetric n (from_sorted (keyed (entries m))) (λ q.
      same q ∙ ap (mapped (λ _. h q)) (get-entries m q) ∙ sym (find_keyed q (entries m)) ∙ sym (get-from_sorted nat_cmp (keyed (entries m)) q rising)))
      ∙ entries-from_sorted nat_cmp (keyed (entries m)) rising

-- a number below all keys is none of them
pub apart_from : {X : Type 0} (k : ℕ) (e : ℕ × X) (es : List (ℕ × X)) → T (below_all nat_cmp k (e ∷ es)) → (e.0 ≢ k) × T (below_all nat_cmp k es)
apart_from k e es above = let low : k < e.0 = less_by k e.0 (parts _ _ above).0 in (omega arith, (parts _ _ above).1)

pub rest_rises : {X : Type 0} (e : ℕ × X) (es : List (ℕ × X)) → T (is_sorted nat_cmp (e ∷ es)) → T (below_all nat_cmp e.0 es) × T (is_sorted nat_cmp es)
rest_rises e es rising = parts _ _ rising
