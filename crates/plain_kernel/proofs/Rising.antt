-- Numbers that rise: how far each stands behind the first one of a search, and which numbers are none of them.
use Rattle.std.proofs.Common.{◌≡◌, ◌≢◌, ℕ, zero, suc, ◌+◌, ◌-◌, ◌/◌, ◌<◌, ◌≤◌, Bool, true, false, cond, List, [], ◌∷◌, length, get_or, map, Option, Some, None, IsTrue, nat_cmp, refl, sym, ap, ◌∙◌, arith, inl, inr, eq-eqb}
use Rattle.std.proofs.lemmas.Bool.Decides.{nat_tests}
use Rattle.std.specs.Ordering.{match_ordering}
use Rattle.std.specs.declared.cmp.Ordering.{Ordering}
use Rattle.std.specs.declared.cmp.Ordering.TheVariants.{Less, Equal, Greater}
use Rattle.std.specs.FinMap.Entries.{find, is_sorted, below_all}
use Rattle.std.proofs.lemmas.Bool.{cases_lt}
use Rattle.std.proofs.lemmas.List.{get_or_read}
use Rattle.model.specs.FiniteMap as finite
use Rattle.model.proofs.Laws.{apart}
use Rattle.plain_kernel.specs.Indices.{rank}
use Rattle.plain_kernel.proofs.Halved.{both_parts, less_by}
use Rattle.plain_kernel.proofs.Kept.{as_test}
use Rattle.plain_kernel.proofs.Keyed.{test_is}

less_is : (m n : ℕ) → nat_cmp m n ≡ Less → m < n
less_is m n h = grind (arith, nat_tests)

same_is : (m n : ℕ) → nat_cmp m n ≡ Equal → m ≡ n
same_is m n h = grind (arith, nat_tests)

more_is : (m n : ℕ) → nat_cmp m n ≡ Greater → n < m
more_is m n h = grind (arith, nat_tests)

module _ {X : Type 0} where
  -- the number at a place
  abbrev pub key : List (ℕ × X) → ℕ → ℕ
  key es i = get_or (map (λ e. e.0) es) i 0

  -- a number below all lies below each of them
  above_first : (x : ℕ) (es : List (ℕ × X)) → below_all nat_cmp x es ≡ true → (i : ℕ) → i < length es → x < key es i
  above_first x [] h i low = absurd (omega arith)
  above_first x (e ∷ es) h zero low = less_is x e.0 (less_by _ (both_parts _ _ h).0)
  above_first x (e ∷ es) h (suc i) low = above_first x es (both_parts _ _ h).1 i (omega arith)

  -- two of them are as far apart as their places, at least
  far : (es : List (ℕ × X)) → IsTrue (is_sorted nat_cmp es) → (i j : ℕ) → i ≤ j → j < length es → key es i + (j - i) ≤ key es j
  far [] s i j rising low = absurd (omega arith)
  far (e ∷ es) s zero zero rising low = (let h : e.0 + 0 ≤ e.0 = omega arith in h)
  far (e ∷ es) s zero (suc j) rising low =
      let first : e.0 < key es 0 = above_first e.0 es (both_parts _ _ s).0 0 (omega arith) in
      let rest : key es 0 + (j - 0) ≤ key es j = far es (both_parts _ _ s).1 0 j (omega arith) (omega arith) in
      let h : e.0 + (suc j - 0) ≤ key es j = omega (arith, first, rest) in h
  far (e ∷ es) s (suc i) zero rising low = absurd (omega arith)
  far (e ∷ es) s (suc i) (suc j) rising low =
      let rest : key es i + (j - i) ≤ key es j = far es (both_parts _ _ s).1 i j (omega arith) (omega arith) in
      let h : key es i + (suc j - suc i) ≤ key es j = omega (arith, rest) in h

  -- from the place of a number on no lower one stands
  not_lower : (q : ℕ) (es : List (ℕ × X)) → IsTrue (is_sorted nat_cmp es) → (i : ℕ) → rank nat_cmp q es ≤ i → i < length es → q ≤ key es i
  not_lower q [] s i from low = absurd (omega arith)
  not_lower q (e ∷ es) s i from low = by (nat_cmp q e.0) refl (not_lower q es (both_parts _ _ s).1) i from low
    where
      by : (o : Ordering) → nat_cmp q e.0 ≡ o → ((j : ℕ) → rank nat_cmp q es ≤ j → j < length es → q ≤ key es j)
          → (i : ℕ) → match_ordering o 0 0 (suc (rank nat_cmp q es)) ≤ i → i < suc (length es) → q ≤ key (e ∷ es) i
      by Less h rest zero from low = (let a : q < e.0 = less_is q e.0 h in let b : q ≤ e.0 = omega (arith, a) in b)
      by Less h rest (suc i) from low = (let a : q < e.0 = less_is q e.0 h in let b : e.0 < key es i = above_first e.0 es (both_parts _ _ s).0 i (omega arith) in let c : q ≤ key es i = omega (arith, a, b) in c)
      by Equal h rest zero from low = (let a : q ≡ e.0 = same_is q e.0 h in let b : q ≤ e.0 = omega (arith, a) in b)
      by Equal h rest (suc i) from low = (let a : q ≡ e.0 = same_is q e.0 h in let b : e.0 < key es i = above_first e.0 es (both_parts _ _ s).0 i (omega arith) in let c : q ≤ key es i = omega (arith, a, b) in c)
      by Greater h rest zero from low = absurd (omega arith)
      by Greater h rest (suc i) from low = rest i (omega arith) (omega arith)

  -- before it all are lower
  lower : (q : ℕ) (es : List (ℕ × X)) (i : ℕ) → i < rank nat_cmp q es → key es i < q
  lower q [] i low = absurd (omega arith)
  lower q (e ∷ es) i low = by (nat_cmp q e.0) refl (lower q es) i low
    where
      by : (o : Ordering) → nat_cmp q e.0 ≡ o → ((j : ℕ) → j < rank nat_cmp q es → key es j < q)
          → (i : ℕ) → i < match_ordering o 0 0 (suc (rank nat_cmp q es)) → key (e ∷ es) i < q
      by Less h rest i low = absurd (omega arith)
      by Equal h rest i low = absurd (omega arith)
      by Greater h rest zero low = more_is q e.0 h
      by Greater h rest (suc i) low = rest i (omega arith)

  -- what stands nowhere gives nothing
  none_there : (q : ℕ) (es : List (ℕ × X)) → ((i : ℕ) → i < length es → key es i ≢ q) → find nat_cmp q es ≡ None
  none_there q [] h = refl
  none_there q (e ∷ es) h = ap (λ b. cond b (Some e.1) (find nat_cmp q es)) (apart q e.0 (λ is. h 0 (omega arith) (sym is))) ∙ none_there q es (λ i low. h (suc i) (omega arith))

  rest_none : (b : Bool) (x : X) (o : Option X) → cond b (Some x) o ≡ None → o ≡ None
  rest_none true x o h = absurd cc
  rest_none false x o h = h

  -- what stands somewhere gives something
  some_there : (q : ℕ) (es : List (ℕ × X)) (i : ℕ) → i < length es → key es i ≡ q → find nat_cmp q es ≢ None
  some_there q [] i low is none = absurd (omega arith)
  some_there q (e ∷ es) zero low is none =
      absurd (let h : Some e.1 ≡ None = sym (ap (λ b. cond b (Some e.1) (find nat_cmp q es)) (test_is q e.0 ∙ eq-eqb q e.0 (sym is))) ∙ none in cc)
  some_there q (e ∷ es) (suc i) low is none = some_there q es i (omega arith) is (rest_none _ _ _ none)

  -- what is read at a place has the number of that place
  key_is : (es : List (ℕ × X)) (i : ℕ) (d : ℕ × X) → i < length es → (get_or es i d).0 ≡ key es i
  key_is [] i d low = absurd (omega arith)
  key_is (e ∷ es) zero d low = refl
  key_is (e ∷ es) (suc i) d low = key_is es i d (omega arith)

  pub key_read : (es : List (ℕ × X)) (i : ℕ) (e : ℕ × X) → i < length es → e ≡ get_or es i e → e.0 ≡ key es i
  key_read es i e low is = ap (λ (e : ℕ × X). e.0) (get_or_read es i e low is e) ∙ key_is es i e low

  -- A search for the first number from this one on that stands nowhere. It begins where this one would stand.
  module _ (es : List (ℕ × X)) (s : IsTrue (is_sorted nat_cmp es)) (first start : ℕ) (is : start ≡ rank nat_cmp first es) where
    -- each stands behind it as far as its place is from the first place, at least
    pub at_least : (i : ℕ) → start ≤ i → i < length es → first + (i - start) ≤ key es i
    at_least i from low =
        let a : first ≤ key es start = not_lower first es s start (omega (arith, is)) (omega arith) in
        let b : key es start + (i - start) ≤ key es i = far es s start i from low in
        omega (arith, a, b)

    -- where one stands no farther, none before it does
    pub close : (m : ℕ) → start ≤ m → m < length es → key es m ≡ first + (m - start) → (i : ℕ) → start ≤ i → i ≤ m → key es i ≡ first + (i - start)
    close m from low here i above below =
        let a : first + (i - start) ≤ key es i = at_least i above (omega arith) in
        let b : key es i + (m - i) ≤ key es m = far es s i m below low in
        omega (arith, a, b, here, above, below)

    -- where one stands farther, all behind it do
    pub wide : (m : ℕ) → start ≤ m → first + (m - start) < key es m → (i : ℕ) → m ≤ i → i < length es → first + (i - start) < key es i
    wide m from here i above below =
        let b : key es m + (i - m) ≤ key es i = far es s m i above below in
        omega (arith, b, here, from, above)

    -- a step of the search, at the place in the middle
    module _ (low high : ℕ) (from : start ≤ low) (within : high ≤ length es) (some : low < high) (num : ℕ) (is_num : num ≡ key es (low + (high - low) / 2)) where
      inside : low + (high - low) / 2 < length es
      inside = omega (arith, within, some)

      least : first + (low + (high - low) / 2 - start) ≤ num
      least =
          let a : first + (low + (high - low) / 2 - start) ≤ key es (low + (high - low) / 2) = at_least (low + (high - low) / 2) (omega (arith, from)) inside in
          omega (arith, a, is_num)

      pub not_before : first ≤ num
      not_before = let a = least in omega (arith, a)

      pub taken_more : num - first ≡ low + (high - low) / 2 - start → (i : ℕ) → start ≤ i → i < low + (high - low) / 2 + 1 → key es i ≡ first + (i - start)
      taken_more near i above below =
          let a : first + (low + (high - low) / 2 - start) ≤ num = least in
          let here : key es (low + (high - low) / 2) ≡ first + (low + (high - low) / 2 - start) = omega (arith, a, near, is_num) in
          close (low + (high - low) / 2) (omega (arith, from)) inside here i above (omega (arith, below))

      pub wider_more : (num - first ≡ low + (high - low) / 2 - start → ⊥) → (i : ℕ) → low + (high - low) / 2 ≤ i → i < length es → first + (i - start) < key es i
      wider_more apart i above below = elim (cases_lt (first + (low + (high - low) / 2 - start)) num) [
        | inl past ↦
            let here : first + (low + (high - low) / 2 - start) < key es (low + (high - low) / 2) = omega (arith, past, is_num) in
            wide (low + (high - low) / 2) (omega (arith, from)) here i above below
        | inr near ↦ (let a : first + (low + (high - low) / 2 - start) ≤ num = least in absurd (apart (omega (arith, a, near))))
      ]

    -- the end of the search: so many stand no farther, and the others do
    module _ (low : ℕ) (from : start ≤ low) (within : low ≤ length es)
        (taken : (i : ℕ) → start ≤ i → i < low → key es i ≡ first + (i - start)) (wider : (i : ℕ) → low ≤ i → i < length es → first + (i - start) < key es i) where
      pub free_at : finite.get (finite.from_sorted {R = nat_cmp} es) (first + (low - start)) ≡ None
      free_at = finite.get-from_sorted nat_cmp es (first + (low - start)) (as_test _ s) ∙ none_there (first + (low - start)) es (λ i inside same. elim (cases_lt i start) [
        | inl before ↦ (let a : key es i < first = lower first es i (omega (arith, is, before)) in omega (arith, a, same))
        | inr behind ↦ elim (cases_lt i low) [
          | inl here ↦ (let a : key es i ≡ first + (i - start) = taken i behind here in omega (arith, a, same, from, here, behind))
          | inr past ↦ (let a : first + (i - start) < key es i = wider i past inside in omega (arith, a, same, from, past))
        ]
      ])

      pub taken_at : (n : ℕ) → first ≤ n → n < first + (low - start) → finite.get (finite.from_sorted {R = nat_cmp} es) n ≢ None
      taken_at n above below none =
          let place : start + (n - first) < low = omega (arith, above, below) in
          let back : first + (start + (n - first) - start) ≡ n = omega (arith, above) in
          some_there n es (start + (n - first)) (omega (arith, place, within)) (taken (start + (n - first)) (omega arith) place ∙ back)
          (sym (finite.get-from_sorted nat_cmp es n (as_test _ s)) ∙ none)
