-- The names of a directory with notes on top.
use Rattle.std.proofs.Common.{◌≡◌, ℕ, zero, suc, ◌+◌, ◌<◌, ◌≤◌, ◌==◌, Bool, true, false, not, ◌&&◌, ◌||◌, cond, List, [], ◌∷◌, ◌++◌, length, length-append, Option, Some, None, is_some, nat_eq, IsPermutation, IsSorted, refl, sym, ap, subst, ◌∙◌, arith}
use Rattle.std.proofs.lemmas.Bool.Decides.{nat_tests}
use Rattle.std.proofs.lemmas.List.Folds.{list_all-map, list_any-append}
use Rattle.std.proofs.lemmas.Map.Entries.{length-keys_of, lookup-filter-values, option_filter}
use Rattle.std.proofs.lemmas.Map.Keys.{IsDistinct-cons, IsDistinct-from_sorted, IsDistinct-head, IsDistinct-tail}
use Rattle.std.proofs.lemmas.Map.Made.{is_some-lookup, IsDistinct-keys_filter, length-from_same_keys, length-le_from_is_member}
use Rattle.std.proofs.lemmas.Map.Views.{any-filter_same}
use Rattle.std.specs.Cmp.{IsEquivalence, eq_by_cmp_equiv}
use Rattle.std.specs.Cmp.Lexicographic.{pointwise, texts_ties}
use Rattle.std.specs.List.{AllByRecursion, IsDistinct, filter, list_all, list_any}
use Rattle.std.specs.Map.{keys_of, lookup, values_of}
use Rattle.std.specs.Option.{is_none}
use Rattle.std.specs.Ordering.{eq_by_cmp, is_eq}
use Rattle.std.specs.declared.cmp.Ordering.{Ordering}
use Rattle.std.specs.declared.cmp.Ordering.TheVariants.{Less, Equal, Greater}
use Rattle.model.specs.FiniteMap.{FinMap, contains_key-keys, entries, entries_sorted, from_entries, get, get_tied, keys, len, len-entries}
use Rattle.dirlist.specs.Patches.{IsLaid, Notes, or_before}
use Rattle.model.specs.State.{Name, name_cmp}
use Rattle.model.proofs.Laws.{get_at}
use Rattle.dirlist.proofs.Names.{name_exact, name_total}
use Rattle.dirlist.proofs.Ordered.{distinct-append, keys_rise, sorted_keys}

-- whether two names tie
abbrev pub same : Name → Name → Bool
same = eq_by_cmp name_cmp

-- names that differ by their bytes differ by their order
pub by_order : (ks : List Name) → IsDistinct (pointwise nat_eq) ks → IsDistinct same ks
by_order ks = subst (λ (e : Name → Name → Bool). IsDistinct e ks) (λ i x y. texts_ties x y i)

laws : IsEquivalence same
laws = eq_by_cmp_equiv name_total

tied : (o : Ordering) → is_eq o ≡ true → o ≡ Equal
tied Less e = absurd cc
tied Equal e = refl
tied Greater e = absurd cc

none_by : {A : Type 0} (o : Option A) → is_none o ≡ true → o ≡ None
none_by None e = refl
none_by (Some x) e = absurd cc

-- what holds of all holds of those that pass
all_filter : {A : Type 0} (P : A → Type 0) (p : A → Bool) (xs : List A) → AllByRecursion P xs → AllByRecursion P (filter p xs)
all_filter P p [] h = tt
all_filter P p (x ∷ xs) h = elim (p x) as (λ b. AllByRecursion P (cond b (x ∷ filter p xs) (filter p xs))) [ true ↦ (h.0, all_filter P p xs h.1) | false ↦ all_filter P p xs h.1 ]

-- what follows from passing holds of those that pass
all_filtered : {A : Type 0} (P : A → Type 0) (p : A → Bool) → ((x : A) → p x ≡ true → P x) → (xs : List A) → AllByRecursion P (filter p xs)
all_filtered P p h [] = tt
all_filtered P p h (x ∷ xs) = elim (p x) as (λ b. p x ≡ b → AllByRecursion P (cond b (x ∷ filter p xs) (filter p xs))) [ true ↦ λ e. (h x e, all_filtered P p h xs) | false ↦ λ e. all_filtered P p h xs ] refl

-- those that pass differ where all do
distinct_filter : {K : Type 0} (eq : K → K → Bool) (p : K → Bool) (xs : List K) → IsDistinct eq xs → IsDistinct eq (filter p xs)
distinct_filter eq p [] d = d
distinct_filter eq p (x ∷ xs) d =
    let rest = distinct_filter eq p xs (IsDistinct-tail eq x xs d) in
    elim (p x) as (λ b. IsDistinct eq (cond b (x ∷ filter p xs) (filter p xs))) [
      | true ↦ IsDistinct-cons eq x (filter p xs) (all_filter (λ y. eq x y ≡ false) p xs (IsDistinct-head eq x xs d)) rest
      | false ↦ rest
    ]

positive : (n : ℕ) → (suc n == 0) ≡ false
positive n = grind (arith, nat_tests)

-- none passes where each has what does not pass
none_left : {A : Type 0} (p r : A → Bool) → ((x : A) → r x ≡ not (p x)) → (xs : List A) → (length (filter p xs) == 0) ≡ list_all r xs
none_left p r other [] = refl
none_left p r other (x ∷ xs) =
    elim (p x) as (λ b. (length (cond b (x ∷ filter p xs) (filter p xs)) == 0) ≡ (not b && list_all r xs)) [ true ↦ positive (length (filter p xs)) | false ↦ none_left p r other xs ]
    ∙ ap (λ b. b && list_all r xs) (sym (other x))

-- a sum is 0 where both numbers are
zero_sum : (m n : ℕ) → (m + n == 0) ≡ ((m == 0) && (n == 0))
zero_sum zero n = ap (λ k. k == 0) (let sum : 0 + n ≡ n = omega arith in sum)
zero_sum (suc m) n = (let sum : suc m + n ≡ suc (m + n) = omega arith in ap (λ k. k == 0) sum) ∙ positive (m + n) ∙ ap (λ b. b && (n == 0)) (sym (positive m))

-- what holds of all names of a list holds of a name that it has
all_any : (r : Name → Bool) (q : Name) → ((x : Name) → same q x ≡ true → r x ≡ r q) → (xs : List Name) → list_all r xs ≡ true → list_any (same q) xs ≡ true → r q ≡ true
all_any r q alike [] h k = absurd cc
all_any r q alike (x ∷ xs) h k =
    elim (same q x) as (λ b. same q x ≡ b → (b || list_any (same q) xs) ≡ true → r q ≡ true) [
      | true ↦ λ e _. sym (alike x e) ∙ both (r x) (list_all r xs) h
      | false ↦ λ e k. all_any r q alike xs (later (r x) (list_all r xs) h) k
    ] refl k
  where
    both : (a b : Bool) → (a && b) ≡ true → a ≡ true
    both true b e = refl
    both false b e = absurd cc

    later : (a b : Bool) → (a && b) ≡ true → b ≡ true
    later true b e = e
    later false b e = absurd cc

-- the names of a directory, sorted
pub table_sorted : (es : List (Name × ℕ)) → IsDistinct (pointwise nat_eq) (keys_of es) → (ks : List Name) → IsPermutation (keys_of es) ks → IsSorted name_cmp ks → ks ≡ keys (from_entries {R = name_cmp} es)
table_sorted es differ ks moved sorted =
    sorted_keys name_total name_exact (from_entries {R = name_cmp} es) (keys_of es) ks moved sorted (by_order (keys_of es) differ) (λ q.
    sym (is_some-lookup (same q) es) ∙ ap is_some (sym (get_at name_total name_exact same (λ x y. refl) es q)))

-- the names of which nothing is noted
abbrev pub unnoted : Notes → List (Name × ℕ) → List Name
unnoted notes es = filter (λ x. is_none (get notes x)) (keys_of es)

-- the names that are noted with a number
abbrev pub given : List (Name × Option ℕ) → List Name
given gs = keys_of (filter (λ e. is_some e.1) gs)

-- a name is there where nothing is noted of it and it was there, or where a number is noted
by_cases : (now : Option (Option ℕ)) (before : Option ℕ) → ((is_none now && is_some before) || is_some (option_filter is_some now)) ≡ is_some (or_before now before)
by_cases None None = refl
by_cases None (Some n) = refl
by_cases (Some None) before = refl
by_cases (Some (Some n)) before = refl

module _ (gs : List (Name × Option ℕ)) (es : List (Name × ℕ)) (gs_differ : IsDistinct same (keys_of gs)) (es_differ : IsDistinct same (keys_of es)) where
  abbrev notes : Notes
  notes = from_entries gs

  abbrev before : FinMap name_cmp ℕ
  before = from_entries es

  noted : (q : Name) → get notes q ≡ lookup (same q) gs
  noted q = get_at name_total name_exact same (λ x y. refl) gs q

  alike : (q x : Name) → same q x ≡ true → get notes x ≡ get notes q
  alike q x e = get_tied name_total notes q x (tied _ e)

  given_at : (q : Name) → list_any (same q) (given gs) ≡ is_some (option_filter is_some (get notes q))
  given_at q =
      sym (is_some-lookup (same q) (filter (λ (e : Name × Option ℕ). is_some e.1) gs))
      ∙ ap is_some (lookup-filter-values laws is_some q gs gs_differ ∙ ap (option_filter is_some) (sym (noted q)))

  unnoted_at : (q : Name) → list_any (same q) (unnoted notes es) ≡ (is_none (get notes q) && is_some (get before q))
  unnoted_at q =
      any-filter_same (same q) (λ x. is_none (get notes x)) (is_none (get notes q)) (λ x e. ap is_none (alike q x e)) (keys_of es)
      ∙ ap (λ b. is_none (get notes q) && b) (sym (is_some-lookup (same q) es) ∙ ap is_some (sym (get_at name_total name_exact same (λ x y. refl) es q)))

  -- no name is among both, or twice among one
  distinct_laid : IsDistinct same (unnoted notes es ++ given gs)
  distinct_laid =
      distinct-append same (unnoted notes es) (given gs)
      (distinct_filter same (λ x. is_none (get notes x)) (keys_of es) es_differ)
      (IsDistinct-keys_filter same (λ e. is_some e.1) gs gs_differ)
      (all_filtered (λ x. list_any (same x) (given gs) ≡ false) (λ x. is_none (get notes x)) (λ x e.
      given_at x ∙ ap (λ o. is_some (option_filter is_some o)) (none_by _ e)) (keys_of es))

  -- the notes leave these names
  module _ (names : FinMap name_cmp ℕ) (laid : IsLaid notes before names) where
    -- these are the names that are there
    laid_at : (q : Name) → list_any (same q) (unnoted notes es ++ given gs) ≡ is_some (get names q)
    laid_at q =
        list_any-append (same q) (unnoted notes es) (given gs)
        ∙ (λ i. unnoted_at q i || given_at q i)
        ∙ by_cases (get notes q) (get before q)
        ∙ ap is_some (sym (laid q))

    -- so they are the names, once they are sorted
    pub laid_sorted : (ks : List Name) → IsPermutation (unnoted notes es ++ given gs) ks → IsSorted name_cmp ks → ks ≡ keys names
    laid_sorted ks moved sorted = sorted_keys name_total name_exact names _ ks moved sorted distinct_laid laid_at

    -- there is none where each name before is noted and no number is
    pub laid_empty : (len names == 0) ≡ (list_all (λ x. is_some (get notes x)) (keys_of es) && list_all (λ e. is_none e.1) gs)
    laid_empty =
        let kept : List Name = unnoted notes es in
        let many : length (keys names) ≡ length (kept ++ given gs)
        = length-from_same_keys laws (keys names) (kept ++ given gs) (IsDistinct-from_sorted name_cmp (keys names) (keys_rise name_total (entries names) (entries_sorted names))) distinct_laid (λ q. sym (contains_key-keys names q) ∙ sym (laid_at q)) in
        ap (λ n. n == 0) (len-entries names ∙ sym (length-keys_of (entries names)) ∙ many ∙ length-append kept (given gs))
        ∙ zero_sum (length kept) (length (given gs))
        ∙ (λ i. none_left (λ x. is_none (get notes x)) (λ x. is_some (get notes x)) (λ x. twice (is_some (get notes x))) (keys_of es) i
        && (ap (λ n. n == 0) (length-keys_of (filter (λ (e : Name × Option ℕ). is_some e.1) gs)) ∙ none_left (λ e. is_some e.1) (λ e. is_none e.1) (λ e. refl) gs) i)
      where
        twice : (b : Bool) → b ≡ not (not b)
        twice true = refl
        twice false = refl

    -- fewer notes than names leave one
    pub laid_full : length gs < length es → (len names == 0) ≡ false
    laid_full more = laid_empty ∙ by (list_all (λ x. is_some (get notes x)) (keys_of es)) refl
      where
        fits : list_all (λ x. is_some (get notes x)) (keys_of es) ≡ true → length (keys_of es) ≤ length (keys_of gs)
        fits all =
            length-le_from_is_member laws (keys_of es) (keys_of gs) es_differ (λ q has.
            sym (is_some-lookup (same q) gs) ∙ ap is_some (sym (noted q))
            ∙ all_any (λ x. is_some (get notes x)) q (λ x e. ap is_some (alike q x e)) (keys_of es) all has)

        by : (b : Bool) → list_all (λ x. is_some (get notes x)) (keys_of es) ≡ b → (b && list_all (λ e. is_none e.1) gs) ≡ false
        by true e = let short = fits e in let a = length-keys_of es in let b = length-keys_of gs in absurd (omega arith)
        by false e = refl

-- the same under other names for the notes and for the names before
module _ (gs : List (Name × Option ℕ)) (es : List (Name × ℕ)) (gs_differ : IsDistinct (pointwise nat_eq) (keys_of gs)) (es_differ : IsDistinct (pointwise nat_eq) (keys_of es)) (notes : Notes) (before : FinMap name_cmp ℕ) (notes_are : from_entries gs ≡ notes) (before_is : from_entries es ≡ before) (names : FinMap name_cmp ℕ) (laid : IsLaid notes before names) where
  differ : IsDistinct same (keys_of gs)
  differ = by_order (keys_of gs) gs_differ

  laid_so : IsLaid (from_entries gs) (from_entries es) names
  laid_so q = laid q ∙ (λ i. or_before (get (sym notes_are i) q) (get (sym before_is i) q))

  pub sorted_over : (us ks : List Name) → us ≡ filter (λ x. is_none (get notes x)) (keys_of es) ++ given gs → IsPermutation us ks → IsSorted name_cmp ks → ks ≡ keys names
  sorted_over us ks are moved sorted =
      laid_sorted gs es differ (by_order (keys_of es) es_differ) names laid_so ks
      (subst (λ us. IsPermutation us ks) (are ∙ ap (λ (n : Notes). unnoted n es ++ given gs) (sym notes_are)) moved) sorted

  pub empty_over : (list_all (λ x. is_some (get notes x)) (keys_of es) && list_all (λ v. is_none v) (values_of gs)) ≡ (len names == 0)
  empty_over =
      (λ i. list_all (λ x. is_some (get (sym notes_are i) x)) (keys_of es) && list_all-map (λ (v : Option ℕ). is_none v) (λ (e : Name × Option ℕ). e.1) gs i)
      ∙ sym (laid_empty gs es differ (by_order (keys_of es) es_differ) names laid_so)

  pub full_over : length gs < length es → false ≡ (len names == 0)
  full_over more = sym (laid_full gs es differ (by_order (keys_of es) es_differ) names laid_so more)
