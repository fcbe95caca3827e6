-- The places of a store after a change of one, what f makes of each place, and a row of processes as a map.
use Rattle.std.proofs.Common.{◌≡◌, ◌≢◌, ℕ, suc, ◌-◌, ◌≤◌, ◌<◌, Bool, true, false, ◌&&◌, cond, List, [], ◌∷◌, get_or, Option, Some, None, nat_cmp, refl, sym, ap, subst, ◌∙◌, arith, inl, inr}
use Rattle.std.specs.Prelude.{T}
use Rattle.std.specs.Option.{option_map, option_and_then}
use Rattle.std.specs.Ordering.{eq_by_cmp, is_eq, is_lt}
use Rattle.std.specs.declared.cmp.Ordering.{Ordering}
use Rattle.std.specs.declared.cmp.Ordering.TheVariants.{Less, Equal, Greater}
use Rattle.std.specs.Cmp.{nat_cmp_total}
use Rattle.std.specs.FinMap.Entries.{find, is_sorted, below_all}
use Rattle.std.proofs.lemmas.Bool.{cases_eq}
use Rattle.std.proofs.lemmas.List.{get_or_past}
use Rattle.model.specs.FiniteMap.{FinMap, get, remove, entries, entries_sorted, get-entries, get-from_entries, get-remove, same_map, nat_cmp-IsAntisymmetric}
use Rattle.model.specs.Places.{placed}
use Rattle.model.proofs.Laws.{get_same, get_other, removed_same, removed_other, tie, tied, untied}
use Rattle.store.specs.Numbers.{Numbers}
use Rattle.store.specs.Places.{altered_by, altered, is_over, swept}
use Rattle.store.specs.Shown.{chosen, chosen_entries, in_front}
use Rattle.store.specs.declared.Place.{Place}

abbrev pub without_place : Numbers → ℕ → Numbers
without_place s n = record s { places = remove s.places n; rights = remove s.rights n }

module _ (f : Place → Place) (s : Numbers) (n : ℕ) where
  -- the places after a change of one
  pub place_altered : get (altered f s n).places n ≡ option_map f (get s.places n)
  place_altered = by_place (get s.places n) refl
    where
      by_place : (o : Option Place) → get s.places n ≡ o → get (altered_by f o s.places n) n ≡ option_map f o
      by_place (Some place) is = get_same s.places n (f place)
      by_place None is = is

  pub place_other : (q : ℕ) → q ≢ n → get (altered f s n).places q ≡ get s.places q
  place_other q away = by_place (get s.places n)
    where
      by_place : (o : Option Place) → get (altered_by f o s.places n) q ≡ get s.places q
      by_place (Some place) = get_other s.places n q (f place) away
      by_place None = refl

module _ (s : Numbers) (n : ℕ) where
  -- the places after a sweep
  pub place_swept_other : (q : ℕ) → q ≢ n → get (swept s n).places q ≡ get s.places q
  place_swept_other q away = by_test (is_over (get s.places n))
    where
      by_test : (b : Bool) → get (cond b (without_place s n) s).places q ≡ get s.places q
      by_test true = removed_other s.places n q away
      by_test false = refl

  pub place_over : is_over (get s.places n) ≡ true → get (swept s n).places n ≡ None
  place_over over = ap (λ b. get (cond b (without_place s n) s).places n) over ∙ removed_same s.places n

  pub swept_stays : is_over (get s.places n) ≡ false → swept s n ≡ s
  swept_stays left = ap (λ b. cond b (without_place s n) s) left

-- the map of what f makes of each value
tied_key : (q n : ℕ) → eq_by_cmp nat_cmp q n ≡ true → q ≡ n
tied_key q n e = nat_cmp-IsAntisymmetric q n (tie (nat_cmp q n) e)

parts : (a b : Bool) → T (a && b) → T a × T b
parts true b h = (tt, h)
parts false b h = absurd h

less_is_not : (o : Ordering) → T (is_lt o) → is_eq o ≡ false
less_is_not Less h = refl
less_is_not Equal h = absurd h
less_is_not Greater h = absurd h

module _ {X Y : Type 0} (f : X → Option Y) where
  none_above : (q : ℕ) (es : List (ℕ × X)) → T (below_all nat_cmp q es) → find nat_cmp q (chosen_entries f es) ≡ None
  none_above q [] h = refl
  none_above q (e ∷ es) h = skipped (f e.1) (none_above q es (parts _ _ h).1)
    where
      skipped : (y : Option Y) → find nat_cmp q (chosen_entries f es) ≡ None → find nat_cmp q (in_front e.0 y (chosen_entries f es)) ≡ None
      skipped None rest = rest
      skipped (Some y) rest = ap (λ b. cond b (Some y) (find nat_cmp q (chosen_entries f es))) (less_is_not _ (parts _ _ h).0) ∙ rest

  find_chosen : (q : ℕ) (es : List (ℕ × X)) → T (is_sorted nat_cmp es) → find nat_cmp q (chosen_entries f es) ≡ option_and_then f (find nat_cmp q es)
  find_chosen q [] s = refl
  find_chosen q (e ∷ es) s = by_first (find_chosen q es (parts _ _ s).1) (eq_by_cmp nat_cmp q e.0) refl (f e.1) refl
    where
      by_first : find nat_cmp q (chosen_entries f es) ≡ option_and_then f (find nat_cmp q es) → (t : Bool) → eq_by_cmp nat_cmp q e.0 ≡ t → (y : Option Y) → f e.1 ≡ y → find nat_cmp q (in_front e.0 y (chosen_entries f es)) ≡ option_and_then f (cond t (Some e.1) (find nat_cmp q es))
      by_first rest true is (Some y) made = ap (λ b. cond b (Some y) (find nat_cmp q (chosen_entries f es))) is ∙ sym made
      by_first rest true is None made = none_above q es (subst (λ n. T (below_all nat_cmp n es)) (sym (tied_key q e.0 is)) (parts _ _ s).0) ∙ sym made
      by_first rest false is (Some y) made = ap (λ b. cond b (Some y) (find nat_cmp q (chosen_entries f es))) is ∙ rest
      by_first rest false is None made = rest

  pub get_chosen : (m : FinMap nat_cmp X) (q : ℕ) → get (chosen f m) q ≡ option_and_then f (get m q)
  unfolding chosen
  get_chosen m q = get-from_entries nat_cmp_total (chosen_entries f (entries m)) q ∙ find_chosen q (entries m) (entries_sorted m) ∙ ap (option_and_then f) (sym (get-entries m q))

-- a number that is not there may be removed
pub remove_absent : {Y : Type 0} (m : FinMap nat_cmp Y) (n : ℕ) → get m n ≡ None → remove m n ≡ m
remove_absent m n none = same_map nat_cmp_total nat_cmp-IsAntisymmetric _ _ (λ q. get-remove nat_cmp_total m n q ∙ same q (eq_by_cmp nat_cmp q n) refl)
  where
    same : (q : ℕ) (t : Bool) → eq_by_cmp nat_cmp q n ≡ t → cond t None (get m q) ≡ get m q
    same q true is = sym (ap (get m) (tied_key q n is) ∙ none)
    same q false is = refl

-- a row of places from any first number on
module _ {X : Type 0} where
  pub none_before : (first : ℕ) (xs : List (Option X)) (q : ℕ) → q < first → find nat_cmp q (placed first xs) ≡ None
  none_before first [] q low = refl
  none_before first (None ∷ xs) q low = none_before (suc first) xs q (omega arith)
  none_before first (Some x ∷ xs) q low = untied q first (Some x) (find nat_cmp q (placed (suc first) xs)) (λ e. omega arith) ∙ none_before (suc first) xs q (omega arith)

  pub find_placed : (first : ℕ) (xs : List (Option X)) (q : ℕ) → first ≤ q → find nat_cmp q (placed first xs) ≡ get_or xs (q - first) None
  find_placed first [] q low = sym (get_or_past [] (q - first) None (omega arith))
  find_placed first (o ∷ xs) q low =
      elim (cases_eq q first) [
        | inl e ↦
            let none : q - first ≡ 0 = omega arith in
            first_one o e ∙ sym (ap (λ n. get_or (o ∷ xs) n None) none)
        | inr away ↦
            let more : q - first ≡ suc (q - suc first) = omega arith in
            later o away ∙ find_placed (suc first) xs q (omega arith) ∙ sym (ap (λ n. get_or (o ∷ xs) n None) more)
      ]
    where
      first_one : (o : Option X) → q ≡ first → find nat_cmp q (placed first (o ∷ xs)) ≡ o
      first_one None e = none_before (suc first) xs q (omega arith)
      first_one (Some x) e = tied q first (Some x) (find nat_cmp q (placed (suc first) xs)) e

      later : (o : Option X) → q ≢ first → find nat_cmp q (placed first (o ∷ xs)) ≡ find nat_cmp q (placed (suc first) xs)
      later None away = refl
      later (Some x) away = untied q first (Some x) (find nat_cmp q (placed (suc first) xs)) away
