-- What is kept under numbers that rise: first, and behind that.
use Rattle.std.proofs.Common.{◌≡◌, ◌≢◌, ℕ, cond, List, [], ◌∷◌, Some, None, refl, ap, sym, ◌∙◌, eq-eqb, ne_eqb}
use Rattle.std.specs.List.{AllByRecursion}
use Rattle.std.specs.List.Sorted.{IsStrictlySortedBy}
use Rattle.std.specs.Map.{keys_of}
use Rattle.std.specs.declared.cmp.Ordering.TheVariants.{Less}
use Rattle.std.specs.Ordering.{is_eq, nat_cmp}
use Rattle.call_laws.proofs.Laws.{not_none}
use Rattle.notes.specs.Patches.{kept_at}
use Rattle.notes.proofs.InodeLemmas.{tests_alike}

module _ {X : Type 0} (n : ℕ) (x : X) (rest : List (ℕ × X)) where
  pub first_kept : kept_at ((n, x) ∷ rest) n ≡ Some x
  first_kept = ap (λ b. cond b (Some x) (kept_at rest n)) (tests_alike n n ∙ eq-eqb n n refl)

  pub later_kept : (m : ℕ) → m ≢ n → kept_at ((n, x) ∷ rest) m ≡ kept_at rest m
  later_kept m away = ap (λ b. cond b (Some x) (kept_at rest m)) (tests_alike m n ∙ ne_eqb n m (λ e. away (sym e)))

absent_later : {X : Type 0} (n : ℕ) (es : List (ℕ × X)) → AllByRecursion (λ y. nat_cmp n y ≡ Less) (keys_of es) → kept_at es n ≡ None
absent_later n [] h = refl
absent_later n (e ∷ es) h = ap (λ o. cond (is_eq o) (Some e.1) (kept_at es n)) h.0 ∙ absent_later n es h.1

module _ {X : Type 0} (n : ℕ) (x : X) (rest : List (ℕ × X)) (sorted : IsStrictlySortedBy nat_cmp (keys_of ((n, x) ∷ rest))) where
  pub first_absent : kept_at rest n ≡ None
  unfolding IsStrictlySortedBy
  first_absent = absent_later n rest sorted.0

  pub rest_sorted : IsStrictlySortedBy nat_cmp (keys_of rest)
  unfolding IsStrictlySortedBy
  rest_sorted = sorted.1

  pub not_first : (m : ℕ) (y : X) → kept_at rest m ≡ Some y → m ≢ n
  not_first m y there same = not_none y (sym there ∙ ap (kept_at rest) same ∙ first_absent)
