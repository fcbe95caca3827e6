-- The map that entries make, in whatever order a table keeps them.
use Rattle.std.proofs.Common.{◌≡◌, ◌+◌, Bool, false, cond, List, [], ◌∷◌, length, refl, ap, ◌∙◌, arith}
use Rattle.std.proofs.lemmas.Map.Keys.{IsDistinct-head, IsDistinct-tail}
use Rattle.std.proofs.lemmas.Map.Made.{is_some-lookup}
use Rattle.std.specs.Option.{is_some}
use Rattle.std.specs.List.{AllByRecursion, IsDistinct, list_any}
use Rattle.std.specs.Map.{keys_of}
use Rattle.std.specs.Ordering.{eq_by_cmp}
use Rattle.std.specs.declared.cmp.Ordering.{Ordering}
use Rattle.std.specs.Cmp.{IsTotalOrder}
use Rattle.model.specs.FiniteMap as finite
use Rattle.model.proofs.Laws.{get_at}

-- what no element passes
pub none_passes : {A : Type 0} (test : A → Bool) (xs : List A) → AllByRecursion (λ x. test x ≡ false) xs → list_any test xs ≡ false
none_passes test [] h = refl
none_passes test (x ∷ xs) h = rw (h.0, none_passes test xs h.1) refl

-- keys are told apart by a test that agrees with their order
module _ {K : Type 0} {R : K → K → Ordering} (total : IsTotalOrder R) (exact : finite.IsAntisymmetric R) (eq : K → K → Bool) (ties : (x y : K) → eq x y ≡ eq_by_cmp R x y) where
  module _ {X : Type 0} where
    abbrev made : List (K × X) → finite.FinMap R X
    made es = finite.from_entries es

    -- as many as there are entries, whose keys differ
    pub len_made : (es : List (K × X)) → IsDistinct eq (keys_of es) → finite.len (made es) ≡ length es
    len_made [] h = finite.len-empty R X
    len_made (e ∷ es) h =
        let new : finite.contains_key (made es) e.0 ≡ false
        = ap is_some (get_at total exact eq ties es e.0) ∙ is_some-lookup (eq e.0) es ∙ none_passes (eq e.0) (keys_of es) (IsDistinct-head eq e.0 (keys_of es) h) in
        let rest : finite.len (made es) ≡ length es = len_made es (IsDistinct-tail eq e.0 (keys_of es) h) in
        let one : finite.len (finite.insert (made es) e.0 e.1) ≡ finite.len (made es) + 1
        = finite.len-insert total (made es) e.0 e.1 ∙ ap (λ b. cond b (finite.len (made es)) (finite.len (made es) + 1)) new in
        omega arith
