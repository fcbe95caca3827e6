-- The map that entries make, in whatever order a table keeps them.
use Rattle.std.proofs.Common.{◌≡◌, Bool, cond, List, [], ◌∷◌, Some, None, refl, sym, ap, ◌∙◌}
use Rattle.std.specs.Map.{lookup}
use Rattle.std.specs.Ordering.{eq_by_cmp}
use Rattle.std.specs.declared.cmp.Ordering.{Ordering}
use Rattle.std.specs.Cmp.{IsTotalOrder, eq_by_cmp_equiv}
use Rattle.std.specs.FinMap.Entries.{find}
use Rattle.model.specs.FiniteMap as finite

-- keys are told apart by a test that agrees with their order
module _ {K : Type 0} {R : K → K → Ordering} (total : IsTotalOrder R) (exact : finite.IsAntisymmetric R) (eq : K → K → Bool) (ties : (x y : K) → eq x y ≡ eq_by_cmp R x y) where
  turned : (x y : K) → eq x y ≡ eq_by_cmp R y x
  turned x y = ties x y ∙ (eq_by_cmp_equiv total).symm x y

  module _ {X : Type 0} where
    abbrev made : List (K × X) → finite.FinMap R X
    made es = finite.from_entries es

    find-lookup : (es : List (K × X)) (q : K) → find R q es ≡ lookup (eq q) es
    find-lookup [] q = refl
    find-lookup (e ∷ es) q = ap (λ b. cond b (Some e.1) (find R q es)) (sym (ties q e.0)) ∙ ap (cond (eq q e.0) (Some e.1)) (find-lookup es q)

    -- what the map gives
    pub get_at : (es : List (K × X)) (q : K) → finite.get (made es) q ≡ lookup (eq q) es
    get_at es q = finite.get-from_entries total es q ∙ find-lookup es q

    -- other entries that give the same make the same map
    pub same_made : (es fs : List (K × X)) → ((q : K) → lookup (eq q) fs ≡ lookup (eq q) es) → made fs ≡ made es
    same_made es fs h = finite.same_map total exact (made fs) (made es) (λ q. get_at fs q ∙ h q ∙ sym (get_at es q))

    -- entries that give something else at one key
    pub inserted : (es fs : List (K × X)) (k : K) (v : X) → ((q : K) → lookup (eq q) fs ≡ cond (eq k q) (Some v) (lookup (eq q) es)) → made fs ≡ finite.insert (made es) k v
    inserted es fs k v h =
        finite.same_map total exact (made fs) (finite.insert (made es) k v) (λ q.
        get_at fs q ∙ h q ∙ ap (λ o. cond (eq k q) (Some v) o) (sym (get_at es q))
        ∙ ap (λ b. cond b (Some v) (finite.get (made es) q)) (turned k q)
        ∙ sym (finite.get-insert total (made es) k v q))

    -- or nothing there
    pub removed : (es fs : List (K × X)) (k : K) → ((q : K) → lookup (eq q) fs ≡ cond (eq k q) None (lookup (eq q) es)) → made fs ≡ finite.remove (made es) k
    removed es fs k h =
        finite.same_map total exact (made fs) (finite.remove (made es) k) (λ q.
        get_at fs q ∙ h q ∙ ap (λ o. cond (eq k q) None o) (sym (get_at es q))
        ∙ ap (λ b. cond b None (finite.get (made es) q)) (turned k q)
        ∙ sym (finite.get-remove total (made es) k q))
