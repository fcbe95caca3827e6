-- What a table gives, by its places.
use Rattle.std.proofs.Common.{◌≡◌, ℕ, cond, None, nat_cmp, sym, ap, ◌∙◌, inl, inr}
use Rattle.std.specs.Ordering.{eq_by_cmp, is_eq}
use Rattle.std.proofs.lemmas.Bool.{cases_eq}
use Rattle.std.specs.Cmp.{nat_cmp_total, tied_itself}
use Rattle.model.specs.FiniteMap.{FinMap, get, remove, get-remove, same_map, nat_cmp-IsAntisymmetric}
use Rattle.model.proofs.Laws.{apart}

-- what is not there is not taken away
pub remove_absent : (m : FinMap nat_cmp ℕ) (k : ℕ) → get m k ≡ None → m ≡ remove m k
remove_absent m k absent = same_map nat_cmp_total nat_cmp-IsAntisymmetric _ _ (λ q. each q ∙ sym (get-remove nat_cmp_total m k q))
  where
    each : (q : ℕ) → get m q ≡ cond (eq_by_cmp nat_cmp q k) None (get m q)
    each q = elim (cases_eq q k) [
      | inl e ↦ ap (get m) e ∙ absent ∙ sym (ap (λ k. cond (eq_by_cmp nat_cmp q k) None (get m q)) (sym e) ∙ ap (λ r. cond (is_eq r) None (get m q)) (tied_itself nat_cmp_total q))
      | inr away ↦ sym (ap (λ b. cond b None (get m q)) (apart q k away))
    ]
