-- What is found in a map after an entry came or went.
use Rattle.std.proofs.Common.{◌≡◌, ◌⊎◌, Bool, true, false, cond, Some, None, inl, inr, refl, sym, ◌∙◌}
use Rattle.std.specs.Prelude.{Result, Ok, Err, IsOk, OnOk}
use Rattle.std.specs.Ordering.{eq_by_cmp}
use Rattle.std.specs.declared.cmp.Ordering.{Ordering}
use Rattle.std.specs.Cmp.{IsTotalOrder}
use Rattle.model.specs.FiniteMap as finite
use Rattle.model.proofs.Laws.{tie}

pub same_some : {A : Type 0} (x y : A) → Some x ≡ Some y → x ≡ y
same_some x y e = cc

pub no_some : {A : Type 0} (x : A) → None ≡ Some x → ⊥
no_some x e = absurd cc

pub on_ok : {A E P : Type 0} (r : Result A E) → IsOk r → OnOk r P → P
on_ok (Ok x) ok p = p
on_ok (Err e) ok p = absurd cc

module _ {K X : Type 0} {R : K → K → Ordering} (total : IsTotalOrder R) where
  -- what is found was put there, or was there before
  pub put_or_found : finite.IsAntisymmetric R → (m : finite.FinMap R X) (k : K) (v : X) (q : K) (w : X) → finite.get (finite.insert m k v) q ≡ Some w → ((q ≡ k) × (v ≡ w)) ⊎ (finite.get m q ≡ Some w)
  put_or_found exact m k v q w is = tested (eq_by_cmp R q k) refl (sym (finite.get-insert total m k v q) ∙ is)
    where
      tested : (b : Bool) → eq_by_cmp R q k ≡ b → cond b (Some v) (finite.get m q) ≡ Some w → ((q ≡ k) × (v ≡ w)) ⊎ (finite.get m q ≡ Some w)
      tested true e is = inl (exact q k (tie (R q k) e), same_some v w is)
      tested false e is = inr is

  -- or nothing was taken away there
  pub found_before : (m : finite.FinMap R X) (k q : K) (w : X) → finite.get (finite.remove m k) q ≡ Some w → finite.get m q ≡ Some w
  found_before m k q w is = tested (eq_by_cmp R q k) (sym (finite.get-remove total m k q) ∙ is)
    where
      tested : (b : Bool) → cond b None (finite.get m q) ≡ Some w → finite.get m q ≡ Some w
      tested true is = absurd (no_some w is)
      tested false is = is
