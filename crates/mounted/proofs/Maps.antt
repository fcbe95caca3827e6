-- Maps in which a key is set twice, or set and taken away again.
use Rattle.std.proofs.Common.{◌≡◌, Bool, true, false, cond, refl, sym, ap, ◌∙◌}
use Rattle.std.specs.Prelude.{Option, Some, None}
use Rattle.std.specs.Cmp.{IsTotalOrder, tied_itself}
use Rattle.std.specs.Ordering.{eq_by_cmp, is_eq}
use Rattle.std.specs.declared.cmp.Ordering.{Ordering}
use Rattle.model.specs.FiniteMap as map
use Rattle.model.proofs.Laws.{tie}

module _ {K X : Type 0} {R : K → K → Ordering} (o : IsTotalOrder R) (same : map.IsAntisymmetric R) where
  over : (b : Bool) (x y : X) (z : Option X) → cond b (Some y) (cond b (Some x) z) ≡ cond b (Some y) z
  over true x y z = refl
  over false x y z = refl

  pub insert_over : (m : map.FinMap R X) (k : K) (x y : X) → map.insert (map.insert m k x) k y ≡ map.insert m k y
  insert_over m k x y = map.same_map o same _ _ (λ q.
      map.get-insert o (map.insert m k x) k y q
      ∙ ap (cond (eq_by_cmp R q k) (Some y)) (map.get-insert o m k x q)
      ∙ over (eq_by_cmp R q k) x y (map.get m q)
      ∙ sym (map.get-insert o m k y q))

  off : (b : Bool) (x : X) (z : Option X) → (b ≡ true → z ≡ None) → cond b None (cond b (Some x) z) ≡ z
  off true x z none = sym (none refl)
  off false x z none = refl

  -- a key that was not there comes and goes
  pub remove_inserted : (m : map.FinMap R X) (k : K) (x : X) → map.get m k ≡ None → map.remove (map.insert m k x) k ≡ m
  remove_inserted m k x none = map.same_map o same _ _ (λ q.
      map.get-remove o (map.insert m k x) k q
      ∙ ap (cond (eq_by_cmp R q k) None) (map.get-insert o m k x q)
      ∙ off (eq_by_cmp R q k) x (map.get m q) (λ e. sym (map.get_tied o m q k (tie (R q k) e)) ∙ none))

  pub insert_same : (m : map.FinMap R X) (k : K) (x : X) → map.get (map.insert m k x) k ≡ Some x
  insert_same m k x = map.get-insert o m k x k ∙ ap (λ r. cond (is_eq r) (Some x) (map.get m k)) (tied_itself o k)
