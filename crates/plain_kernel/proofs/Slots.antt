-- The processes after one of them was taken out and is put back changed.
use Rattle.std.proofs.Common.{◌≡◌, ◌≢◌, ℕ, Bool, true, false, cond, ◌==◌, Option, Some, None, Result, Ok, Err, OnErr, nat_cmp, refl, sym, ap, ◌∙◌, eqb-true, eq-eqb}
use Rattle.std.specs.Prelude.{if◌then◌else◌}
use Rattle.std.specs.Ordering.{eq_by_cmp}
use Rattle.std.specs.Cmp.{nat_cmp_total}
use Rattle.model.specs.FiniteMap.{FinMap, get, empty, insert, remove, same_map, get-empty, get-insert, get-remove, nat_cmp-IsAntisymmetric}
use Rattle.model.specs.Changes.{or_new, without_slot}
use Rattle.plain_kernel.proofs.Keyed.{at_set, test_is}

pub if_err : {A E P Q : Type 0} (r : Result A E) → OnErr r P → (P → Q) → OnErr r Q
if_err (Ok x) h f = tt
if_err (Err e) h f = f h

module _ {X : Type 0} (m : FinMap nat_cmp X) (k : ℕ) (v : X) where
  pub there_set : (new : FinMap nat_cmp X) → new ≡ insert m k v → get new k ≢ None
  there_set new is none =
      absurd (let h : Some v ≡ None = sym (at_set m new k k v refl is k ∙ ap (λ b. if b then Some v else get m k) (eq-eqb k k refl)) ∙ none in cc)

  -- what is there already
  same_at : (q : ℕ) (b : Bool) → (q == k) ≡ b → Some v ≡ get m k → cond b (Some v) (get m q) ≡ get m q
  same_at q true e is = is ∙ ap (get m) (sym (eqb-true q k e))
  same_at q false e is = refl

  pub insert_same : Some v ≡ get m k → insert m k v ≡ m
  insert_same is = same_map nat_cmp_total nat_cmp-IsAntisymmetric _ _ (λ q.
      get-insert nat_cmp_total m k v q ∙ ap (λ b. cond b (Some v) (get m q)) (test_is q k) ∙ same_at q (q == k) refl is)

nothing : {X : Type 0} (b : Bool) → ◌≡◌ {A = Option X} (cond b None None) None
nothing true = refl
nothing false = refl

-- a process without descriptors has none less
remove-empty : (f : ℕ) → remove (empty {X = ℕ} {R = nat_cmp}) f ≡ empty
remove-empty f = same_map nat_cmp_total nat_cmp-IsAntisymmetric _ _ (λ q.
    get-remove nat_cmp_total empty f q ∙ ap (cond (eq_by_cmp nat_cmp q f) None) (get-empty nat_cmp q) ∙ nothing (eq_by_cmp nat_cmp q f) ∙ sym (get-empty nat_cmp q))

pub bare_left : (f : ℕ) → or_new None ≡ without_slot f (or_new None)
bare_left f = ap (λ (x : FinMap nat_cmp ℕ). record { table = x; priority = 0 }) (sym (remove-empty f))
