-- A key that is set twice.
use Rattle.std.proofs.Common.{◌≡◌, ℕ, Bool, true, false, cond, Some, nat_cmp, refl, sym, ap, ◌∙◌}
use Rattle.std.specs.Cmp.{nat_cmp_total}
use Rattle.std.specs.Ordering.{eq_by_cmp}
use Rattle.model.specs.FiniteMap.{FinMap, insert, get-insert, same_map, nat_cmp-IsAntisymmetric}
use Rattle.model.specs.State.{Kernel, Inode}
use Rattle.model.specs.Changes.{set_inode}

cond_twice : {A : Type 0} (b : Bool) (x y z : A) → cond b x (cond b y z) ≡ cond b x z
cond_twice true x y z = refl
cond_twice false x y z = refl

module _ {X : Type 0} (m : FinMap nat_cmp X) (k : ℕ) where
  pub insert_twice : (a b : X) → insert (insert m k a) k b ≡ insert m k b
  insert_twice a b = same_map nat_cmp_total nat_cmp-IsAntisymmetric _ _ (λ q.
      get-insert nat_cmp_total (insert m k a) k b q ∙ ap (cond (eq_by_cmp nat_cmp q k) (Some b)) (get-insert nat_cmp_total m k a q)
      ∙ cond_twice (eq_by_cmp nat_cmp q k) _ _ _ ∙ sym (get-insert nat_cmp_total m k b q))

pub set_twice : (k : Kernel) (n : ℕ) (a b : Inode) → set_inode n b (set_inode n a k) ≡ set_inode n b k
set_twice k n a b = ap (λ m. record k { inodes = m }) (insert_twice k.inodes n a b)
