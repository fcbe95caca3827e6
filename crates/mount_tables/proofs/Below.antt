-- Numbers that were given before stay below the next one, whatever changes.
use Rattle.std.proofs.Common.{◌≡◌, ℕ, ◌<◌, ◌≤◌, Bool, true, false, cond, Option, Some, None, refl, sym, ◌∙◌, arith, nat_cmp}
use Rattle.std.specs.Ordering.{eq_by_cmp}
use Rattle.std.specs.Cmp.{nat_cmp_total}
use Rattle.model.specs.FiniteMap as map
use Rattle.model.proofs.Laws.{tie}
use Rattle.mount_tables.specs.Files.{IsBelow, LeadsBelow, is_this, unlinked}
use Rattle.mount_tables.specs.Folders.{marked}
use Rattle.mount_tables.specs.declared.folders.Folder.{Folder}
use Rattle.mount_tables.specs.FileKeys.{key_cmp, key_cmp_total}
use Rattle.mount_tables.specs.Rows.{replaced}
use Rattle.mount_tables.specs.declared.file_key.FileKey.{FileKey}

module _ {X : Type 0} where
  pub below_empty : (next : ℕ) → IsBelow next (map.empty {X = X})
  below_empty next q x is = let e : None ≡ Some x = sym (map.get-empty nat_cmp q) ∙ is in absurd cc

  at_key : (m : map.FinMap nat_cmp X) (b : Bool) (number next more q : ℕ) (x y : X) → IsBelow next m → next ≤ more → number < more → eq_by_cmp nat_cmp q number ≡ b → cond b (Some x) (map.get m q) ≡ Some y → q < more
  at_key m true number next more q x y below le lt e is = let same : q ≡ number = map.nat_cmp-IsAntisymmetric q number (tie (nat_cmp q number) e) in omega (arith, same, lt)
  at_key m false number next more q x y below le lt e is = omega (arith, below q y is, le)

  pub below_insert : (m : map.FinMap nat_cmp X) (number next more : ℕ) (x : X) → IsBelow next m → next ≤ more → number < more → IsBelow more (map.insert m number x)
  below_insert m number next more x below le lt q y is =
      at_key m (eq_by_cmp nat_cmp q number) number next more q x y below le lt refl (sym (map.get-insert nat_cmp_total m number x q) ∙ is)

  off_key : (m : map.FinMap nat_cmp X) (b : Bool) (next q : ℕ) (y : X) → IsBelow next m → cond b None (map.get m q) ≡ Some y → q < next
  off_key m true next q y below is = absurd cc
  off_key m false next q y below is = below q y is

  pub below_remove : (m : map.FinMap nat_cmp X) (number next : ℕ) → IsBelow next m → IsBelow next (map.remove m number)
  below_remove m number next below q y is =
      off_key m (eq_by_cmp nat_cmp q number) next q y below (sym (map.get-remove nat_cmp_total m number q) ∙ is)

  replaced_by : (m : map.FinMap nat_cmp X) (number next : ℕ) (x : X) (found : Option X) → map.get m number ≡ found → IsBelow next m → IsBelow next (replaced number x found m)
  replaced_by m number next x None is below = below
  replaced_by m number next x (Some former) is below = below_insert m number next next x below (omega arith) (below number former is)

  pub below_replaced : (m : map.FinMap nat_cmp X) (number next : ℕ) (x : X) → IsBelow next m → IsBelow next (replaced number x (map.get m number) m)
  below_replaced m number next x below = replaced_by m number next x (map.get m number) refl below

  -- so the next number stands for nothing
  nothing_by : (m : map.FinMap nat_cmp X) (next : ℕ) (found : Option X) → map.get m next ≡ found → IsBelow next m → map.get m next ≡ None
  nothing_by m next None is below = is
  nothing_by m next (Some x) is below = absurd (omega (arith, below next x is))

  pub nothing_next : (m : map.FinMap nat_cmp X) (next : ℕ) → IsBelow next m → map.get m next ≡ None
  nothing_next m next below = nothing_by m next (map.get m next) refl below

marked_by : (m : map.FinMap nat_cmp Folder) (handle next : ℕ) (found : Option Folder) → map.get m handle ≡ found → IsBelow next m → IsBelow next (marked handle found m)
marked_by m handle next None is below = below
marked_by m handle next (Some folder) is below = below_insert m handle next next _ below (omega arith) (below handle folder is)

pub below_marked : (m : map.FinMap nat_cmp Folder) (handle next : ℕ) → IsBelow next m → IsBelow next (marked handle (map.get m handle) m)
below_marked m handle next below = marked_by m handle next (map.get m handle) refl below

pub leads_empty : (next : ℕ) → LeadsBelow next (map.empty {X = ℕ})
leads_empty next key n is = let e : None ≡ Some n = sym (map.get-empty key_cmp key) ∙ is in absurd cc

leads_at : (m : map.FinMap key_cmp ℕ) (b : Bool) (key : FileKey) (number next more n : ℕ) → LeadsBelow next m → next ≤ more → number < more → cond b (Some number) (map.get m key) ≡ Some n → n < more
leads_at m true key number next more n below le lt is = let same : number ≡ n = cc in omega (arith, same, lt)
leads_at m false key number next more n below le lt is = omega (arith, below key n is, le)

pub leads_insert : (m : map.FinMap key_cmp ℕ) (key : FileKey) (number next more : ℕ) → LeadsBelow next m → next ≤ more → number < more → LeadsBelow more (map.insert m key number)
leads_insert m key number next more below le lt q n is =
    leads_at m (eq_by_cmp key_cmp q key) q number next more n below le lt (sym (map.get-insert key_cmp_total m key number q) ∙ is)

leads_off : (m : map.FinMap key_cmp ℕ) (b : Bool) (key : FileKey) (next n : ℕ) → LeadsBelow next m → cond b None (map.get m key) ≡ Some n → n < next
leads_off m true key next n below is = absurd cc
leads_off m false key next n below is = below key n is

leads_remove : (m : map.FinMap key_cmp ℕ) (key : FileKey) (next : ℕ) → LeadsBelow next m → LeadsBelow next (map.remove m key)
leads_remove m key next below q n is =
    leads_off m (eq_by_cmp key_cmp q key) q next n below (sym (map.get-remove key_cmp_total m key q) ∙ is)

unlinked_by : (m : map.FinMap key_cmp ℕ) (b : Bool) (key : FileKey) (next : ℕ) → LeadsBelow next m → LeadsBelow next (cond b (map.remove m key) m)
unlinked_by m true key next below = leads_remove m key next below
unlinked_by m false key next below = below

pub leads_unlinked : (m : map.FinMap key_cmp ℕ) (handle : ℕ) (key : FileKey) (next : ℕ) → LeadsBelow next m → LeadsBelow next (unlinked handle key m)
leads_unlinked m handle key next below = unlinked_by m (is_this handle (map.get m key)) key next below
