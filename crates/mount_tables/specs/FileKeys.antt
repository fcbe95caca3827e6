-- The order of views and objects: by the view's number, then by the object's.
use Rattle.std.specs.Prelude.{◌≡◌, refl, ℕ, List, [], ◌∷◌, ◌++◌, true}
use Rattle.std.specs.Coded.{Coded, code_by, coded×, coded_ℕ}
use Rattle.std.specs.Hash as fed
use Rattle.std.specs.Ordering.{nat_cmp, is_eq, eq_by_cmp}
use Rattle.std.specs.declared.cmp.Ordering.{Ordering}
use Rattle.std.specs.declared.cmp.Ordering.TheVariants.{Less, Equal, Greater}
use Rattle.std.proofs.Common.{ap}
use Rattle.std.specs.Cmp.{IsTotalOrder}
use Rattle.std.specs.Cmp.Lexicographic.{slice_cmp}
use Rattle.std.proofs.lemmas.Cmp.{nat_list_cmp_total, on_total}
use Rattle.std.proofs.lemmas.Map.Lookups.{exact_bytes}
use Rattle.model.specs.FiniteMap.{IsAntisymmetric}
use Rattle.mount_tables.specs.declared.file_key.FileKey.{FileKey}

-- a key as the pair of its parts
abbrev pub coded_key : Coded FileKey
coded_key = code_by (ℕ × ℕ) (coded× coded_ℕ coded_ℕ)
    (λ k. (k.view, k.inode)) (λ q. record { view = q.0; inode = q.1 }) (λ _. refl)

-- a key as a list of numbers, and back
abbrev pub key_code : FileKey → List ℕ
key_code k = k.view ∷ k.inode ∷ []

abbrev key_from : List ℕ → FileKey
key_from (view ∷ inode ∷ rest) = record { view = view; inode = inode }
key_from _ = record { view = 0; inode = 0 }

unfoldable pub key_cmp : FileKey → FileKey → Ordering
key_cmp j k = slice_cmp nat_cmp (key_code j) (key_code k)

pub key_cmp_total : IsTotalOrder key_cmp
unfolding key_cmp
key_cmp_total = on_total key_code nat_list_cmp_total

-- only a key and itself are equal
pub key_exact : IsAntisymmetric key_cmp
unfolding key_cmp
key_exact j k h = ap key_from (exact_bytes (key_code j) (key_code k) h)

-- what is fed to a hash: the view, and the object
abbrev fed_of : List ℕ → List (List ℕ)
fed_of (view ∷ inode ∷ rest) = fed.u64 view ++ fed.usize inode
fed_of _ = []

abbrev pub key_fed : FileKey → List (List ℕ)
key_fed k = fed_of (key_code k)

pub fed_alike : (j k : FileKey) → eq_by_cmp key_cmp j k ≡ true → key_fed j ≡ key_fed k
unfolding key_cmp
fed_alike j k h = ap fed_of (exact_bytes (key_code j) (key_code k) (equal_from _ h))
  where
    equal_from : (o : Ordering) → is_eq o ≡ true → o ≡ Equal
    equal_from Less h = cc
    equal_from Equal h = refl
    equal_from Greater h = cc
