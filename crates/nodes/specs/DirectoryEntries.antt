-- The order of entries: by the parent's number, then by the name.
use Rattle.std.specs.Prelude.{◌≡◌, refl, ℕ, List, [], ◌∷◌, ◌++◌, true}
use Rattle.std.specs.Coded.{Coded, code_by, coded×, coded_ℕ, coded_list}
use Rattle.std.specs.Hash as fed
use Rattle.std.specs.Ordering.{nat_cmp, is_eq, eq_by_cmp}
use Rattle.std.specs.declared.cmp.Ordering.{Ordering}
use Rattle.std.specs.declared.cmp.Ordering.TheVariants.{Less, Equal, Greater}
use Rattle.std.proofs.Common.{ap}
use Rattle.std.specs.Cmp.{IsTotalOrder}
use Rattle.std.specs.Cmp.Lexicographic.{slice_cmp}
use Rattle.std.proofs.lemmas.Cmp.{nat_list_cmp_total, on_total}
use Rattle.std.proofs.lemmas.Map.Lookups.{exact_bytes}
use Rattle.model.specs.FiniteMap.{IsAntisymmetric}
use Rattle.nodes.specs.declared.directory_entry.DirectoryEntry.{DirectoryEntry}

-- an entry as the pair of its parts
abbrev pub coded_entry : Coded DirectoryEntry
coded_entry = code_by (ℕ × List ℕ) (coded× coded_ℕ (coded_list coded_ℕ))
    (λ p. (p.parent, p.name)) (λ q. record { parent = q.0; name = q.1 }) (λ _. refl)

-- an entry as a list of numbers, and back
abbrev pub entry_code : DirectoryEntry → List ℕ
entry_code p = p.parent ∷ p.name

abbrev entry_from : List ℕ → DirectoryEntry
entry_from (parent ∷ name) = record { parent = parent; name = name }
entry_from [] = record { parent = 0; name = [] }

unfoldable pub entry_cmp : DirectoryEntry → DirectoryEntry → Ordering
entry_cmp p q = slice_cmp nat_cmp (entry_code p) (entry_code q)

pub entry_cmp_total : IsTotalOrder entry_cmp
unfolding entry_cmp
entry_cmp_total = on_total entry_code nat_list_cmp_total

-- only an entry and itself are equal
pub entry_exact : IsAntisymmetric entry_cmp
unfolding entry_cmp
entry_exact p q h = ap entry_from (exact_bytes (entry_code p) (entry_code q) h)

-- what is fed to a hash: the parent, and the name
abbrev fed_of : List ℕ → List (List ℕ)
fed_of (parent ∷ name) = fed.u64 parent ++ name ∷ []
fed_of [] = []

abbrev pub entry_fed : DirectoryEntry → List (List ℕ)
entry_fed p = fed_of (entry_code p)

pub fed_alike : (p q : DirectoryEntry) → eq_by_cmp entry_cmp p q ≡ true → entry_fed p ≡ entry_fed q
unfolding entry_cmp
fed_alike p q h = ap fed_of (exact_bytes (entry_code p) (entry_code q) (equal_from _ h))
  where
    equal_from : (o : Ordering) → is_eq o ≡ true → o ≡ Equal
    equal_from Less h = cc
    equal_from Equal h = refl
    equal_from Greater h = cc
