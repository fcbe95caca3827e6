-- Names in the order of their bytes.
use Rattle.std.specs.Prelude.{ℕ, List, [], ◌∷◌}
use Rattle.std.specs.BTreeMap.{BTreeMap}
use Rattle.std.specs.Cmp.Lexicographic.{slice_cmp}
use Rattle.std.specs.Ordering.{nat_cmp}
use Rattle.model.specs.FiniteMap as map
use Rattle.std.specs.declared.vec.Vec.{Vec}

-- the entries by their names' bytes
abbrev pub by_bytes : {A : Type 0} → List (Vec ℕ A × ℕ) → List (List ℕ × ℕ)
by_bytes [] = []
by_bytes (entry ∷ entries) = (entry.0.items, entry.1) ∷ by_bytes entries

-- the map that a table of names holds
abbrev pub numbers_in : {A : Type 0} → BTreeMap (Vec ℕ A) ℕ → map.FinMap (slice_cmp nat_cmp) ℕ
numbers_in table = map.from_entries {R = slice_cmp nat_cmp} (by_bytes table.entries)
