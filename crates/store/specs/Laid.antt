-- What names give from now on, laid over a directory.
use Rattle.std.specs.Prelude.{ℕ, ◌-◌, List, [], ◌∷◌, Option, Some, None}
use Rattle.model.specs.FiniteMap.{FinMap, entries, from_entries, insert, remove}
use Rattle.model.specs.State.{Name, name_cmp}
use Rattle.dirlist.specs.Listing.{Listing}

-- the names, where this one gives a number from now on, or nothing
abbrev pub with_note : Name → Option ℕ → FinMap name_cmp ℕ → FinMap name_cmp ℕ
with_note x (Some n) names = insert names x n
with_note x None names = remove names x

-- the names, where each of these gives something else, one after the other
abbrev pub laid : List (Name × Option ℕ) → FinMap name_cmp ℕ → FinMap name_cmp ℕ
laid [] names = names
laid (note ∷ notes) names = laid notes (with_note note.0 note.1 names)

-- notes of names that differ, in the order of the names, as the map has them that they make
abbrev pub in_order : List (Name × Option ℕ) → List (Name × Option ℕ)
in_order notes = entries (from_entries {R = name_cmp} notes)

-- a directory over which these are laid, and in which so many promises are given up
abbrev pub laid_listing : List (Name × Option ℕ) → ℕ → Listing → Listing
laid_listing notes promised listing = record {
  names = laid notes listing.names;
  promised = listing.promised - promised;
}
