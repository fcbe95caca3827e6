-- What is noted of the descriptors of a process, and the table that it leaves.
use Rattle.std.specs.Prelude.{◌≡◌, ◌≢◌, ℕ, ◌+◌, ◌*◌, ◌/◌, ◌<◌, ◌≤◌, ◌==◌, if◌then◌else◌, Bool}
use Rattle.std.specs.Prelude.{List, Option, Some, None, length}
use Rattle.std.specs.Prelude.{map as list_map}
use Rattle.std.specs.Coded.{Coded, coded_ℕ, coded_option}
use Rattle.std.specs.Ordering.{nat_cmp}
use Rattle.model.specs.FiniteMap as map
use Rattle.ids.specs.declared.limits.TheConstants.{DESCRIPTORS}
use Rattle.model.specs.Plan.{rising}
use Rattle.model.specs.State.{mapped}
use Rattle.fdtable.specs.Pages.{HasRoom, Paged, most_pages}
use Rattle.fdtable.specs.Words.{bit_in}

-- what each noted descriptor is open on now: a description, or nothing where it was closed
abbrev pub Given : Type 0
Given = map.FinMap nat_cmp (Option ℕ)

abbrev pub given_code : Coded Given
given_code = map.code coded_ℕ (coded_option coded_ℕ)

-- a table in which one descriptor is open on this, or closed, or as before
abbrev pub laid_at : ℕ → Option (Option ℕ) → map.FinMap nat_cmp ℕ → map.FinMap nat_cmp ℕ
laid_at f (Some (Some d)) table = map.insert table f d
laid_at f (Some None) table = map.remove table f
laid_at f None table = table

-- what a descriptor is open on, by what is noted of it, or else as before
abbrev pub or_before : Option (Option ℕ) → Option ℕ → Option ℕ
or_before (Some now) before = now
or_before None before = before

-- this table is the one before, with a patch laid on top
abbrev pub IsLaid : Given → map.FinMap nat_cmp ℕ → map.FinMap nat_cmp ℕ → Type 0
IsLaid patch before after = (f : ℕ)
    → map.get after f ≡ or_before (map.get patch f) (map.get before f)

-- at each change, a patch has what the table gave before
abbrev pub IsFormer : Given → map.FinMap nat_cmp ℕ → Given → Type 0
IsFormer patch before former = (f : ℕ)
    → map.get former f ≡ mapped (λ _. map.get before f) (map.get patch f)

-- what is noted of a descriptor, by what is given, and by whether its bit says that it was closed
abbrev pub noted_by : Option ℕ → ℕ → Option (Option ℕ)
noted_by (Some d) bit = Some (Some d)
noted_by None bit = if bit == 1 then Some None else None

abbrev pub noted_at : Paged → List ℕ → ℕ → Option (Option ℕ)
noted_at given closed f = noted_by (map.get given.slots f) (bit_in closed f)

-- and of all descriptors of which something can be noted
abbrev pub notes_of : Paged → List ℕ → List (Option (Option ℕ))
notes_of given closed =
    list_map (noted_at given closed) (rising 0 (64 * (length given.rooms + length closed)))

-- there is room for each descriptor of which something is noted
pub record IsPatch (given : Paged) (closed : List ℕ) : Type 0 where
  pub places : (f : ℕ) → noted_at given closed f ≢ None
      → HasRoom given.rooms f × (f / 64 < length closed)
  pub few : length closed ≤ most_pages

-- there is memory for a note of a descriptor, and for the descriptor itself
pub record IsPlace
    (f : ℕ) (given_rooms : List Bool) (closed : List ℕ) (table_rooms : List Bool)
    : Type 0 where
  pub low : f < DESCRIPTORS
  pub given : HasRoom given_rooms f
  pub bit : f / 64 < length closed
  pub few : length closed ≤ most_pages
  pub bare : (i : ℕ) → bit_in closed i ≡ 0
  pub table : HasRoom table_rooms f
