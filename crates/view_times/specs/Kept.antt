-- What is kept of times, as maps with room, and what is known by it.
use Rattle.std.specs.Prelude.{◌≡◌, ℕ, ◌==◌, min, true, refl, is_some, if◌then◌else◌}
use Rattle.std.specs.Prelude.{Option, Some, None}
use Rattle.std.specs.Coded.{Coded, code_by, coded×, coded_ℕ}
use Rattle.std.specs.Ordering.{nat_cmp}
use Rattle.model.specs.FiniteMap as map
use Rattle.view_times.specs.Known.{Known}
use Rattle.view_times.specs.Noted.{merged, nothing}
use Rattle.view_times.specs.Rows.{Rows, rows_code}
use Rattle.view_times.specs.Times.{first_times}
use Rattle.view_times.specs.declared.noted.Notes.{Notes}
use Rattle.view_times.specs.declared.times.Times.{Times}

-- The times that everybody has of each inode with a place, and of each view with a table what it has
-- noted of each inode.
pub record Kept : Type 0 where
  pub everybody : Rows Times
  pub views : map.FinMap nat_cmp (Rows Notes)

abbrev pub kept_code : Coded Times → Coded Notes → Coded Kept
kept_code times notes = code_by (Rows Times × map.FinMap nat_cmp (Rows Notes))
    (coded× (rows_code times) (map.code coded_ℕ (rows_code notes)))
    (λ t. (t.everybody, t.views)) (λ q. record { everybody = q.0; views = q.1 }) (λ _. refl)

-- ---- what is known by it

-- the times of a place, and those of none
abbrev pub times_by : Option Times → Times
times_by (Some times) = times
times_by None = first_times

abbrev pub times_in : map.FinMap nat_cmp Times → ℕ → Times
times_in everybody inode = times_by (map.get everybody inode)

-- what is noted, if it is
abbrev pub notes_by : Option Notes → Notes
notes_by (Some notes) = notes
notes_by None = nothing

-- what a view has noted of an inode, if it has
abbrev pub note_by : Option (Rows Notes) → ℕ → Option Notes
note_by (Some table) inode = map.get table.rows inode
note_by None inode = None

abbrev pub note_at : map.FinMap nat_cmp (Rows Notes) → ℕ → ℕ → Option Notes
note_at views view inode = note_by (map.get views view) inode

abbrev pub notes_in : map.FinMap nat_cmp (Rows Notes) → ℕ → ℕ → Notes
notes_in views view inode = notes_by (note_at views view inode)

abbrev pub known : Kept → Known
known t = record {
  everybody = λ inode. times_in t.everybody.rows inode;
  noted = λ view inode. notes_in t.views view inode;
}

-- what is noted becomes everybody's, in a place that is there
abbrev pub merged_if : Notes → Option Times → Option Times
merged_if notes None = None
merged_if notes (Some times) = Some (merged notes times)

-- an inode of which a view has noted something has a place, so a commit needs none
abbrev pub HavePlaces : map.FinMap nat_cmp Times → map.FinMap nat_cmp (Rows Notes) → Type 0
HavePlaces everybody views = (view inode : ℕ) → is_some (note_at views view inode) ≡ true
    → is_some (map.get everybody inode) ≡ true

-- ---- room

-- for how many more notes a table has room
abbrev pub room_by : Option (Rows Notes) → ℕ
room_by (Some table) = table.room
room_by None = 0

-- for how many more inodes there is room of which a view notes something
abbrev pub room_of : Kept → ℕ → ℕ
room_of t view =
    if view == 0 then t.everybody.room
    else min t.everybody.room (room_by (map.get t.views view))
