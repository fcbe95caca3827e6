-- What is noted of the names of a directory, and the names that it leaves.
use Rattle.std.specs.Prelude.{◌≡◌, ℕ, Option, Some, None}
use Rattle.std.specs.Coded.{Coded, coded_ℕ, coded_list, coded_option}
use Rattle.model.specs.FiniteMap as map
use Rattle.model.specs.State.{Name, name_cmp}

-- what each noted name gives now: a number, or nothing where the name went
abbrev pub Notes : Type 0
Notes = map.FinMap name_cmp (Option ℕ)

abbrev pub notes_code : Coded Notes
notes_code = map.code (coded_list coded_ℕ) (coded_option coded_ℕ)

-- what a name gives, by what is noted of it, or else as before
abbrev pub or_before : Option (Option ℕ) → Option ℕ → Option ℕ
or_before (Some now) before = now
or_before None before = before

-- the notes with what stood before of a noted name, or without its note where there was none
abbrev pub note_back : Name → Option (Option ℕ) → Notes → Notes
note_back x (Some given) notes = map.insert notes x given
note_back x None notes = map.remove notes x

-- the same where the name is noted, and else the notes as they are
abbrev pub back_over : Option (Option ℕ) → Name → Option (Option ℕ) → Notes → Notes
back_over (Some now) x former notes = note_back x former notes
back_over None x former notes = notes

abbrev pub noted_back : Name → Option (Option ℕ) → Notes → Notes
noted_back x former notes = back_over (map.get notes x) x former notes

-- these names are the ones before, with a patch laid on top
abbrev pub IsLaid : Notes → map.FinMap name_cmp ℕ → map.FinMap name_cmp ℕ → Type 0
IsLaid patch before after = (x : Name)
    → map.get after x ≡ or_before (map.get patch x) (map.get before x)
