-- How sets of flags are printed.
use Rattle.std.specs.Prelude.{◌≡◌, ℕ, List, [], ◌∷◌, ◌++◌, Option}
use Rattle.std.specs.Prelude.{Bool, true, false, codes, flat_map, if◌then◌else◌}
use Rattle.ids.specs.declared.flags.OpenFlags.{OpenFlags}
use Rattle.ids.specs.declared.flags.BeginFlags.{BeginFlags}
use Rattle.ids.specs.Flags.{is_reading, is_writing, is_creating, is_exclusive}
use Rattle.ids.specs.Flags.{is_truncating, is_appending, is_restarting, is_aborting_unsupported}
use Rattle.transcript.specs.Printer.{Prints}
use Rattle.transcript.specs.declared.printer.Printer.{Printer}

-- a name, where the set has its flag
abbrev pub name_if : Bool → List ℕ → List (List ℕ)
name_if has name = if has then name ∷ [] else []

-- RDONLY, WRONLY or RDWR
abbrev pub access_names : Bool → Bool → List (List ℕ)
access_names reads writes =
    if reads then (if writes then codes "RDWR" ∷ [] else codes "RDONLY" ∷ [])
    else (if writes then codes "WRONLY" ∷ [] else [])

-- the names of the flags, the access first
abbrev pub flag_names : OpenFlags → List (List ℕ)
flag_names flags =
    access_names (is_reading flags) (is_writing flags)
    ++ name_if (is_creating flags) (codes "CREAT")
    ++ name_if (is_exclusive flags) (codes "EXCL")
    ++ name_if (is_truncating flags) (codes "TRUNC")
    ++ name_if (is_appending flags) (codes "APPEND")

-- a further name behind a comma
abbrev pub with_comma : List ℕ → List ℕ
with_comma name = codes "," ++ name

-- names with commas
abbrev pub with_commas : List (List ℕ) → List ℕ
with_commas [] = []
with_commas (name ∷ names) = name ++ flat_map with_comma names

-- one more name, where the set has its flag, behind a comma where a name stands there already
abbrev pub next_name : Bool → Bool → List ℕ → List ℕ
next_name any has name = if has then (if any then with_comma name else name) else []

-- whether there is a name
abbrev pub has_any : List (List ℕ) → Bool
has_any [] = false
has_any (_ ∷ _) = true

-- names are printed, and it is known whether there is one
pub record PrintsNames
    {S : Type 0} (written : S → Option (List ℕ)) (failures : S → ℕ)
    (old new : Printer S) (names : List (List ℕ)) (any : Bool)
    : Type 0 where
  pub printed : Prints written failures old new (with_commas names)
  pub known : any ≡ has_any names

-- names with commas, or `-` for none
abbrev pub listed : List (List ℕ) → List ℕ
listed [] = codes "-"
listed (name ∷ names) = with_commas (name ∷ names)

abbrev pub flags_text : OpenFlags → List ℕ
flags_text flags = listed (flag_names flags)

-- the flags of a begin behind a space, and nothing for none
abbrev pub begin_flags_text : BeginFlags → List ℕ
begin_flags_text flags =
    if is_restarting flags then
    (if is_aborting_unsupported flags then codes " RESTART,ABORT_UNSUPPORTED"
    else codes " RESTART")
    else (if is_aborting_unsupported flags then codes " ABORT_UNSUPPORTED" else [])
