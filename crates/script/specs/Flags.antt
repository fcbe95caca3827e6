-- How sets of flags are spelled.
use Rattle.std.specs.Prelude.{ℕ, ◌||◌, List, [], ◌∷◌, Option, Some, None}
use Rattle.std.specs.Prelude.{codes, bit_or, eqb, option_map, if◌then◌else◌}
use Rattle.std.specs.List.{slice_split}
use Rattle.std.specs.Option.{option_and_then}
use Rattle.std.specs.Str.{bytes_eq}
use Rattle.script.specs.Characters.{comma}
use Rattle.ids.specs.declared.flags.OpenFlags.{OpenFlags}
use Rattle.ids.specs.declared.flags.BeginFlags.{BeginFlags}
use Rattle.ids.specs.declared.call.Whence.{Whence}
use Rattle.ids.specs.declared.call.Whence.TheVariants.{Set, Cur, End, Data, Hole}
use Rattle.ids.specs.declared.call.Space.{Space}
use Rattle.ids.specs.declared.call.Space.TheVariants.{Grow, Keep, Punch}
use Rattle.ids.specs.declared.fixed.Special.{Special}
use Rattle.ids.specs.declared.fixed.Special.TheVariants.{Fifo, Socket}

-- the flags with these bits
abbrev pub open_flags : ℕ → OpenFlags
open_flags bits = record { 0 = bits }

abbrev pub begin_flags : ℕ → BeginFlags
begin_flags bits = record { 0 = bits }

-- READ 1, WRITE 2, CREAT 4, EXCL 8, TRUNC 16, APPEND 32; RDWR is READ and WRITE
abbrev pub flag_in : List ℕ → Option ℕ
flag_in name =
    if bytes_eq name (codes "RDONLY") then Some 1
    else if bytes_eq name (codes "WRONLY") then Some 2
    else if bytes_eq name (codes "RDWR") then Some 3
    else if bytes_eq name (codes "CREAT") then Some 4
    else if bytes_eq name (codes "EXCL") then Some 8
    else if bytes_eq name (codes "TRUNC") then Some 16
    else if bytes_eq name (codes "APPEND") then Some 32 else None

-- the flags that the names say, and those that are there already
abbrev pub flags_after : ℕ → List (List ℕ) → Option ℕ
flags_after bits [] = Some bits
flags_after bits (name ∷ names) =
    option_and_then (λ flag. flags_after (bit_or bits flag) names) (flag_in name)

-- `-` for none, or names with commas, in any order and as often as one likes
abbrev pub flags_in : List ℕ → Option OpenFlags
flags_in word =
    option_map open_flags
    (if bytes_eq word (codes "-") then Some 0
    else flags_after 0 (slice_split (λ b. eqb b comma) word))

-- RESTART 1, ABORT_UNSUPPORTED 2
abbrev pub begin_flags_in : List ℕ → Option BeginFlags
begin_flags_in word =
    if bytes_eq word (codes "RESTART") then Some (begin_flags 1)
    else if bytes_eq word (codes "ABORT_UNSUPPORTED") then Some (begin_flags 2)
    else if bytes_eq word (codes "RESTART,ABORT_UNSUPPORTED")
    || bytes_eq word (codes "ABORT_UNSUPPORTED,RESTART") then Some (begin_flags 3) else None

abbrev pub whence_in : List ℕ → Option Whence
whence_in word =
    if bytes_eq word (codes "SET") then Some Set
    else if bytes_eq word (codes "CUR") then Some Cur
    else if bytes_eq word (codes "END") then Some End
    else if bytes_eq word (codes "DATA") then Some Data
    else if bytes_eq word (codes "HOLE") then Some Hole else None

-- what becomes of a range of a file
abbrev pub space_in : List ℕ → Option Space
space_in word =
    if bytes_eq word (codes "GROW") then Some Grow
    else if bytes_eq word (codes "KEEP") then Some Keep
    else if bytes_eq word (codes "PUNCH") then Some Punch else None

-- what a mknod makes
abbrev pub special_in : List ℕ → Option Special
special_in word =
    if bytes_eq word (codes "fifo") then Some Fifo
    else if bytes_eq word (codes "socket") then Some Socket else None
