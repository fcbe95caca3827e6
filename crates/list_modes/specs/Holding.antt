-- What processes hold of directories, and the list mode that comes of it.
use Rattle.std.specs.Prelude.{◌≡◌, ℕ, ◌≤◌, Bool, true, false, not, ◌&&◌, ◌||◌, ◌==◌, if◌then◌else◌}
use Rattle.std.specs.Prelude.{List, unwrap_or}
use Rattle.std.specs.Map.{lookup}
use Rattle.std.specs.Ordering.{nat_cmp, ordering_then, is_eq}
use Rattle.std.specs.declared.cmp.Ordering.{Ordering}
use Rattle.model.specs.Modes.{ListMode, NoTx, Read, Write, Exclusive, any_below}
pub use Rattle.list_modes.specs.declared.Held.{Held}

abbrev pub nothing : Held
nothing = record { names_read = false; entry_written = false }

-- by the process, and then by the directory
abbrev pub place_cmp : ℕ × ℕ → ℕ × ℕ → Ordering
place_cmp a b = ordering_then (nat_cmp a.0 b.0) (nat_cmp a.1 b.1)

-- what processes hold of directories, in that order
abbrev pub Table : Type 0
Table = List ((ℕ × ℕ) × Held)

abbrev pub held_of : Table → ℕ → ℕ → Held
held_of table pid dir = unwrap_or (lookup (λ place. is_eq (place_cmp (pid, dir) place)) table) nothing

-- with these marks besides
abbrev pub with_marks : Held → Bool → Bool → Held
with_marks held names_read entry_written = record {
  names_read = held.names_read || names_read;
  entry_written = held.entry_written || entry_written;
}

-- each mark of the first is one of the second
pub record IsPartOf (part held : Held) : Type 0 where
  pub names_read : part.names_read ≡ true → held.names_read ≡ true
  pub entry_written : part.entry_written ≡ true → held.entry_written ≡ true

-- one process holds this of one directory, and all else is as before
abbrev pub SetsHeld : Table → Table → ℕ → ℕ → Held → Type 0
SetsHeld old new pid dir held = (p d : ℕ) → held_of new p d
    ≡ (if (p == pid) && (d == dir) then held else held_of old p d)

-- one process holds nothing, and all others what they held before
abbrev pub LetsGo : Table → Table → ℕ → Type 0
LetsGo old new pid =
    (p d : ℕ) → held_of new p d ≡ (if p == pid then nothing else held_of old p d)

-- no process from this number on holds anything
abbrev pub IsBelow : ℕ → Table → Type 0
IsBelow n table = (p d : ℕ) → n ≤ p → held_of table p d ≡ nothing

-- the list mode of a directory, by which of so many processes read its names and which write an
-- entry of it
abbrev pub mode_among : (ℕ → Bool) → (ℕ → Bool) → ℕ → ListMode
mode_among reads writes n =
    if any_below (λ q. reads q && writes q) n then Exclusive
    else if any_below writes n then Write
    else if any_below reads n then Read
    else NoTx

-- the list mode that comes of a table of so many processes
abbrev pub mode_in : Table → ℕ → ℕ → ListMode
mode_in table dir n = mode_among (λ q. (held_of table q dir).names_read)
    (λ q. (held_of table q dir).entry_written) n

-- whether one of so many processes, but not this one, writes an entry of a directory
abbrev pub others_write : Table → ℕ → ℕ → ℕ → Bool
others_write table dir pid n =
    any_below (λ q. not (q == pid) && (held_of table q dir).entry_written) n
