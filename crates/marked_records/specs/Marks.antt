-- What recorded touches mark at a directory, and which touches need not be asked about.
use Rattle.std.specs.Prelude.{◌≡◌, ℕ, Bool, true, false, not, ◌&&◌, ◌||◌, ◌==◌, if◌then◌else◌}
use Rattle.std.specs.Prelude.{List, length, take, filter}
use Rattle.std.specs.List.{list_any}
use Rattle.model.specs.Aspects.{Aspect, Entry, Names}
use Rattle.model.specs.Steps.{Touch}
use Rattle.model.specs.Modes.{ListMode, any_below, reads_names}
use Rattle.records.specs.Touches.{touched_by}
use Rattle.list_modes.specs.declared.Held.{Held}
use Rattle.list_modes.specs.Holding.{Table, held_of, with_marks, IsPartOf, mode_among}

-- whether a touch writes an entry of the directory; a write of all names writes each. No call makes
-- such a touch.
abbrev pub changes_names : ℕ → Aspect → Bool → Bool
changes_names d (Entry e x) true = d == e
changes_names d (Names e) true = d == e
changes_names d _ _ = false

abbrev pub marks_of : ℕ → Touch → Held
marks_of d t = record {
  names_read = reads_names d t.aspect;
  entry_written = changes_names d t.aspect t.write;
}

abbrev pub marks_at : ℕ → List Touch → Held
marks_at d ts = record {
  names_read = list_any (λ t. reads_names d t.aspect) ts;
  entry_written = list_any (λ t. changes_names d t.aspect t.write) ts;
}

abbrev pub joined : Held → Held → Held
joined a b = with_marks a b.names_read b.entry_written

-- whether it marks the directory
abbrev pub is_mark_at : ℕ → Touch → Bool
is_mark_at d t = (marks_of d t).names_read || (marks_of d t).entry_written

-- what each process holds of each directory is what its touches mark there
pub record IsMarked (lists : List (List Touch)) (table : Table) : Type 0 where
  pub each : (p d : ℕ) → held_of table p d ≡ marks_at d (touched_by lists p)

-- one process's marks, and the others' as before
abbrev pub SetsMarks : Table → Table → ℕ → (ℕ → Held) → Type 0
SetsMarks old new pid marks =
    (p d : ℕ) → held_of new p d ≡ (if p == pid then marks d else held_of old p d)

-- What a process holds lies between the marks of its first touches and those of all.
pub record IsBetween (table : Table) (pid count : ℕ) (ts : List Touch) : Type 0 where
  pub least : (d : ℕ) → IsPartOf (marks_at d (take count ts)) (held_of table pid d)
  pub most : (d : ℕ) → IsPartOf (held_of table pid d) (marks_at d ts)

-- the list mode of a directory, by what each process has touched
abbrev pub mode_by_touches : List (List Touch) → ℕ → ListMode
mode_by_touches lists d = mode_among (λ q. (marks_at d (touched_by lists q)).names_read)
    (λ q. (marks_at d (touched_by lists q)).entry_written) (length lists)

-- whether a process but this one writes an entry of a directory
abbrev pub others_write : List (List Touch) → ℕ → ℕ → Bool
others_write lists pid d =
    any_below (λ q. not (q == pid) && (marks_at d (touched_by lists q)).entry_written) (length lists)

-- a look at all names of a directory that passes the test
abbrev pub looks_at : (ℕ → Bool) → Aspect → Bool → Bool
looks_at test (Names d) false = test d
looks_at test _ _ = false

-- all touches but the looks at the names of such directories
abbrev pub dropped : (ℕ → Bool) → List Touch → List Touch
dropped test ts = filter (λ t. not (looks_at test t.aspect t.write)) ts

-- no process but this one writes an entry of such a directory
abbrev pub AreUnwritten : List (List Touch) → ℕ → (ℕ → Bool) → Type 0
AreUnwritten lists pid test = (d q : ℕ) → test d ≡ true → (q == pid) ≡ false
    → (marks_at d (touched_by lists q)).entry_written ≡ false
