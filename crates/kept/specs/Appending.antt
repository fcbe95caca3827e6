-- The payload that a store appends next.
use Rattle.std.specs.Prelude.{◌≡◌, ℕ, List, ◌∷◌}
use Rattle.entry_codec.specs.Entries.{AreEntries, entries_bytes}
use Rattle.redo_records.specs.Recording.{entries_of}
use Rattle.redo_records.specs.declared.recorder.Record.{Record}

-- it is the bytes of the first of these records
pub record IsOfFirst (waiting : List Record) (payload : List ℕ) : Type 0 where
  pub made : Record
  pub rest : List Record
  pub first : waiting ≡ made ∷ rest
  pub is : payload ≡ entries_bytes (entries_of made)
  pub fits : AreEntries (entries_of made)
