-- How far a check of a history that comes in parts has come.
use Rattle.std.specs.Prelude.{ℕ, List, ◌++◌}
use Rattle.model.specs.Entries.{Entry}
use Rattle.model.specs.Moments.{Setup}

-- the number of the root, what the kernel was given when it was made, and all entries so far
pub record Checked : Type 0 where
  pub root : ℕ
  pub setup : Setup
  pub entries : List Entry

-- some entries more
abbrev pub with_more : Checked → List Entry → Checked
with_more so_far more = record so_far { entries = so_far.entries ++ more }
