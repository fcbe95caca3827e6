-- The entries of calls that wait for the end of their transaction.
use Rattle.std.specs.Prelude.{ℕ, List}
use Rattle.model.specs.Entries.{Entry}

-- the entries, in order, and for how many more there is room
pub record Pending : Type 0 where
  pub entries : List Entry
  pub room : ℕ
