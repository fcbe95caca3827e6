-- What a contract sees of the committed state.
use Rattle.std.specs.Prelude.{ℕ, Bool, Option}
use Rattle.std.specs.Ordering.{nat_cmp}
use Rattle.model.specs.FiniteMap.{FinMap}
use Rattle.model.specs.State.{Kernel}

-- what is kept of a number that is in use: whether its object is still to come, and for how many
-- further names room is promised, where it is a directory
pub record Reserve : Type 0 where
  pub coming : Bool
  pub promised : Option ℕ

-- the plain kernel's state, and what is kept for transactions that may commit
pub record Committed : Type 0 where
  pub state : Kernel
  pub reserves : FinMap nat_cmp Reserve
