-- Numbers for new objects.
use Rattle.std.specs.Prelude.{◌≡◌, ℕ, None}
use Rattle.model.specs.FiniteMap.{get}
use Rattle.model.specs.State.{Kernel}

-- a number that is no inode and no description
pub record IsUnused (k : Kernel) (n : ℕ) : Type 0 where
  pub inode : get k.inodes n ≡ None
  pub description : get k.descriptions n ≡ None
