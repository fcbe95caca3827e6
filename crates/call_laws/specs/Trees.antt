-- The directories of a state are a tree.
use Rattle.std.specs.Prelude.{◌≡◌, ℕ, List, [], Some}
use Rattle.model.specs.State.{Name, Kernel, A_directory, kind_of}
use Rattle.call_laws.specs.WellFormed.{IsRooted, Leads, WellFormed}

pub record IsTree (k : Kernel) : Type 0 where
  -- each directory that has a name, and the root, has a path from the root
  pub path : (d : ℕ) → IsRooted k d → (path : List Name) × Leads k k.root path d
  -- and no other path
  pub one_path : (d : ℕ) (p q : List Name) → kind_of k d ≡ Some A_directory → Leads k k.root p d
      → Leads k k.root q d → p ≡ q
  -- none is below itself
  pub no_ring : (d : ℕ) (path : List Name) → IsRooted k d → Leads k d path d → path ≡ []

abbrev pub DirectoriesAreATree : Type 0
DirectoriesAreATree = (k : Kernel) → WellFormed k → IsTree k
