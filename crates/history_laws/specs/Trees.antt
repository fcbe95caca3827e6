-- The directories of each committed state are a tree (POSIX.1-2017, base definitions, file
-- hierarchy: a single root, and each other directory in exactly one directory).
use Rattle.std.specs.Prelude.{◌≡◌, ◌≢◌, ℕ, List, [], Some}
use Rattle.model.specs.State.{Name, Kernel, A_directory, kind_of, links}
use Rattle.call_laws.specs.WellFormed.{Leads}
use Rattle.history_laws.specs.Each.{AfterEach}

pub record IsATree (k : Kernel) : Type 0 where
  -- the root is a directory, and no entry gives it
  pub root : kind_of k k.root ≡ Some A_directory
  pub no_entry : links k k.root ≡ 0
  -- each other directory has exactly one entry
  pub one_entry : (d : ℕ) → kind_of k d ≡ Some A_directory → d ≢ k.root → links k d ≡ 1
  -- each directory has a path from the root, and no other path
  pub path : (d : ℕ) → kind_of k d ≡ Some A_directory → (path : List Name) × Leads k k.root path d
  pub one_path : (d : ℕ) (p q : List Name) → kind_of k d ≡ Some A_directory
      → Leads k k.root p d → Leads k k.root q d → p ≡ q
  -- none is below itself
  pub no_ring : (d : ℕ) (path : List Name) → kind_of k d ≡ Some A_directory
      → Leads k d path d → path ≡ []

abbrev pub CommittedDirectoriesAreATree : Type 0
CommittedDirectoriesAreATree = AfterEach (λ limit m. IsATree m.committed)
