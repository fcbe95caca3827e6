-- A well-formed state of the plain kernel.
use Rattle.std.specs.Prelude.{◌≡◌, ◌≢◌, ℕ, ◌≤◌, ◌<◌, List, [], ◌∷◌, Option, Some, None, ⊤, true, min}
use Rattle.model.specs.FiniteMap.{get}
pub use Rattle.model.specs.Limits.{descriptor_limit}
use Rattle.model.specs.State.{Name, Kind, Kernel, Description, A_file, A_directory, A_pipe, A_link}
use Rattle.model.specs.State.{A_fifo, A_socket, Rights, kind_of, names_of, links}
use Rattle.model.specs.Changes.{process_of}
use Rattle.model.specs.Moments.{is_alive}

-- how many descriptors a process of a kernel may have
abbrev pub most_descriptors : Kernel → ℕ
most_descriptors k = min k.bounds.descriptors descriptor_limit

-- what may have several names: a file, or what never changes
abbrev pub CanBeLinked : Option Kind → Type 0
CanBeLinked (Some A_file) = ⊤
CanBeLinked (Some A_link) = ⊤
CanBeLinked (Some A_fifo) = ⊤
CanBeLinked (Some A_socket) = ⊤
CanBeLinked _ = ⊥

-- what a name may give: that, or a directory
abbrev pub CanBeNamed : Option Kind → Type 0
CanBeNamed (Some A_file) = ⊤
CanBeNamed (Some A_directory) = ⊤
CanBeNamed (Some A_link) = ⊤
CanBeNamed (Some A_fifo) = ⊤
CanBeNamed (Some A_socket) = ⊤
CanBeNamed _ = ⊥

-- what a description may be of: a file or a pipe
abbrev pub CanBeOpened : Option Kind → Type 0
CanBeOpened (Some A_file) = ⊤
CanBeOpened (Some A_pipe) = ⊤
CanBeOpened _ = ⊥

-- a directory that has a name, or is the root
pub record IsRooted (k : Kernel) (d : ℕ) : Type 0 where
  pub directory : kind_of k d ≡ Some A_directory
  pub rooted : links k d ≡ 0 → d ≡ k.root

-- the names of a path lead from a to b
abbrev pub Leads : Kernel → ℕ → List Name → ℕ → Type 0
Leads k a [] b = a ≡ b
Leads k a (x ∷ xs) b = (m : ℕ) × (get (names_of k a) x ≡ Some m) × Leads k m xs b

-- It holds between the steps of a list too, before tidying: what nothing
-- leads to may be there, and is then empty.
pub record WellFormed (k : Kernel) : Type 0 where
  -- the root is a directory, and no name gives it
  pub root : kind_of k k.root ≡ Some A_directory
  pub root_unnamed : links k k.root ≡ 0
  -- each name gives what may be named, and each other directory has at most one
  pub names : (d : ℕ) (x : Name) (n : ℕ) → get (names_of k d) x ≡ Some n → CanBeNamed (kind_of k n)
  pub one_name : (d : ℕ) → kind_of k d ≡ Some A_directory → links k d ≤ 1
  -- a directory with no name is the root, or has no names in it
  pub parents : (d : ℕ) (x : Name) (n : ℕ) → get (names_of k d) x ≡ Some n → links k d ≡ 0
      → d ≡ k.root
  -- directories are a tree: each that has a name is led to from the root
  pub leads : (d : ℕ) → IsRooted k d → (path : List Name) × Leads k k.root path d
  -- each descriptor is below the kernel's own number of them and gives a description
  pub slots : (pid f d : ℕ) → get (process_of k pid).table f ≡ Some d
      → (it : Description) × (get k.descriptions d ≡ Some it)
  pub low : (pid f d : ℕ) → get (process_of k pid).table f ≡ Some d → f < most_descriptors k
  -- each description is of a file or a pipe
  pub descriptions : (d : ℕ) (it : Description) → get k.descriptions d ≡ Some it
      → CanBeOpened (kind_of k it.inode)
  -- rights are set of inodes that are there
  pub rights : (n : ℕ) (set : Rights) → get k.rights n ≡ Some set → kind_of k n ≢ None
  -- no process has a number above the count of those made
  pub counted : (pid : ℕ) → is_alive k pid ≡ true → pid ≤ k.made
