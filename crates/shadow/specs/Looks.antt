-- What is told of looks.
use Rattle.std.specs.Prelude.{◌≡◌, ℕ, ◌+◌, List, [], Option, Some, None}
use Rattle.model.specs.FiniteMap.{get}
use Rattle.model.specs.State.{A_directory, Kernel, kind_of, links}
use Rattle.model.specs.Changes.{process_of}
use Rattle.model.specs.Effects.{Effect, all_done}
use Rattle.freeing_laws.specs.Sweep.{AllFit}
use Rattle.shadow.specs.Committed.{Committed}
use Rattle.shadow.specs.Claims.{IsDirectory}
use Rattle.shadow.specs.Agrees.{IsOver}
use Rattle.notes.specs.Patches.{Net, form_of, patched}

-- no changes, for a process in no transaction
abbrev pub changes_of : Option (List Effect) → List Effect
changes_of (Some ds) = ds
changes_of None = []

-- each directory can have room promised
abbrev pub DirectoriesAreKept : Committed → Type 0
DirectoriesAreKept s = (d : ℕ) → kind_of s.state d ≡ Some A_directory → IsDirectory s.reserves d

-- how many processes were made, and a process's priority
abbrev pub birth_of : Kernel → ℕ → ℕ × ℕ
birth_of k pid = (k.made, (process_of k pid).priority)

-- What changes make of an inode and of its names, in any state that they fit, where this is what
-- counts of them, and of what kind what stands below them is.
pub record IsNet (ds : List Effect) (n : ℕ) (net : Net) : Type 0 where
  pub over : (k : Kernel) → AllFit ds k → IsOver (kind_of k n) net.made (form_of net.contents)
  pub inode : (k : Kernel) → AllFit ds k
      → get (all_done ds k).inodes n ≡ patched net.contents (get k.inodes n)
  pub links : (k : Kernel) → AllFit ds k
      → links (all_done ds k) n + net.unnamed ≡ links k n + net.named

-- Changes leave the root, the bounds, the count of processes and the priorities.
pub record KeepsRest (ds : List Effect) : Type 0 where
  pub root : (k : Kernel) → (all_done ds k).root ≡ k.root
  pub bounds : (k : Kernel) → (all_done ds k).bounds ≡ k.bounds
  pub birth : (k : Kernel) (pid : ℕ) → birth_of (all_done ds k) pid ≡ birth_of k pid
