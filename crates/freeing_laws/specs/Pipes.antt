-- The two descriptions of a pipe, what their holders say of its ends, and how long pipes get
-- (POSIX.1-2017, pipe).
use Rattle.std.specs.Prelude.{◌≡◌, ◌+◌, ◌<◌, ◌≤◌, ◌==◌, ◌⊎◌, Bool, true, false, ℕ, List, length}
use Rattle.std.specs.Prelude.{Option, Some, None, if◌then◌else◌}
use Rattle.std.specs.Ordering.{nat_cmp}
use Rattle.model.specs.FiniteMap.{FinMap, get, values}
use Rattle.model.specs.Limits.{capacity}
use Rattle.model.specs.State.{A_pipe, Description, Kernel, Process, ends, is_end, kind_of, pipe_of}
use Rattle.model.specs.Changes.{Edit, Made, Make_pipe, applied, holders, number, openings}
use Rattle.model.specs.Changes.{set_process}
use Rattle.model.specs.Effects.{Effect, all_done}
use Rattle.call_laws.specs.Fits.{Fits, table_of}
use Rattle.call_laws.specs.WellFormed.{WellFormed}
use Rattle.freeing_laws.specs.Counts.{times}
use Rattle.freeing_laws.specs.Sweep.{AllFit}

abbrev pub reads : Description → Bool
reads d = d.reading

abbrev pub writes : Description → Bool
writes d = d.writing

-- Of pipe p one description alone may read and one alone may write, and no other is of it.
pub record ArePair (m : FinMap nat_cmp Description) (p reader writer : ℕ) : Type 0 where
  pub reads : (d : ℕ) → is_end reads p (get m d) ≡ true → d ≡ reader
  pub writes : (d : ℕ) → is_end writes p (get m d) ≡ true → d ≡ writer
  pub either : (d : ℕ) (it : Description) → get m d ≡ Some it → it.inode ≡ p
      → (d ≡ reader) ⊎ (d ≡ writer)

-- whether a description is of p
abbrev pub is_of : ℕ → Option Description → Bool
is_of p (Some it) = it.inode == p
is_of p None = false

-- the holders of a description, where it is such an end of p
abbrev pub holders_if : Kernel → (Description → Bool) → ℕ → ℕ → ℕ
holders_if k mode p d = if is_end mode p (get k.descriptions d) then holders k d else 0

abbrev pub IsShort : Kernel → Type 0
IsShort k = (p : ℕ) → length (pipe_of k p) ≤ capacity

pub record PipesKeepTheirEnds : Type 0 where
  -- a pipe that is there stays, and keeps its two descriptions
  pub stays : (chosen : List ℕ) (k : Kernel) (e : Edit) → Fits chosen k e → (p : ℕ)
      → kind_of k p ≡ Some A_pipe → kind_of (applied chosen e k) p ≡ Some A_pipe
  pub keeps : (chosen : List ℕ) (k : Kernel) (e : Edit) → Fits chosen k e → (p r w : ℕ)
      → kind_of k p ≡ Some A_pipe → ArePair k.descriptions p r w
      → ArePair (applied chosen e k).descriptions p r w
  pub along : (fs : List Effect) (k : Kernel) → AllFit fs k → (p r w : ℕ)
      → kind_of k p ≡ Some A_pipe → ArePair k.descriptions p r w
      → ArePair (all_done fs k).descriptions p r w
  -- a new one has these
  pub made : (chosen : List ℕ) (k : Kernel) (i pid f g : ℕ) → WellFormed k
      → Fits chosen k (Make_pipe i pid f g)
      → ArePair (applied chosen (Make_pipe i pid f g) k).descriptions (number chosen (Made i))
      (number chosen (Made (i + 1))) (number chosen (Made (i + 2)))
  -- what is nothing has none
  pub none : (k : Kernel) (p r w : ℕ) → WellFormed k → kind_of k p ≡ None
      → ArePair k.descriptions p r w
  -- its ends are their holders, and it is open while one of them is there
  pub reading : (k : Kernel) (p r w : ℕ) → ArePair k.descriptions p r w
      → ends k p reads ≡ holders_if k reads p r
  pub writing : (k : Kernel) (p r w : ℕ) → ArePair k.descriptions p r w
      → ends k p writes ≡ holders_if k writes p w
  pub opened : (k : Kernel) (p d : ℕ) → is_of p (get k.descriptions d) ≡ true → 0 < openings k p
  pub closed : (k : Kernel) (p r w : ℕ) → ArePair k.descriptions p r w
      → is_of p (get k.descriptions r) ≡ false → is_of p (get k.descriptions w) ≡ false
      → openings k p ≡ 0
  -- how holders change with the table of one process
  pub holders : (k : Kernel) (pid d : ℕ) (process : Process)
      → holders (set_process pid process k) d + times d (values (table_of k pid))
      ≡ holders k d + times d (values process.table)
  -- no pipe gets longer than it may
  pub short : (fs : List Effect) (k : Kernel) → AllFit fs k → IsShort k → IsShort (all_done fs k)
