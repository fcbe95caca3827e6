-- What effects leave to free, by the counts as they stand, and that freeing it in turn is tidying.
use Rattle.std.specs.Prelude.{◌≡◌, ◌≢◌, ◌+◌, ◌<◌, ◌⊎◌, true, ℕ, List, [], ◌∷◌, ◌++◌, Some, None}
use Rattle.model.specs.FiniteMap.{get}
use Rattle.model.specs.State.{Kernel, links}
use Rattle.model.specs.Changes.{Edit, is_held, is_reached, holders, tidy}
use Rattle.model.specs.Changes.{set_process, with_slot, without_slot, process_of}
use Rattle.model.specs.Effects.{Effect, all_done}
use Rattle.call_laws.specs.Fits.{table_of}
use Rattle.freeing_laws.specs.Counts.{listed, times, named, unnamed}
use Rattle.freeing_laws.specs.Sweep.{AllFit, AreParented, AreSet, IsTidied, all_closed, free_inodes}

-- the inodes that edits give a name, and those that lose one
abbrev pub all_named : List ℕ → List Edit → List ℕ
all_named chosen [] = []
all_named chosen (e ∷ es) = named chosen e ++ all_named chosen es

abbrev pub all_unnamed : List Edit → List ℕ
all_unnamed [] = []
all_unnamed (e ∷ es) = unnamed e ++ all_unnamed es

abbrev pub named_along : List Effect → List ℕ
named_along [] = []
named_along (f ∷ fs) = all_named f.chosen f.edits ++ named_along fs

abbrev pub unnamed_along : List Effect → List ℕ
unnamed_along [] = []
unnamed_along (f ∷ fs) = all_unnamed f.edits ++ unnamed_along fs

-- by the counts, what nothing leads to is among these descriptions and inodes
pub record AreLeft (ds ns : List ℕ) (k : Kernel) : Type 0 where
  pub parents : AreParented k
  pub rights : AreSet k
  pub descriptions : (d : ℕ) → get k.descriptions d ≢ None → (is_held k d ≡ true) ⊎ (0 < times d ds)
  pub inodes : (n : ℕ) → get k.inodes n ≢ None → (is_reached k n ≡ true) ⊎ (0 < times n ns)

-- a slot of a process that gives a description
pub record IsSlot (k : Kernel) (pid f d : ℕ) : Type 0 where
  pub gives : get (table_of k pid) f ≡ Some d

pub record HasSlot (k : Kernel) (d : ℕ) : Type 0 where
  pub pid : ℕ
  pub descriptor : ℕ
  pub is : IsSlot k pid descriptor d

pub record LeftIsTidy : Type 0 where
  -- Where the descriptions go one after the other, each with its inode, and then the inodes, of
  -- those that nothing leads to, the state is tidied.
  pub closed : (ds ns : List ℕ) (k : Kernel) → AreLeft ds ns k
      → free_inodes ns (all_closed ds k) ≡ tidy k
  -- A description of a tidied state is held by a slot; so one that is not held later was
  -- there and has lost this slot, or is new.
  pub held : (k : Kernel) (d : ℕ) → IsTidied k → get k.descriptions d ≢ None → HasSlot k d
  pub holds : (k : Kernel) (pid f d : ℕ) → IsSlot k pid f d → is_held k d ≡ true
  -- An inode that nothing leads to after effects on a tidied state has lost a name.
  pub inodes : (k : Kernel) (fs : List Effect) → IsTidied k → AllFit fs k → (n : ℕ)
      → get (all_done fs k).inodes n ≢ None
      → (is_reached (all_done fs k) n ≡ true) ⊎ (0 < times n (unnamed_along fs))
  -- how many names give an inode after effects
  pub links : (k : Kernel) (fs : List Effect) → AllFit fs k → (n : ℕ)
      → links (all_done fs k) n + times n (unnamed_along fs)
      ≡ links k n + times n (named_along fs)
  -- how many slots give a description where one slot changes
  pub set : (k : Kernel) (pid f d e : ℕ)
      → holders (set_process pid (with_slot f d (process_of k pid)) k) e
      + times e (listed (get (table_of k pid) f)) ≡ holders k e + times e (d ∷ [])
  pub cleared : (k : Kernel) (pid f e : ℕ)
      → holders (set_process pid (without_slot f (process_of k pid)) k) e
      + times e (listed (get (table_of k pid) f)) ≡ holders k e
