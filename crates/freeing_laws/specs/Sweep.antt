-- What is freed after an edit: of the objects whose counts it
-- may have lowered those whose counts are 0.
use Rattle.std.specs.Prelude.{◌≡◌, ◌≢◌, ◌<◌, Bool, true, false, ℕ, List, [], ◌∷◌, ◌++◌, Option}
use Rattle.std.specs.Prelude.{Some, None, ⊤}
use Rattle.model.specs.FiniteMap.{get}
use Rattle.model.specs.State.{Name, A_directory, Kernel, Description, names_of, kind_of, links}
use Rattle.model.specs.Changes.{Edit, Unname_file, Unname_directory, Move, Share_slot, Clear_slot}
use Rattle.model.specs.Changes.{End_process, applied, all_applied, is_reached, tidy}
use Rattle.model.specs.Calls.{Call}
use Rattle.model.specs.Steps.{edits}
use Rattle.model.specs.Effects.{Effect, all_done}
use Rattle.call_laws.specs.WellFormed.{WellFormed}
use Rattle.call_laws.specs.CallLaws.{IsReady, changed}
use Rattle.call_laws.specs.Fits.{Fits, FitsAll}
use Rattle.freeing_laws.specs.Counts.{times, unnamed, let_go, free_description, free_inode}

-- the descriptions and the inodes whose counts may have fallen
pub record Lost : Type 0 where
  pub descriptions : List ℕ
  pub inodes : List ℕ

abbrev pub nothing : Lost
nothing = record { descriptions = []; inodes = [] }

abbrev pub both : Lost → Lost → Lost
both a b = record { descriptions = a.descriptions ++ b.descriptions; inodes = a.inodes ++ b.inodes }

abbrev pub inode_in : Option Description → List ℕ
inode_in (Some it) = it.inode ∷ []
inode_in None = []

-- the inodes that these descriptions open
abbrev pub inodes_of : Kernel → List ℕ → List ℕ
inodes_of k [] = []
inodes_of k (d ∷ ds) = inode_in (get k.descriptions d) ++ inodes_of k ds

-- By an edit of this state: the descriptions that descriptors name no more, what lost
-- a name, and what those descriptions open.
abbrev pub lost_by : Kernel → Edit → Lost
lost_by k e = record { descriptions = let_go k e; inodes = unnamed e ++ inodes_of k (let_go k e) }

abbrev pub free_descriptions : List ℕ → Kernel → Kernel
free_descriptions [] k = k
free_descriptions (d ∷ ds) k = free_descriptions ds (free_description d k)

abbrev pub free_inodes : List ℕ → Kernel → Kernel
free_inodes [] k = k
free_inodes (n ∷ ns) k = free_inodes ns (free_inode n k)

-- first the descriptions, then the inodes
abbrev pub swept : Lost → Kernel → Kernel
swept lost k = free_inodes lost.inodes (free_descriptions lost.descriptions k)

-- an edit, with what it lost freed at once
abbrev pub freed : List ℕ → Edit → Kernel → Kernel
freed chosen e k = swept (lost_by k e) (applied chosen e k)

-- One close after the other, as code does it: a description goes, and at once the
-- inode that it opened, if that was its last.
abbrev pub closed : ℕ → Kernel → Kernel
closed d k = free_inodes (inode_in (get k.descriptions d)) (free_description d k)

abbrev pub all_closed : List ℕ → Kernel → Kernel
all_closed [] k = k
all_closed (d ∷ ds) k = all_closed ds (closed d k)

-- an edit, with its losses freed so
abbrev pub freed_in_turn : List ℕ → Edit → Kernel → Kernel
freed_in_turn chosen e k = free_inodes (unnamed e) (all_closed (let_go k e) (applied chosen e k))

-- edits in a row, each with what it lost freed at once
abbrev pub all_freed : List ℕ → List Edit → Kernel → Kernel
all_freed chosen [] k = k
all_freed chosen (e ∷ es) k = all_freed chosen es (freed chosen e k)

-- what edits in a row may lose, each of the state that it finds
abbrev pub all_lost : List ℕ → List Edit → Kernel → Lost
all_lost chosen [] k = nothing
all_lost chosen (e ∷ es) k = both (lost_by k e) (all_lost chosen es (applied chosen e k))

-- each fits the state that it finds
abbrev pub AllFit : List Effect → Kernel → Type 0
AllFit [] k = ⊤
AllFit (f ∷ fs) k = FitsAll f.chosen k f.edits × AllFit fs (all_applied f.chosen f.edits k)

-- what many calls may lose, as those of a transaction
abbrev pub lost_along : List Effect → Kernel → Lost
lost_along [] k = nothing
lost_along (f ∷ fs) k =
    both (all_lost f.chosen f.edits k) (lost_along fs (all_applied f.chosen f.edits k))

-- each edit fits the state that is left when the earlier ones' losses are freed
abbrev pub FitsFreed : List ℕ → Kernel → List Edit → Type 0
FitsFreed chosen k [] = ⊤
FitsFreed chosen k (e ∷ es) = Fits chosen k e × FitsFreed chosen (freed chosen e k) es

-- one call of a list, with its new numbers
pub record MadeCall : Type 0 where
  pub pid : ℕ
  pub call : Call
  pub chosen : List ℕ

-- a call, and then its losses freed
abbrev pub called : MadeCall → Kernel → Kernel
called c k = swept (all_lost c.chosen (edits k c.pid c.call) k) (changed k c.pid c.call c.chosen)

abbrev pub all_called : List MadeCall → Kernel → Kernel
all_called [] k = k
all_called (c ∷ cs) k = all_called cs (called c k)

-- the same calls with nothing freed
abbrev pub all_changed : List MadeCall → Kernel → Kernel
all_changed [] k = k
all_changed (c ∷ cs) k = all_changed cs (changed k c.pid c.call c.chosen)

abbrev pub AreReady : List MadeCall → Kernel → Type 0
AreReady [] k = ⊤
AreReady (c ∷ cs) k =
    IsReady WellFormed k c.pid c.call c.chosen × AreReady cs (changed k c.pid c.call c.chosen)

-- a state that code holds: well formed, and with nothing to tidy
pub record IsTidied (k : Kernel) : Type 0 where
  pub well : WellFormed k
  pub tidied : tidy k ≡ k

-- what has a name in it has a name, or is the root
abbrev pub AreParented : Kernel → Type 0
AreParented k =
    (d : ℕ) (x : Name) (n : ℕ) → get (names_of k d) x ≡ Some n → links k d ≡ 0 → d ≡ k.root

-- rights are set of inodes that are there
abbrev pub AreSet : Kernel → Type 0
AreSet k = (n : ℕ) → get k.inodes n ≡ None → get k.rights n ≡ None

-- the edits after which something may go
abbrev pub loses : Edit → Bool
loses (Unname_file d x n) = true
loses (Unname_directory d x n) = true
loses (Move d x e y n replaced) = true
loses (Share_slot pid f d pipes) = true
loses (Clear_slot pid f pipes) = true
loses (End_process pid pipes) = true
loses _ = false

pub record SweepIsTidy : Type 0 where
  -- one edit
  pub one : (chosen : List ℕ) (k : Kernel) (e : Edit) → IsTidied k → Fits chosen k e
      → freed chosen e k ≡ tidy (applied chosen e k)
  pub in_turn : (chosen : List ℕ) (k : Kernel) (e : Edit) → IsTidied k → Fits chosen k e
      → freed_in_turn chosen e k ≡ tidy (applied chosen e k)
  -- after the other edits nothing goes
  pub none : (chosen : List ℕ) (k : Kernel) (e : Edit) → IsTidied k → Fits chosen k e
      → loses e ≡ false → tidy (applied chosen e k) ≡ applied chosen e k
  -- a directory that loses its name goes, so that code need not count for directories
  pub directory : (chosen : List ℕ) (k : Kernel) (e : Edit) (n : ℕ) → WellFormed k → Fits chosen k e
      → kind_of k n ≡ Some A_directory → 0 < times n (unnamed e)
      → is_reached (applied chosen e k) n ≡ false
  -- calls in a row, as of a transaction: one sweep at the end,
  -- which may look at more than what was lost
  pub at_end : (k : Kernel) (fs : List Effect) (more : Lost) → IsTidied k → AllFit fs k
      → swept (both (lost_along fs k) more) (all_done fs k) ≡ tidy (all_done fs k)
  -- edits in a row, each with its losses freed at once
  pub at_once : (chosen : List ℕ) (k : Kernel) (es : List Edit) → IsTidied k → FitsAll chosen k es
      → FitsFreed chosen k es
      → all_freed chosen es k ≡ tidy (all_applied chosen es k)
  -- of the edits of one call only the last loses anything, so that each may be freed at once
  pub call : (k : Kernel) (c : MadeCall) → IsTidied k → IsReady WellFormed k c.pid c.call c.chosen
      → all_freed c.chosen (edits k c.pid c.call) k ≡ tidy (changed k c.pid c.call c.chosen)
  -- calls in a row, each with its losses freed before the next
  pub calls : (k : Kernel) (cs : List MadeCall) → IsTidied k → AreReady cs k
      → all_called cs k ≡ tidy (all_changed cs k)
  -- in any order: what is freed at any time tidying drops too, so tidying later makes the same
  pub description_unseen : (k : Kernel) (d : ℕ) → tidy (free_description d k) ≡ tidy k
  pub inode_unseen : (k : Kernel) (n : ℕ) → WellFormed k → tidy (free_inode n k) ≡ tidy k
  -- For freeing one after the other, after calls in a row. The calls keep a well formed state,
  -- whose directories with names in them have parents;
  pub well : (fs : List Effect) (k : Kernel) → WellFormed k → AllFit fs k
      → WellFormed (all_done fs k)
  pub parented : (k : Kernel) → WellFormed k → AreParented k
  pub set : (k : Kernel) → WellFormed k → AreSet k
  -- so what may go has no names in it, and when it has gone the others have their parents still.
  pub bare : (k : Kernel) (n : ℕ) → AreParented k → is_reached k n ≡ false → (x : Name) (m : ℕ)
      → get (names_of k n) x ≢ Some m
  pub turn : (k : Kernel) (n : ℕ) → AreParented k → AreParented (free_inode n k)
  -- what is left is tidied and well formed again
  pub stays : (chosen : List ℕ) (k : Kernel) (e : Edit) → IsTidied k → Fits chosen k e
      → IsTidied (freed chosen e k)
