-- What each edit asks of the state, whose edits they are, and what they then keep: the
-- notions that the laws of calls are proved by.
use Rattle.std.specs.Prelude.{◌≡◌, ◌≢◌, ℕ, suc, ◌+◌, ◌<◌, ◌≤◌, Bool, true, false, List, [], ◌∷◌}
use Rattle.std.specs.Prelude.{Option, Some, None, length, ⊤}
use Rattle.std.specs.Ordering.{nat_cmp}
use Rattle.std.specs.List.{AllByRecursion}
use Rattle.model.specs.FiniteMap.{FinMap, get, keys}
use Rattle.model.specs.State.{Name, Kind, A_file, A_directory, A_pipe, Kernel, Description}
use Rattle.model.specs.State.{names_of, file_of, pipe_of, kind_of, links, mapped}
use Rattle.model.specs.Aspects.{Aspect, Keeps, KeepsAll}
use Rattle.model.specs.Calls.{Slot, slot_of}
use Rattle.model.specs.Steps.{IsNowhere}
use Rattle.model.specs.Limits.{capacity}
use Rattle.model.specs.Moments.{is_in}
use Rattle.model.specs.Changes.{Made, number, Edit, Make_directory, Make_file, Make_fixed}
use Rattle.model.specs.Changes.{Name_file, Unname_file, Unname_directory, Move, Put_bytes, Cut, Take, Append}
use Rattle.model.specs.Changes.{Swap, Wipe}
use Rattle.model.specs.Changes.{Set_offset, Set_rights, Open_inode, Make_pipe, Share_slot, Clear_slot}
use Rattle.model.specs.Changes.{New_process, End_process, marks, applied, process_of}
use Rattle.model.specs.Changes.{Replaced, Over_nothing, Over_file, Over_directory}
use Rattle.call_laws.specs.Objects.{IsThere, LeavesAlone}
use Rattle.call_laws.specs.WellFormed.{CanBeLinked, IsRooted, Leads, most_descriptors}

-- a name of a directory that is free
pub record IsFree (k : Kernel) (d : ℕ) (x : Name) : Type 0 where
  pub parent : IsRooted k d
  pub free : get (names_of k d) x ≡ None

-- a name of a directory that gives n
pub record Gives (k : Kernel) (d : ℕ) (x : Name) (n : ℕ) (what : Kind) : Type 0 where
  pub parent : IsRooted k d
  pub gives : get (names_of k d) x ≡ Some n
  pub kind : kind_of k n ≡ Some what

-- a name of a directory that gives n, which may have several
pub record GivesLinked (k : Kernel) (d : ℕ) (x : Name) (n : ℕ) : Type 0 where
  pub parent : IsRooted k d
  pub gives : get (names_of k d) x ≡ Some n
  pub kind : CanBeLinked (kind_of k n)

-- what stands where a name is moved to: nothing, a directory with no names, or anything else
abbrev pub CanBeReplaced : Kernel → ℕ → Option ℕ → Replaced → Type 0
CanBeReplaced k n None Over_nothing = ⊤
CanBeReplaced k n (Some m) (Over_directory r) =
    (n ≢ m) × (kind_of k m ≡ Some A_directory) × (r ≡ m) × (keys (names_of k m) ≡ [])
CanBeReplaced k n (Some m) (Over_file r) = (n ≢ m) × CanBeLinked (kind_of k m) × (r ≡ m)
CanBeReplaced k n _ _ = ⊥

-- what moves is named, does not go to below itself, and may replace what has the new name
pub record CanMove (k : Kernel) (d : ℕ) (x : Name) (e : ℕ) (y : Name) (n : ℕ)
    (replaced : Replaced) : Type 0 where
  pub what : Kind
  pub from : Gives k d x n what
  pub onto : IsRooted k e
  pub old : Option ℕ
  pub gives : get (names_of k e) y ≡ old
  pub replaces : CanBeReplaced k n old replaced
  pub no_ring : (path : List Name) → Leads k n path e → ⊥

-- two names of different objects, neither of which leads to the directory of the other's name
pub record CanSwap (k : Kernel) (d : ℕ) (x : Name) (n e : ℕ) (y : Name) (m : ℕ) : Type 0 where
  pub what : Kind
  pub other : Kind
  pub first : Gives k d x n what
  pub second : Gives k e y m other
  pub apart : n ≢ m
  pub no_ring : (path : List Name) → Leads k n path e → ⊥
  pub no_ring_back : (path : List Name) → Leads k m path d → ⊥

abbrev pub table_of : Kernel → ℕ → FinMap nat_cmp ℕ
table_of k pid = (process_of k pid).table

abbrev pub IsAlive : Kernel → ℕ → Type 0
IsAlive k pid = get k.processes pid ≢ None

-- p is among these
abbrev pub IsAmong : List ℕ → ℕ → Type 0
IsAmong pipes p = AllByRecursion (λ q. q ≢ p) pipes → ⊥

-- the pipe that a description gives, where it gives one, is among these
abbrev pub ListsPipe : Kernel → List ℕ → ℕ → Type 0
ListsPipe k pipes d =
    (it : Description) → get k.descriptions d ≡ Some it → kind_of k it.inode ≡ Some A_pipe
    → IsAmong pipes it.inode

-- each pipe that a process has open is among these
abbrev pub ListsPipes : Kernel → ℕ → List ℕ → Type 0
ListsPipes k pid pipes = (f d : ℕ) → get (table_of k pid) f ≡ Some d → ListsPipe k pipes d

-- a description that is not there and that no slot names
pub record IsUnused (k : Kernel) (d : ℕ) : Type 0 where
  pub description : get k.descriptions d ≡ None
  pub unheld : (pid f : ℕ) → get (table_of k pid) f ≢ Some d

-- a descriptor of a process that is free
pub record IsOpenSlot (k : Kernel) (pid f : ℕ) : Type 0 where
  pub alive : IsAlive k pid
  pub free : get (table_of k pid) f ≡ None
  pub low : f < most_descriptors k

-- a description of a file that has a name
pub record CanOpen (chosen : List ℕ) (k : Kernel) (d n pid f : ℕ) : Type 0 where
  pub unused : IsUnused k d
  pub listed : is_in d chosen ≡ true
  pub kind : kind_of k n ≡ Some A_file
  pub named : links k n ≢ 0
  pub slot : IsOpenSlot k pid f

-- a pipe p with its descriptions d and e in the slots f and g
pub record CanPipe (chosen : List ℕ) (k : Kernel) (p d e pid f g : ℕ) : Type 0 where
  pub pipe : IsNowhere k p
  pub reader : IsUnused k d
  pub writer : IsUnused k e
  pub different : d ≢ e
  pub slot : IsOpenSlot k pid f
  pub other : IsOpenSlot k pid g
  pub apart : f ≢ g
  pub listed : is_in p chosen ≡ true
  pub reader_listed : is_in d chosen ≡ true
  pub writer_listed : is_in e chosen ≡ true

-- a description that another descriptor of the process gives
pub record CanShare (k : Kernel) (pid f d : ℕ) (pipes : List ℕ) : Type 0 where
  pub alive : IsAlive k pid
  pub from : ℕ
  pub held : get (table_of k pid) from ≡ Some d
  pub low : f < most_descriptors k
  pub comes : ListsPipe k pipes d
  pub goes : (e : ℕ) → get (table_of k pid) f ≡ Some e → ListsPipe k pipes e

pub record CanClear (k : Kernel) (pid f : ℕ) (pipes : List ℕ) : Type 0 where
  pub alive : IsAlive k pid
  pub goes : (e : ℕ) → get (table_of k pid) f ≡ Some e → ListsPipe k pipes e

pub record CanFork (k : Kernel) (child parent : ℕ) (pipes : List ℕ) : Type 0 where
  pub alive : IsAlive k parent
  pub fresh : get k.processes child ≡ None
  pub next : child ≡ suc k.made
  pub shared : ListsPipes k parent pipes

pub record CanEnd (k : Kernel) (pid : ℕ) (pipes : List ℕ) : Type 0 where
  pub alive : IsAlive k pid
  pub shared : ListsPipes k pid pipes

-- What an edit asks of the state. What may have several names gets a further one only where it has
-- one, so that tidying before it changes nothing.
abbrev pub Fits : List ℕ → Kernel → Edit → Type 0
Fits chosen k (Make_directory d x i) =
    IsFree k d x × IsNowhere k (number chosen (Made i))
    × (is_in (number chosen (Made i)) chosen ≡ true)
Fits chosen k (Make_file d x i) =
    IsFree k d x × IsNowhere k (number chosen (Made i))
    × (is_in (number chosen (Made i)) chosen ≡ true)
Fits chosen k (Make_fixed d x fixed i) =
    IsFree k d x × IsNowhere k (number chosen (Made i))
    × (is_in (number chosen (Made i)) chosen ≡ true)
Fits chosen k (Name_file d x n) = IsFree k d x × CanBeLinked (kind_of k n) × (links k n ≢ 0)
Fits chosen k (Unname_file d x n) = GivesLinked k d x n
Fits chosen k (Unname_directory d x n) = Gives k d x n A_directory × (keys (names_of k n) ≡ [])
Fits chosen k (Move d x e y n replaced) = CanMove k d x e y n replaced
Fits chosen k (Swap d x n e y m) = CanSwap k d x n e y m
Fits chosen k (Put_bytes n place bytes before) =
    (kind_of k n ≡ Some A_file) × (length (file_of k n) ≡ before)
Fits chosen k (Wipe n place count) =
    (kind_of k n ≡ Some A_file) × (place + count ≤ length (file_of k n))
Fits chosen k (Cut n before after) = (kind_of k n ≡ Some A_file) × (length (file_of k n) ≡ before)
Fits chosen k (Take p count) = (kind_of k p ≡ Some A_pipe) × (count ≤ length (pipe_of k p))
Fits chosen k (Append p bytes) =
    (kind_of k p ≡ Some A_pipe) × (length (pipe_of k p) + length bytes ≤ capacity)
Fits chosen k (Set_offset d place) = (it : Description) × (get k.descriptions d ≡ Some it)
Fits chosen k (Set_rights n rights) = kind_of k n ≢ None
Fits chosen k (Open_inode i inode mode pid f) =
    CanOpen chosen k (number chosen (Made i)) (number chosen inode) pid f
Fits chosen k (Make_pipe i pid f g) =
    CanPipe chosen k (number chosen (Made i)) (number chosen (Made (i + 1)))
    (number chosen (Made (i + 2))) pid f g
Fits chosen k (Share_slot pid f d pipes) = CanShare k pid f d pipes
Fits chosen k (Clear_slot pid f pipes) = CanClear k pid f pipes
Fits chosen k (New_process child parent pipes) = CanFork k child parent pipes
Fits chosen k (End_process pid pipes) = CanEnd k pid pipes

-- the same of edits in a row
abbrev pub FitsAll : List ℕ → Kernel → List Edit → Type 0
FitsAll chosen k [] = ⊤
FitsAll chosen k (e ∷ es) = Fits chosen k e × FitsAll chosen (applied chosen e k) es

-- The edits that a process may make: those of slots and processes are its own,
-- and inside a transaction it does not end.
abbrev pub IsBy : ℕ → Bool → Edit → Type 0
IsBy pid inside (Open_inode i inode mode q f) = q ≡ pid
IsBy pid inside (Make_pipe i q f g) = q ≡ pid
IsBy pid inside (Share_slot q f d pipes) = q ≡ pid
IsBy pid inside (Clear_slot q f pipes) = q ≡ pid
IsBy pid inside (New_process child parent pipes) = parent ≡ pid
IsBy pid inside (End_process q pipes) = (q ≡ pid) × (inside ≡ false)
IsBy pid inside _ = ⊤

-- what never changes of a description while it lives
abbrev pub fixed_of : Kernel → ℕ → Option Slot
fixed_of k d = mapped (λ it. slot_of k d (Some it)) (get k.descriptions d)

-- a process sees the same of itself in two states
pub record OwnAlike (now later : Kernel) (pid : ℕ) : Type 0 where
  pub root : later.root ≡ now.root
  pub bounds : later.bounds ≡ now.bounds
  pub table : table_of later pid ≡ table_of now pid
  pub fixed : (f d : ℕ) → get (table_of now pid) f ≡ Some d → fixed_of later d ≡ fixed_of now d

-- Of what was there an edit changes only what it marks.
abbrev pub EditMarks : List ℕ → Kernel → Edit → Type 0
EditMarks chosen k e =
    Fits chosen k e → (a : Aspect) → IsThere k a → AllByRecursion (λ w. LeavesAlone w a) (marks e)
    → Keeps k (applied chosen e k) a

-- an edit gives one more name to such a number alone
abbrev pub LinksOnly : (ℕ → Type 0) → Edit → Type 0
LinksOnly P (Name_file d x n) = P n
LinksOnly P _ = ⊤

-- edits in a row, of which the first alone gives one more name
abbrev pub LinksFirst : (ℕ → Type 0) → List Edit → Type 0
LinksFirst P [] = ⊤
LinksFirst P (e ∷ es) = LinksOnly P e × AllByRecursion (LinksOnly (λ n. ⊥)) es

-- a number stands for one kind in two states
abbrev pub OfOneKind : Kernel → Kernel → ℕ → Type 0
OfOneKind now later n = kind_of later n ≡ kind_of now n

-- What two states have alike they have alike after the same edit, where they have alike what it
-- marks, and what its process sees of itself. What gets one more name is of one kind in both: its
-- call has seen that where it found it, and the edit does not mark it.
abbrev pub EditKeeps : List ℕ → Kernel → Kernel → Edit → Type 0
EditKeeps chosen now later e =
    (pid : ℕ) (inside : Bool) → IsBy pid inside e → OwnAlike now later pid → Fits chosen now e
    → Fits chosen later e → LinksOnly (OfOneKind now later) e → KeepsAll now later (marks e)
    → (a : Aspect) → Keeps now later a
    → Keeps (applied chosen e now) (applied chosen e later) a
