-- One edit of a call with the call's new numbers, and what it makes of each object.
use Rattle.std.specs.Prelude.{◌≡◌, ◌≢◌, ◌↔◌, Contains}
use Rattle.std.specs.Prelude.{ℕ, ◌+◌, ◌<◌, ◌≤◌, ◌==◌, ◌||◌, ◌⊎◌, Bool, true, false, ⊤, drop, replicate}
use Rattle.std.specs.Prelude.{List, [], ◌∷◌, ◌++◌, map, length, Option, Some, None, if◌then◌else◌}
use Rattle.std.specs.List.{flat_map}
use Rattle.model.specs.FiniteMap.{get, empty}
use Rattle.model.specs.Moments.{is_in}
use Rattle.model.specs.State.{Name, Kernel, Inode, File, Directory, Pipe, Fixed, Description}
use Rattle.model.specs.State.{Process}
use Rattle.model.specs.State.{A_pipe as Pipe_kind, kind, mapped, names_of_inode, file_of_inode}
use Rattle.model.specs.State.{Rights, pipe_of_inode}
use Rattle.model.specs.Changes.{Edit, Which, There, Made, number, news, Make_directory, Make_file}
use Rattle.model.specs.Changes.{Make_fixed, Name_file, Unname_file, Unname_directory, Move, Put_bytes, Cut}
use Rattle.model.specs.Changes.{Swap, Wipe}
use Rattle.model.specs.Changes.{Append, Make_pipe, Set_offset, Set_rights, Take, to_read, to_write}
use Rattle.model.specs.Changes.{Open_inode, Share_slot, Clear_slot, applied, sized, written, at_start, at_offset}
use Rattle.model.specs.Changes.{with_slot, without_slot, or_new}
use Rattle.model.specs.Effects.{Effect}
use Rattle.model.specs.Limits.{largest_file, descriptor_limit}
use Rattle.model.specs.Plan.{blocks}
use Rattle.call_laws.specs.Fits.{Fits}
use Rattle.freeing_laws.specs.Counts.{named, times, unnamed}
use Rattle.freeing_laws.specs.Sweep.{loses}
use Rattle.store.specs.Laid.{with_note}
use Rattle.notes.specs.declared.change.Made.{Made as What}
use Rattle.notes.specs.declared.change.Made.TheVariants.{Directory as A_directory, File as A_file}
use Rattle.notes.specs.declared.change.Made.TheVariants.{Pipe as A_pipe, Fixed as A_fixed}
use Rattle.notes.specs.declared.new_object.NewObject.{NewObject}
use Rattle.notes.specs.declared.new_object.NewObject.TheVariants.{Directory as New_directory}
use Rattle.notes.specs.declared.new_object.NewObject.TheVariants.{File as New_file, Fixed as New_fixed}
use Rattle.notes.specs.declared.change.Contents.{Contents}
use Rattle.notes.specs.Patches.{AllReach, Form, no_change, of_names, of_bytes, of_pipe, of_fixed}
use Rattle.notes.specs.Patches.{Patches, new_ends}
use Rattle.notes.specs.Patches.{added_by, form_of, kept_at, net_at, opening_at, patched, reopened}
use Rattle.notes.specs.Patches.{is_new, numbers_in, reslotted, rights_over}

pub record Step : Type 0 where
  pub chosen : List ℕ
  pub edit : Edit

abbrev pub steps_in : Effect → List Step
steps_in d = map (λ e. record { chosen = d.chosen; edit = e }) d.edits

abbrev pub steps_of : List Effect → List Step
steps_of ds = flat_map steps_in ds

-- the state after steps, and whether each fits the state that it finds
abbrev pub one_done : Step → Kernel → Kernel
one_done s k = applied s.chosen s.edit k

abbrev pub steps_done : List Step → Kernel → Kernel
steps_done [] k = k
steps_done (s ∷ ss) k = steps_done ss (one_done s k)

abbrev pub StepsFit : List Step → Kernel → Type 0
StepsFit [] k = ⊤
StepsFit (s ∷ ss) k = Fits s.chosen k s.edit × StepsFit ss (one_done s k)

-- the number of the first new object of an edit
abbrev pub new_in : List ℕ → ℕ → ℕ
new_in chosen i = number chosen (Made i)

-- What a call of a transaction may change: first a name, or bytes of a file or of a pipe, or the
-- rights of an inode, or a new pipe, and then a description or a slot. Writes and cuts end where a
-- file can end at all, and descriptors are below the limit.
abbrev pub IsFirst : Edit → Type 0
IsFirst (Make_directory d x i) = i ≡ 0
IsFirst (Make_file d x i) = i ≡ 0
IsFirst (Make_fixed d x fixed i) = i ≡ 0
IsFirst (Name_file d x n) = ⊤
IsFirst (Unname_file d x n) = ⊤
IsFirst (Unname_directory d x n) = ⊤
IsFirst (Move d x e y n replaced) = ⊤
IsFirst (Swap d x n e y m) = ⊤
IsFirst (Put_bytes n place bytes before) = place + length bytes ≤ largest_file
IsFirst (Wipe n place count) = place + count ≤ largest_file
IsFirst (Cut n before after) = after ≤ largest_file
IsFirst (Take p count) = ⊤
IsFirst (Append p bytes) = ⊤
IsFirst (Set_rights n rights) = ⊤
IsFirst (Make_pipe i pid f g) = (i ≡ 0) × (f < descriptor_limit) × (g < descriptor_limit)
IsFirst _ = ⊥

-- Of these, the edits that take no memory in the committed state: not bytes that are put into a
-- file, and not a new pipe.
abbrev pub TakesNoMemory : Edit → Type 0
TakesNoMemory (Put_bytes n place bytes before) = ⊥
TakesNoMemory (Make_pipe i pid f g) = ⊥
TakesNoMemory e = IsFirst e

-- and of these, the edits of a name
abbrev pub IsNaming : Edit → Type 0
IsNaming (Wipe n place count) = ⊥
IsNaming (Cut n before after) = ⊥
IsNaming (Take p count) = ⊥
IsNaming (Append p bytes) = ⊥
IsNaming (Set_rights n rights) = ⊥
IsNaming e = TakesNoMemory e

-- and of those, the exchange of two names
abbrev pub IsSwap : Edit → Type 0
IsSwap (Swap d x n e y m) = ⊤
IsSwap _ = ⊥

abbrev pub IsBelow : ℕ → Which → Type 0
IsBelow m (There n) = ⊤
IsBelow m (Made j) = j < m

abbrev pub IsLast : ℕ → Edit → Type 0
IsLast m (Open_inode i inode mode pid f) = (i ≡ m) × IsBelow m inode × (f < descriptor_limit)
IsLast m (Set_offset d place) = ⊤
IsLast m (Share_slot pid f d pipes) = f < descriptor_limit
IsLast m (Clear_slot pid f pipes) = f < descriptor_limit
IsLast m _ = ⊥

abbrev pub CanEdit : List Edit → Type 0
CanEdit [] = ⊤
CanEdit (e ∷ []) = IsFirst e ⊎ IsLast 0 e
CanEdit (e ∷ f ∷ []) = IsFirst e × (loses e ≡ false) × IsLast (news e) f
CanEdit (e ∷ f ∷ g ∷ es) = ⊥

abbrev pub IsOne : Edit → Type 0
IsOne e = IsFirst e ⊎ ((m : ℕ) × IsLast m e)

-- what a name gives from now on, in a directory; bytes that are written into a file; its length
abbrev pub name_noted : Name → Option ℕ → Option Inode → Option Inode
name_noted x given o = Some (Directory (with_note x given (names_of_inode o)))

abbrev pub bytes_written : ℕ → List ℕ → Option Inode → Option Inode
bytes_written place bytes o = Some (File (written (file_of_inode o) place bytes))

abbrev pub bytes_cut : ℕ → Option Inode → Option Inode
bytes_cut len o = Some (File (sized len (file_of_inode o)))

-- bytes that are taken from a pipe, and bytes that are appended
abbrev pub bytes_taken : ℕ → Option Inode → Option Inode
bytes_taken count o = Some (Pipe (drop count (pipe_of_inode o)))

abbrev pub bytes_appended : List ℕ → Option Inode → Option Inode
bytes_appended bytes o = Some (Pipe (pipe_of_inode o ++ bytes))

-- a new object that comes with its name: its inode, and what the transaction made with it
abbrev pub new_inode : NewObject → Inode
new_inode New_directory = Directory empty
new_inode New_file = File []
new_inode (New_fixed fixed) = Fixed fixed

abbrev pub made_of : NewObject → What
made_of New_directory = A_directory
made_of New_file = A_file
made_of (New_fixed fixed) = A_fixed

-- what stands at a number where such an object comes
abbrev pub made_at : NewObject → ℕ → Name → ℕ → ℕ → Option Inode → Option Inode
made_at what d x m n o =
    if n == d then name_noted x (Some m) (if n == m then Some (new_inode what) else o)
    else if n == m then Some (new_inode what) else o

-- what stands at a number where a name of directory d gives this from now on
abbrev pub named_at : ℕ → Name → Option ℕ → ℕ → Option Inode → Option Inode
named_at d x given n o = if n == d then name_noted x given o else o

-- what stands at a number after an edit, by what stood there
abbrev pub inode_after : List ℕ → Edit → ℕ → Option Inode → Option Inode
inode_after chosen (Make_directory d x i) n o = made_at New_directory d x (new_in chosen i) n o
inode_after chosen (Make_file d x i) n o = made_at New_file d x (new_in chosen i) n o
inode_after chosen (Make_fixed d x fixed i) n o =
    made_at (New_fixed fixed) d x (new_in chosen i) n o
inode_after chosen (Name_file d x m) n o = named_at d x (Some m) n o
inode_after chosen (Unname_file d x m) n o = named_at d x None n o
inode_after chosen (Unname_directory d x m) n o = named_at d x None n o
inode_after chosen (Move d x e y m replaced) n o =
    named_at e y (Some m) n (named_at d x None n o)
inode_after chosen (Swap d x m e y q) n o = named_at e y (Some m) n (named_at d x (Some q) n o)
inode_after chosen (Put_bytes m place bytes before) n o =
    if n == m then bytes_written place bytes o else o
inode_after chosen (Wipe m place count) n o =
    if n == m then bytes_written place (replicate count 0) o else o
inode_after chosen (Cut m before after) n o = if n == m then bytes_cut after o else o
inode_after chosen (Take p count) n o = if n == p then bytes_taken count o else o
inode_after chosen (Append p bytes) n o = if n == p then bytes_appended bytes o else o
inode_after chosen (Make_pipe i pid f g) n o = if n == new_in chosen i then Some (Pipe []) else o
inode_after chosen _ n o = o

-- the rights that are set of a number after an edit
abbrev pub rights_after : Edit → ℕ → Option Rights → Option Rights
rights_after (Set_rights m rights) n o = if n == m then Some rights else o
rights_after _ n o = o

abbrev pub description_after : List ℕ → Edit → ℕ → Option Description → Option Description
description_after chosen (Open_inode i inode mode pid f) d o =
    if d == new_in chosen i then Some (at_start (number chosen inode) mode) else o
description_after chosen (Make_pipe i pid f g) d o =
    if d == new_in chosen (i + 2) then Some (at_start (new_in chosen i) to_write)
    else if d == new_in chosen (i + 1) then Some (at_start (new_in chosen i) to_read)
    else o
description_after chosen (Set_offset m place) d o = if d == m then mapped (at_offset place) o else o
description_after chosen _ d o = o

abbrev pub process_after : List ℕ → Edit → ℕ → Option Process → Option Process
process_after chosen (Open_inode i inode mode q f) pid o =
    if pid == q then Some (with_slot f (new_in chosen i) (or_new o)) else o
process_after chosen (Make_pipe i q f g) pid o =
    if pid == q then Some (with_slot g (new_in chosen (i + 2))
    (with_slot f (new_in chosen (i + 1)) (or_new o)))
    else o
process_after chosen (Share_slot q f d pipes) pid o =
    if pid == q then Some (with_slot f d (or_new o)) else o
process_after chosen (Clear_slot q f pipes) pid o =
    if pid == q then Some (without_slot f (or_new o)) else o
process_after chosen _ pid o = o

-- An edit changes a state so, number by number.
pub record Applies (chosen : List ℕ) (e : Edit) (k after : Kernel) : Type 0 where
  pub root : after.root ≡ k.root
  pub made : after.made ≡ k.made
  pub bounds : after.bounds ≡ k.bounds
  pub inodes : (n : ℕ) → get after.inodes n ≡ inode_after chosen e n (get k.inodes n)
  pub rights : (n : ℕ) → get after.rights n ≡ rights_after e n (get k.rights n)
  pub descriptions : (d : ℕ)
      → get after.descriptions d ≡ description_after chosen e d (get k.descriptions d)
  pub processes : (pid : ℕ)
      → get after.processes pid ≡ process_after chosen e pid (get k.processes pid)

-- the new directories of an edit, its other new inodes, and its new descriptions
abbrev pub directories_in : List ℕ → Edit → List ℕ
directories_in chosen (Make_directory d x i) = new_in chosen i ∷ []
directories_in chosen _ = []

abbrev pub files_in : List ℕ → Edit → List ℕ
files_in chosen (Make_file d x i) = new_in chosen i ∷ []
files_in chosen (Make_fixed d x fixed i) = new_in chosen i ∷ []
files_in chosen (Make_pipe i pid f g) = new_in chosen i ∷ []
files_in chosen _ = []

abbrev pub opened_in : List ℕ → Edit → List ℕ
opened_in chosen (Open_inode i inode mode pid f) = new_in chosen i ∷ []
opened_in chosen (Make_pipe i pid f g) = new_in chosen (i + 1) ∷ new_in chosen (i + 2) ∷ []
opened_in chosen _ = []

-- the directories to which an edit adds a name, or in which it gives one anew
abbrev pub parents_in : Edit → List ℕ
parents_in (Make_directory d x i) = d ∷ []
parents_in (Make_file d x i) = d ∷ []
parents_in (Make_fixed d x fixed i) = d ∷ []
parents_in (Name_file d x n) = d ∷ []
parents_in (Move d x e y n replaced) = e ∷ []
parents_in (Swap d x n e y m) = d ∷ e ∷ []
parents_in _ = []

-- of what kind the changes are after one more
abbrev pub listed : Form → Form
listed no_change = of_names false
listed (of_names fresh) = of_names fresh
listed (of_bytes fresh) = of_names true
listed (of_pipe fresh) = of_names true
listed of_fixed = of_names true

abbrev pub filed : Form → Form
filed no_change = of_bytes false
filed (of_bytes fresh) = of_bytes fresh
filed (of_names fresh) = of_bytes true
filed (of_pipe fresh) = of_bytes true
filed of_fixed = of_bytes true

abbrev pub piped : Form → Form
piped no_change = of_pipe false
piped (of_pipe fresh) = of_pipe fresh
piped (of_names fresh) = of_names fresh
piped (of_bytes fresh) = of_bytes fresh
piped of_fixed = of_fixed

abbrev pub new_form : NewObject → Form
new_form New_directory = of_names true
new_form New_file = of_bytes true
new_form (New_fixed fixed) = of_fixed

abbrev pub made_form : NewObject → ℕ → ℕ → ℕ → Form → Form
made_form what d m n form =
    if n == d then listed (if n == m then new_form what else form)
    else if n == m then new_form what else form

abbrev pub listed_at : ℕ → ℕ → Form → Form
listed_at d n form = if n == d then listed form else form

abbrev pub form_after : List ℕ → Edit → ℕ → Form → Form
form_after chosen (Make_directory d x i) n form =
    made_form New_directory d (new_in chosen i) n form
form_after chosen (Make_file d x i) n form = made_form New_file d (new_in chosen i) n form
form_after chosen (Make_fixed d x fixed i) n form =
    made_form (New_fixed fixed) d (new_in chosen i) n form
form_after chosen (Name_file d x m) n form = listed_at d n form
form_after chosen (Unname_file d x m) n form = listed_at d n form
form_after chosen (Unname_directory d x m) n form = listed_at d n form
form_after chosen (Move d x e y m replaced) n form = listed_at e n (listed_at d n form)
form_after chosen (Swap d x m e y q) n form = listed_at e n (listed_at d n form)
form_after chosen (Put_bytes m place bytes before) n form = if n == m then filed form else form
form_after chosen (Wipe m place count) n form = if n == m then filed form else form
form_after chosen (Cut m before after) n form = if n == m then filed form else form
form_after chosen (Take p count) n form = if n == p then piped form else form
form_after chosen (Append p bytes) n form = if n == p then piped form else form
form_after chosen (Make_pipe i pid f g) n form =
    if n == new_in chosen i then of_pipe true else form
form_after chosen _ n form = form

-- what the transaction has made under a number
abbrev pub made_after : List ℕ → Edit → ℕ → Option What → Option What
made_after chosen (Make_directory d x i) n made =
    if n == new_in chosen i then Some A_directory else made
made_after chosen (Make_file d x i) n made = if n == new_in chosen i then Some A_file else made
made_after chosen (Make_fixed d x fixed i) n made =
    if n == new_in chosen i then Some A_fixed else made
made_after chosen (Make_pipe i pid f g) n made =
    if n == new_in chosen i then Some A_pipe else made
made_after chosen _ n made = made

-- the blocks of a file into which an edit puts bytes
abbrev pub blocks_by : ℕ → Edit → List ℕ
blocks_by n (Put_bytes m place bytes before) =
    if n == m then blocks place (length bytes) else []
blocks_by n (Wipe m place count) = if n == m then blocks place count else []
blocks_by n _ = []

-- the blocks into which bytes were written before an edit: a new object has none, nor has a directory
abbrev pub kept_beside : ℕ → ℕ → List ℕ → List ℕ
kept_beside d n bs = if n == d then [] else bs

abbrev pub numbers_kept : List ℕ → Edit → ℕ → List ℕ → List ℕ
numbers_kept chosen (Make_directory d x i) n bs =
    if (n == d) || (n == new_in chosen i) then [] else bs
numbers_kept chosen (Make_file d x i) n bs =
    if (n == d) || (n == new_in chosen i) then [] else bs
numbers_kept chosen (Make_fixed d x fixed i) n bs =
    if (n == d) || (n == new_in chosen i) then [] else bs
numbers_kept chosen (Make_pipe i pid f g) n bs = kept_beside (new_in chosen i) n bs
numbers_kept chosen (Name_file d x m) n bs = kept_beside d n bs
numbers_kept chosen (Unname_file d x m) n bs = kept_beside d n bs
numbers_kept chosen (Unname_directory d x m) n bs = kept_beside d n bs
numbers_kept chosen (Move d x e y m replaced) n bs = kept_beside e n (kept_beside d n bs)
numbers_kept chosen (Swap d x m e y q) n bs = kept_beside e n (kept_beside d n bs)
numbers_kept chosen _ n bs = bs

-- A pipe shows with these changes, which has so many bytes, and had all that they take.
pub record IsPassable (enough : ℕ) (c : Contents) (o : Option Inode) : Type 0 where
  pub kind : mapped kind (patched c o) ≡ Some Pipe_kind
  pub long : enough ≤ length (pipe_of_inode (patched c o))
  pub reach : AllReach c o

-- what bytes that are taken from a pipe, or appended, ask of the changes before
abbrev pub CanPass : Edit → ℕ → Contents → Option Inode → Type 0
CanPass (Take p count) n c o = n ≡ p → IsPassable count c o
CanPass (Append p bytes) n c o = n ≡ p → IsPassable 0 c o
CanPass _ n c o = ⊤

-- a pipe that is new, with its two descriptions
abbrev pub MakesPipe : List ℕ → Edit → ℕ → ℕ × ℕ → Type 0
MakesPipe chosen (Make_pipe i pid f g) n ends =
    (n ≡ new_in chosen i) × (ends ≡ (new_in chosen (i + 1), new_in chosen (i + 2)))
MakesPipe chosen _ n ends = ⊥

-- Patches take in one edit more.
pub record TakesIn (chosen : List ℕ) (e : Edit) (old new : Patches) : Type 0 where
  pub inodes : (n : ℕ) (o : Option Inode) → CanPass e n (net_at old.inodes n).contents o
      → patched (net_at new.inodes n).contents o
      ≡ inode_after chosen e n (patched (net_at old.inodes n).contents o)
  pub reach : (n : ℕ) (o : Option Inode) → CanPass e n (net_at old.inodes n).contents o
      → AllReach (net_at old.inodes n).contents o → AllReach (net_at new.inodes n).contents o
  pub pipes : (n : ℕ) (ends : ℕ × ℕ) → new_ends (net_at new.inodes n).contents ≡ Some ends
      → (new_ends (net_at old.inodes n).contents ≡ Some ends) ⊎ MakesPipe chosen e n ends
  pub rights : (n : ℕ) (o : Option Rights) → rights_over (kept_at new.rights n) o
      ≡ rights_after e n (rights_over (kept_at old.rights n) o)
  pub descriptions : (d : ℕ) (o : Option Description) → reopened (opening_at new.openings d) o
      ≡ description_after chosen e d (reopened (opening_at old.openings d) o)
  pub processes : (pid : ℕ) (o : Option Process) → reslotted (kept_at new.slots pid) o
      ≡ process_after chosen e pid (reslotted (kept_at old.slots pid) o)
  pub made : (n : ℕ) → (net_at new.inodes n).made
      ≡ made_after chosen e n (net_at old.inodes n).made
  pub promised : (n : ℕ) → (net_at new.inodes n).promised
      ≡ (net_at old.inodes n).promised + times n (parents_in e)
  pub named : (n : ℕ) → (net_at new.inodes n).named
      ≡ (net_at old.inodes n).named + times n (named chosen e)
  pub unnamed_inodes : new.unnamed_inodes ≡ old.unnamed_inodes ++ unnamed e
  pub unnamed : (n : ℕ) → (net_at new.inodes n).unnamed
      ≡ (net_at old.inodes n).unnamed + times n (unnamed e)
  pub forms : (n : ℕ) → form_of (net_at new.inodes n).contents
      ≡ form_after chosen e n (form_of (net_at old.inodes n).contents)
  pub added : (n : ℕ) → added_by (net_at new.inodes n).contents
      ≤ added_by (net_at old.inodes n).contents + times n (parents_in e)
  pub news : (d : ℕ) → is_new (opening_at new.openings d)
      ≡ (is_in d (opened_in chosen e) || is_new (opening_at old.openings d))
  pub written : (n b : ℕ) → Contains (numbers_in (net_at new.inodes n).contents) b
      ↔ Contains (numbers_kept chosen e n (numbers_in (net_at old.inodes n).contents)
      ++ blocks_by n e) b

-- the new numbers of an edit are not its parent's, and those of two descriptions differ
abbrev pub AreApart : List ℕ → Edit → Type 0
AreApart chosen (Make_directory d x i) = new_in chosen i ≢ d
AreApart chosen (Make_file d x i) = new_in chosen i ≢ d
AreApart chosen (Make_fixed d x fixed i) = new_in chosen i ≢ d
AreApart chosen (Make_pipe i pid f g) = new_in chosen (i + 1) ≢ new_in chosen (i + 2)
AreApart chosen _ = ⊤

-- an edit that makes such an object
abbrev pub making : NewObject → ℕ → Name → Edit
making New_directory d x = Make_directory d x 0
making New_file d x = Make_file d x 0
making (New_fixed fixed) d x = Make_fixed d x fixed 0

-- an edit after which a slot gives this
abbrev pub slotting : Option ℕ → ℕ → ℕ → List ℕ → Edit
slotting (Some d) pid f pipes = Share_slot pid f d pipes
slotting None pid f pipes = Clear_slot pid f pipes

-- an edit that takes the name of a directory, or of anything else
abbrev pub unnaming : What → ℕ → Name → ℕ → Edit
unnaming A_directory d x n = Unname_directory d x n
unnaming _ d x n = Unname_file d x n

-- there are places for an edit of a description or a slot
abbrev pub HasPlaces : List ℕ → Edit → Patches → Type 0
HasPlaces chosen (Open_inode i inode mode pid f) p =
    (kept_at p.openings (new_in chosen i) ≢ None) × (kept_at p.slots pid ≢ None)
HasPlaces chosen (Set_offset d place) p = kept_at p.openings d ≢ None
HasPlaces chosen (Share_slot pid f d pipes) p = kept_at p.slots pid ≢ None
HasPlaces chosen (Clear_slot pid f pipes) p = kept_at p.slots pid ≢ None
HasPlaces chosen _ p = ⊥

-- whether an edit is of a slot, and whether a place is for this slot
abbrev pub NeedsPlace : Edit → Type 0
NeedsPlace (Set_offset d place) = ⊥
NeedsPlace _ = ⊤

abbrev pub IsPlaceOf : Edit → ℕ → Type 0
IsPlaceOf (Open_inode i inode mode pid f) place = place ≡ f
IsPlaceOf (Share_slot pid f d pipes) place = place ≡ f
IsPlaceOf (Clear_slot pid f pipes) place = place ≡ f
IsPlaceOf _ place = ⊥

-- whether an edit is of a description or a slot
abbrev pub is_last : Edit → Bool
is_last (Open_inode i inode mode pid f) = true
is_last (Set_offset d place) = true
is_last (Share_slot pid f d pipes) = true
is_last (Clear_slot pid f pipes) = true
is_last _ = false

-- Patches take in edits one after the other.
abbrev pub TakesAll : List ℕ → List Edit → Patches → Patches → Type 0
TakesAll chosen [] old new = old ≡ new
TakesAll chosen (e ∷ es) old new =
    (mid : Patches) × TakesIn chosen e old mid × TakesAll chosen es mid new
