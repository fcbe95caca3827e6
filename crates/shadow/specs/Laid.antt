-- What a commit makes of the places and of the processes, part by part.
use Rattle.std.specs.Prelude.{◌≡◌, ◌≢◌, ℕ, ◌<◌, ◌≤◌, ◌+◌, ◌-◌, ◌^◌, Bool, true, false, List, [], ◌∷◌}
use Rattle.std.specs.Prelude.{⊤, length, Option, Some, None, IfSome, is_some, option_map, count_by}
use Rattle.ids.specs.declared.limits.TheConstants.{DESCRIPTORS, PIPE_CAPACITY}
use Rattle.std.specs.Prelude.{if◌then◌else◌}
use Rattle.std.specs.Ordering.{nat_cmp}
use Rattle.std.specs.List.{AllByRecursion, flat_map}
use Rattle.model.specs.FiniteMap.{FinMap, entries, get}
use Rattle.model.specs.State.{Description, Kernel, Kind, Name, Process, Rights, kind_of, names_of}
use Rattle.model.specs.Changes.{Edit, Open_inode, Share_slot, holders, openings, or_new}
use Rattle.dirlist.specs.Listing.{Listing}
use Rattle.dirlist.specs.Patches.{Notes}
use Rattle.fdtable.specs.Pages.{HasRoom}
use Rattle.fdtable.specs.Patches.{Given}
use Rattle.file_shadow.specs.View.{FileChanges, view_over}
use Rattle.pipe_shadow.specs.View.{PipeChanges, view_over as pipe_over}
use Rattle.call_laws.specs.WellFormed.{CanBeOpened}
use Rattle.freeing_laws.specs.Counts.{listed, times}
use Rattle.freeing_laws.specs.Sweep.{AreParented, AreSet}
use Rattle.objects.specs.Pieces.{FileContent}
use Rattle.store.specs.Numbers.{Numbers, coming, object_at, present}
use Rattle.store.specs.Places.{file_in, installed, may_be_named, openings_of, with_listing}
use Rattle.store.specs.Laid.{laid_listing}
use Rattle.store.specs.Shown.{chosen, descriptions, inodes}
use Rattle.store.specs.declared.Place.{Place}
use Rattle.store.specs.declared.Object.TheVariants.{Directory as A_directory, File as A_file, Pipe as A_pipe}
use Rattle.store.specs.declared.Object.TheVariants.{Description as A_description, Nothing}
use Rattle.store.specs.declared.Object.TheVariants.{Fixed as A_fixed}
use Rattle.store.specs.declared.OpenFile.{OpenFile}
use Rattle.store.specs.declared.Opened.{Opened}
use Rattle.store.specs.declared.OpenPipe.{OpenPipe}
use Rattle.notes.specs.declared.change.InodeChange.{InodeChange}
use Rattle.notes.specs.declared.change.Contents.{Contents}
use Rattle.notes.specs.declared.change.Contents.TheVariants.{Same, Names, Bytes, Pipe as Piped}
use Rattle.notes.specs.declared.change.Contents.TheVariants.{Fixed as As_fixed}
use Rattle.notes.specs.declared.opening.Opening.{Opening}
use Rattle.notes.specs.declared.opening.Opening.TheVariants.{New}
use Rattle.shadow.specs.Claims.{Claim, reserved}
use Rattle.shadow.specs.Committed.{Reserve}
use Rattle.notes.specs.Openings.{slot_noted}
use Rattle.notes.specs.Patches.{is_new, kept_at, net_at, opening_at, patched, reopened, reslotted}
use Rattle.notes.specs.Patches.{rights_over}
use Rattle.shadow.specs.Stored.{AreCounted, IsEndHere, IsStaged, Processes, committed_of, no_processes, numbered, reserve_in, state_of}

-- what is kept for transactions
abbrev pub reserves_of : Numbers → FinMap nat_cmp Reserve
reserves_of s = chosen reserve_in s.places

-- what is new is shown from now on
abbrev pub shown_if : Bool → Place → Place
shown_if made place = if made then installed place else place

-- a directory after its changes: it is shown, and its notes are laid over its names
abbrev pub named_by : Bool → Notes → ℕ → Place → Place
named_by made notes promised place =
    with_listing (laid_listing (entries notes) promised) (shown_if made place)

-- the bytes of the file of a place
abbrev pub bytes_in : Option OpenFile → List ℕ
bytes_in (Some file) = file.bytes.bytes
bytes_in None = []

-- a file after its changes: it is shown, and its bytes are those of the view
pub record IsWrittenOver (bytes : FileChanges) (before after : Option Place) : Type 0 where
  pub content : FileContent
  pub place : after ≡ Some (present (A_file (record {
    bytes = content;
    openings = openings_of (file_in before);
  })))
  pub shown : content.bytes ≡ view_over bytes (bytes_in (file_in before))

-- A pipe after its changes: it is shown, and its bytes are those of the view.
pub record IsPassedOver (changes : PipeChanges) (before after : Option Place) : Type 0 where
  pub pipe : OpenPipe
  pub was : before ≡ Some (present (A_pipe pipe))
  pub is : after ≡ Some (present (A_pipe (record pipe { bytes = pipe_over changes pipe.bytes })))

-- a place after the changes of its inode
abbrev pub IsCarriedBy : InodeChange → Contents → Option Place → Option Place → Type 0
IsCarriedBy c Same before after = after ≡ before
IsCarriedBy c (Names fresh notes) before after =
    after ≡ option_map (named_by (is_some c.made) notes c.promised) before
IsCarriedBy c (Bytes fresh bytes) before after = IsWrittenOver bytes before after
IsCarriedBy c (Piped (Some new) changes) before after =
    after ≡ Some (present (A_pipe (record new { bytes = pipe_over changes new.bytes })))
IsCarriedBy c (Piped None changes) before after = IsPassedOver changes before after
IsCarriedBy c (As_fixed fixed) before after = after ≡ Some (present (A_fixed fixed))

abbrev pub IsCarried : Option InodeChange → Option Place → Option Place → Type 0
IsCarried (Some c) before after = IsCarriedBy c c.contents before after
IsCarried None before after = after ≡ before

-- The changes of a directory can be made: it is shown, or is new; its names have room, and their
-- numbers are there.
pub record IsReadyDirectory (s : Numbers) (n : ℕ) (c : InodeChange) (notes : Notes) : Type 0 where
  pub listing : Listing
  pub there : option_map (shown_if (is_some c.made)) (get s.places n)
      ≡ Some (present (A_directory listing))
  pub room : c.promised ≤ listing.promised
  pub added : count_by (λ g. is_some g.1) (entries notes) ≤ c.promised
  pub numbers : AllByRecursion
      (λ g. IfSome g.1 (λ m. may_be_named (get s.places m) ≡ true)) (entries notes)

-- Those of a file can be made: it is to come, or it is shown.
abbrev pub IsReadyFile : Bool → Option Place → Type 0
IsReadyFile true before = before ≡ Some (coming Nothing)
IsReadyFile false before = (file : OpenFile) × (before ≡ Some (present (A_file file)))

-- Those of a pipe can be made: it is to come, or shown, and what they append fits where the pipe was
-- no longer than pipes get.
abbrev pub IsReadyPipe : Option OpenPipe → PipeChanges → Option Place → Type 0
IsReadyPipe (Some new) changes before =
    (before ≡ Some (coming Nothing)) × (length (pipe_over changes new.bytes) ≤ PIPE_CAPACITY)
IsReadyPipe None changes before =
    (pipe : OpenPipe) × (before ≡ Some (present (A_pipe pipe)))
    × (length pipe.bytes ≤ PIPE_CAPACITY
    → length (pipe_over changes pipe.bytes) ≤ PIPE_CAPACITY)

abbrev pub IsReadyContents : Numbers → ℕ → InodeChange → Contents → Type 0
IsReadyContents s n c Same = c.made ≡ None
IsReadyContents s n c (Names fresh notes) = IsReadyDirectory s n c notes
IsReadyContents s n c (Bytes fresh bytes) = IsReadyFile (is_some c.made) (get s.places n)
IsReadyContents s n c (Piped fresh changes) = IsReadyPipe fresh changes (get s.places n)
IsReadyContents s n c (As_fixed fixed) = get s.places n ≡ Some (coming Nothing)

abbrev pub IsReady : Numbers → ℕ → InodeChange → Type 0
IsReady s n c = IsReadyContents s n c c.contents

abbrev pub AreReady : List (ℕ × InodeChange) → Numbers → Type 0
AreReady changes s = (n : ℕ) (c : InodeChange) → kept_at changes n ≡ Some c → IsReady s n c

-- rights are set of inodes that are there, and of inodes that are there when these changes are made
abbrev pub CanBeSet : List (ℕ × Rights) → Numbers → Type 0
CanBeSet rights s = (n : ℕ) → kept_at rights n ≢ None → get (inodes s) n ≢ None

abbrev pub CanBeSetThen : List (ℕ × InodeChange) → List (ℕ × Rights) → Numbers → Type 0
CanBeSetThen changes rights s = (n : ℕ) → kept_at rights n ≢ None
    → patched (net_at changes n).contents (get (inodes s) n) ≢ None

-- These rights are set, and where they are none, the others stay.
pub record AreRevised (rights : List (ℕ × Rights)) (old new : Numbers) : Type 0 where
  pub root : new.root ≡ old.root
  pub places : new.places ≡ old.places
  pub each : (n : ℕ) → get new.rights n ≡ rights_over (kept_at rights n) (get old.rights n)

-- what is kept of a number whose object is no longer to come
abbrev pub settled : Option Reserve → Option Reserve
settled (Some r) = Some (record r { coming = false })
settled None = None

-- One store after another in which the inodes with their rights, the root, and what is kept for
-- transactions are as before; staged stays so.
pub record SameStore (old new : Numbers) : Type 0 where
  pub root : new.root ≡ old.root
  pub inodes : inodes new ≡ inodes old
  pub rights : new.rights ≡ old.rights
  pub staged : ((n : ℕ) → IsStaged (get old.places n)) → (n : ℕ) → IsStaged (get new.places n)

-- The changes of descriptions are made.
pub record AreReopened (openings : List (ℕ × Opening)) (old new : Numbers) : Type 0 where
  pub same : SameStore old new
  pub descriptions : (d : ℕ)
      → get (descriptions new) d ≡ reopened (opening_at openings d) (get (descriptions old) d)
  pub reserves : (n : ℕ) → get (reserves_of new) n
      ≡ (if is_new (opening_at openings n) then settled (get (reserves_of old) n)
      else get (reserves_of old) n)
  pub counted : (ps : Processes) → AreCounted ps old
      → ((d : ℕ) → is_new (opening_at openings d) ≡ true → holders (state_of ps old) d ≡ 0)
      → ((d : ℕ) (it : Description) → opening_at openings d ≡ New it → IsEndHere old d it)
      → AreCounted ps new

-- the descriptors of a process, if there is one
abbrev pub table_in : Option Process → FinMap nat_cmp ℕ
table_in o = (or_new o).table

-- the descriptions that slots give in a patch of each process, in order
abbrev pub given_by : Option ℕ → List ℕ
given_by (Some d) = d ∷ []
given_by None = []

abbrev pub given_in : List (ℕ × Given) → List ℕ
given_in slots = flat_map (λ p. flat_map (λ g. given_by g.1) (entries p.1)) slots

-- the descriptors of each process are below the limit
abbrev pub AreLow : Processes → Type 0
AreLow ps = (pid f d : ℕ) → get (table_in (get (numbered ps) pid)) f ≡ Some d → f < DESCRIPTORS

-- What changes of slots leave of the store.
pub record SlotsStay (ps qs : Processes) (old new : Numbers) : Type 0 where
  pub same : SameStore old new
  pub descriptions : descriptions new ≡ descriptions old
  pub reserves : (n : ℕ) → get (reserves_of new) n ≡ get (reserves_of old) n
  pub count : length qs.list ≡ length ps.list
  pub bounds : qs.bounds ≡ ps.bounds
  pub low : AreLow ps → AreLow qs
  pub counted : AreLow ps → AreCounted ps old → AreCounted qs new

-- of a count of holders, after a slot more that gives a description, and after one less
abbrev pub IsOneMore : Option ℕ → ℕ → ℕ → ℕ → Type 0
IsOneMore given d before after =
    before + times d (listed given) < 2 ^ 128 → after ≡ before + times d (listed given)

abbrev pub IsOneLess : Option ℕ → ℕ → ℕ → ℕ → Type 0
IsOneLess former d before after = after ≡ before - times d (listed former)

-- how many slots of a patch give a description; and of its count of holders, after as many slots more
-- that give it, and after as many less
abbrev pub giving : Given → ℕ → ℕ
giving patch d = times d (flat_map (λ g. given_by g.1) (entries patch))

abbrev pub IsMoreBy : Given → ℕ → ℕ → ℕ → Type 0
IsMoreBy patch d before after =
    before + giving patch d < 2 ^ 128 → after ≡ before + giving patch d

abbrev pub IsLessBy : Given → ℕ → ℕ → ℕ → Type 0
IsLessBy former d before after = after ≡ before - giving former d

-- and after as many less as it stands in a list
abbrev pub IsLessOf : List ℕ → ℕ → ℕ → ℕ → Type 0
IsLessOf ds d before after = after ≡ before - times d ds

-- an edit that opens a slot, for which memory may be asked for, and room for that slot
abbrev pub MayNeedRoom : Edit → Type 0
MayNeedRoom (Open_inode i inode mode pid f) = ⊤
MayNeedRoom (Share_slot pid f d pipes) = ⊤
MayNeedRoom _ = ⊥

abbrev pub FitsRoom : Edit → List Bool → Type 0
FitsRoom (Open_inode i inode mode pid f) room = HasRoom room f
FitsRoom (Share_slot pid f d pipes) room = HasRoom room f
FitsRoom _ room = ⊥

-- A description that is shown was shown before, and its count of holders changed so.
pub record WasHeld (R : ℕ → ℕ → Type 0) (old : Numbers) (d : ℕ) (opened : Opened) : Type 0 where
  pub before : Opened
  pub held : object_at old d ≡ Some (A_description before)
  pub count : R before.holders opened.holders

-- Counts of holders change so, and nothing else does.
pub record AreHeld (R : ℕ → ℕ → ℕ → Type 0) (old new : Numbers) : Type 0 where
  pub same : SameStore old new
  pub descriptions : descriptions new ≡ descriptions old
  pub reserves : (n : ℕ) → get (reserves_of new) n ≡ get (reserves_of old) n
  pub files : (n : ℕ) (file : OpenFile) → object_at new n ≡ Some (A_file file)
      → object_at old n ≡ Some (A_file file)
  pub pipes : (p : ℕ) (pipe : OpenPipe) → object_at new p ≡ Some (A_pipe pipe)
      → object_at old p ≡ Some (A_pipe pipe)
  pub opened : (d : ℕ) (opened : Opened) → object_at new d ≡ Some (A_description opened)
      → WasHeld (R d) old d opened

-- The changes of slots are made.
pub record AreReslotted (slots former : List (ℕ × Given)) (ps qs : Processes)
    (old new : Numbers) : Type 0 where
  pub stay : SlotsStay ps qs old new
  pub processes : (pid : ℕ)
      → get (numbered qs) pid ≡ reslotted (kept_at slots pid) (get (numbered ps) pid)
  pub let_go : (pid f d : ℕ) → get (table_in (get (numbered ps) pid)) f ≡ Some d
      → get (table_in (get (numbered qs) pid)) f ≢ Some d
      → 0 < times d (given_in former)

-- The store holds, on the way: its root is number 0, names stand in directories that have one and
-- give no description, rights are set of inodes that are there, nothing is open that cannot be
-- opened, what is to come is empty, and the counts are right.
pub record Holds (ps : Processes) (s : Numbers) : Type 0 where
  pub root : s.root ≡ 0
  pub parented : AreParented (state_of ps s)
  pub set : AreSet (state_of ps s)
  pub unnamed : (d n : ℕ) (x : Name) → get (descriptions s) d ≢ None
      → get (names_of (state_of ps s) n) x ≢ Some d
  pub unopened : (n : ℕ) (what : Kind) → kind_of (state_of ps s) n ≡ Some what
      → (CanBeOpened (Some what) → ⊥) → openings (state_of ps s) n ≡ 0
  pub staged : (n : ℕ) → IsStaged (get s.places n)
  pub counted : AreCounted ps s

-- The changes of one description are made.
pub record IsReopened (d : ℕ) (opening : Opening) (old new : Numbers) : Type 0 where
  pub same : SameStore old new
  pub here : get (descriptions new) d ≡ reopened opening (get (descriptions old) d)
  pub others : (e : ℕ) → e ≢ d → get (descriptions new) e ≡ get (descriptions old) e
  pub places : (n : ℕ) → get old.places n ≡ Some (coming Nothing) → n ≢ d
      → get new.places n ≡ Some (coming Nothing)
  pub reserve : get (reserves_of new) d
      ≡ (if is_new opening then settled (get (reserves_of old) d) else get (reserves_of old) d)
  pub reserves : (n : ℕ) → n ≢ d → get (reserves_of new) n ≡ get (reserves_of old) n
  pub pipes : (p : ℕ) (pipe : OpenPipe) → object_at new p ≡ Some (A_pipe pipe)
      → object_at old p ≡ Some (A_pipe pipe)
  pub counted : (ps : Processes) → AreCounted ps old
      → (is_new opening ≡ true → holders (state_of ps old) d ≡ 0)
      → ((it : Description) → opening ≡ New it → IsEndHere old d it) → AreCounted ps new

-- One slot gives this from now on.
pub record IsSlotted (pid f : ℕ) (given : Option ℕ) (ps qs : Processes) (old new : Numbers)
    : Type 0 where
  pub stay : SlotsStay ps qs old new
  pub here : get (numbered qs) pid ≡ slot_noted f given (get (numbered ps) pid)
  pub others : (q : ℕ) → q ≢ pid → get (numbered qs) q ≡ get (numbered ps) q

-- The changes of one process's slots are made.
pub record IsReslotted (pid : ℕ) (given former : Given) (ps qs : Processes) (old new : Numbers)
    : Type 0 where
  pub stay : SlotsStay ps qs old new
  pub here : get (numbered qs) pid ≡ reslotted (Some given) (get (numbered ps) pid)
  pub others : (q : ℕ) → q ≢ pid → get (numbered qs) q ≡ get (numbered ps) q
  pub let_go : (f d : ℕ) → get (table_in (get (numbered ps) pid)) f ≡ Some d
      → get (table_in (get (numbered qs) pid)) f ≢ Some d
      → 0 < times d (flat_map (λ g. given_by g.1) (entries former))

-- how often a claim can be met
abbrev pub kept_in : Numbers → Claim → ℕ
kept_in s c = reserved (committed_of no_processes s) c

-- Objects go as f says, and what is kept for transactions is kept as before.
pub record Frees (f : Kernel → Kernel) (ps : Processes) (old new : Numbers) : Type 0 where
  pub state : state_of ps new ≡ f (state_of ps old)
  pub holds : Holds ps new
  pub kept : (c : Claim) → kept_in new c ≡ kept_in old c
