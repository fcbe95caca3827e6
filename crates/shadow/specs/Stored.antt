-- How the committed state is stored: the processes in the order of their numbers, and the objects
-- under theirs.
use Rattle.std.specs.Prelude.{◌≡◌, ℕ, ◌-◌, ◌≢◌, ◌⊎◌, true, List, [], ◌∷◌, ◌++◌, length, set}
use Rattle.std.specs.Prelude.{Option, Some, None, ⊤}
use Rattle.std.specs.Ordering.{nat_cmp}
use Rattle.model.specs.FiniteMap.{FinMap, empty, from_entries, get}
use Rattle.model.specs.Places.{placed}
use Rattle.model.specs.State.{Name, Inode, Description, Process, Rights, Kernel, mapped}
use Rattle.model.specs.Changes.{holders, openings, tidy}
use Rattle.call_laws.specs.WellFormed.{WellFormed}
use Rattle.freeing_laws.specs.Pipes.{ArePair}
use Rattle.store.specs.Numbers.{Numbers, object_at}
use Rattle.store.specs.Places.{has_room, is_coming_by, listing_of}
use Rattle.store.specs.Shown.{chosen, descriptions, inodes}
use Rattle.store.specs.declared.OpenFile.{OpenFile}
use Rattle.store.specs.declared.Opened.{Opened}
use Rattle.store.specs.declared.OpenPipe.{OpenPipe}
use Rattle.store.specs.declared.Place.{Place}
use Rattle.store.specs.declared.Object.{Object}
use Rattle.store.specs.declared.Object.TheVariants.{Directory as A_directory, File as A_file, Pipe as A_pipe}
use Rattle.store.specs.declared.Object.TheVariants.{Description as A_description, Nothing}
use Rattle.store.specs.declared.Stage.{Stage}
use Rattle.store.specs.declared.Stage.TheVariants.{Coming, Held, Removed}
use Rattle.shadow.specs.Committed.{Committed, Reserve}
use Rattle.model.specs.Limits.{Bounds, default_bounds}

-- the processes from number 1 on, of which one that has ended leaves its place empty; and beside
-- them the bounds
pub record Processes : Type 0 where
  pub list : List (Option Process)
  pub bounds : Bounds

abbrev pub no_processes : Processes
no_processes = record { list = []; bounds = default_bounds }

-- with another at this number, and with one more behind
abbrev pub with_process : ℕ → Option Process → Processes → Processes
with_process pid new processes = record processes { list = set processes.list (pid - 1) new }

abbrev pub with_one_more : Process → Processes → Processes
with_one_more new processes = record processes { list = processes.list ++ Some new ∷ [] }

abbrev pub numbered : Processes → FinMap nat_cmp Process
numbered processes = from_entries (placed 1 processes.list)

-- the state of a plain kernel whose root is number 0
abbrev pub stored : Processes → FinMap nat_cmp Inode → FinMap nat_cmp Rights
    → FinMap nat_cmp Description → Kernel
stored processes inodes rights descriptions = record {
  root = 0;
  inodes = inodes;
  rights = rights;
  descriptions = descriptions;
  processes = numbered processes;
  made = length processes.list;
  bounds = processes.bounds;
}

abbrev pub state_of : Processes → Numbers → Kernel
state_of processes s = stored processes (inodes s) s.rights (descriptions s)

-- what is kept of a place that is in use
abbrev pub reserve_in : Place → Option Reserve
reserve_in place = Some (record {
  coming = is_coming_by place.stage;
  promised = mapped (λ listing. listing.promised) (listing_of place.object);
})

abbrev pub committed_of : Processes → Numbers → Committed
committed_of processes s = record {
  state = state_of processes s;
  reserves = chosen reserve_in s.places;
}

-- a directory to come has no names, and what else is to come is not settled; room is promised in
-- what is removed
abbrev pub IsUnsettled : Object → Type 0
IsUnsettled (A_directory listing) = (x : Name) → get listing.names x ≡ None
IsUnsettled Nothing = ⊤
IsUnsettled _ = ⊥

-- such an object, before room is promised in it
abbrev pub IsBare : Object → Type 0
IsBare (A_directory listing) = (listing.names ≡ empty) × (listing.promised ≡ 0)
IsBare Nothing = ⊤
IsBare _ = ⊥

abbrev pub FitsStage : Stage → Object → Type 0
FitsStage Coming object = IsUnsettled object
FitsStage Held object = object ≢ Nothing
FitsStage Removed object = has_room (listing_of object) ≡ true

abbrev pub IsStaged : Option Place → Type 0
IsStaged (Some place) = FitsStage place.stage place.object
IsStaged None = ⊤

-- the counts that are stored are those of the state, and of a pipe these two descriptions are
pub record AreCounted (processes : Processes) (s : Numbers) : Type 0 where
  pub openings : (n : ℕ) (file : OpenFile) → object_at s n ≡ Some (A_file file)
      → file.openings ≡ openings (state_of processes s) n
  pub holders : (d : ℕ) (opened : Opened) → object_at s d ≡ Some (A_description opened)
      → opened.holders ≡ holders (state_of processes s) d
  pub pipes : (p : ℕ) (pipe : OpenPipe) → object_at s p ≡ Some (A_pipe pipe)
      → ArePair (descriptions s) p pipe.reader pipe.writer

-- a description is an end of a pipe only where the pipe has it as this end
abbrev pub IsEndHere : Numbers → ℕ → Description → Type 0
IsEndHere s d it = (pipe : OpenPipe) → object_at s it.inode ≡ Some (A_pipe pipe)
    → (it.reading ≡ true → d ≡ pipe.reader) × (it.writing ≡ true → d ≡ pipe.writer)
    × ((d ≡ pipe.reader) ⊎ (d ≡ pipe.writer))

-- The root is number 0, the state is well formed, nothing in it is unreached, what is to come is
-- empty, nothing removed is kept that no transaction needs, and the counts are right.
pub record Sound (processes : Processes) (s : Numbers) : Type 0 where
  pub root : s.root ≡ 0
  pub well : WellFormed (state_of processes s)
  pub tidied : tidy (state_of processes s) ≡ state_of processes s
  pub staged : (n : ℕ) → IsStaged (get s.places n)
  pub counted : AreCounted processes s
