-- What noting one thing changes of what is kept of an inode.
use Rattle.std.specs.Prelude.{◌≡◌, ◌≢◌, ◌↔◌, ℕ, ◌+◌, ◌≤◌, List, [], ◌++◌, Contains, drop, length, true}
use Rattle.std.specs.Prelude.{◌-◌, replicate}
use Rattle.std.specs.Prelude.{Option, Some, None}
use Rattle.dirlist.specs.Patches.{noted_back}
use Rattle.model.specs.State.{Name, Inode, Pipe, Process, Rights, pipe_of_inode}
use Rattle.model.specs.Plan.{blocks}
use Rattle.notes.specs.declared.change.InodeChange.{InodeChange}
use Rattle.notes.specs.declared.change.Contents.{Contents}
use Rattle.notes.specs.declared.change.Contents.TheVariants.{Same, Names, Bytes, Pipe as Piped}
use Rattle.notes.specs.declared.change.Contents.TheVariants.{Fixed as As_fixed}
use Rattle.notes.specs.declared.change.Former.{Former}
use Rattle.notes.specs.declared.change.Former.TheVariants.{Noted, Other}
use Rattle.notes.specs.declared.change.Made.TheVariants.{Pipe as A_pipe}
use Rattle.notes.specs.declared.new_object.NewObject.{NewObject}
use Rattle.notes.specs.Patches.{Net, Patches, added_by, form_of, kept_at, net_at, opening_at}
use Rattle.notes.specs.Patches.{AllReach, new_ends, numbers_in, of_pipe, patched, reslotted}
use Rattle.notes.specs.Steps.{bytes_cut, bytes_written, filed, listed, name_noted, new_form}
use Rattle.notes.specs.Steps.{IsPassable, made_of, new_inode, piped}

-- how much room in its directory a name takes that comes
abbrev pub room_for : Option ℕ → ℕ
room_for (Some n) = 1
room_for None = 0

-- a name of the directory gives this from now on
pub record IsNamed (x : Name) (given : Option ℕ) (old new : Net) : Type 0 where
  pub contents : (o : Option Inode)
      → patched new.contents o ≡ name_noted x given (patched old.contents o)
  pub form : form_of new.contents ≡ listed (form_of old.contents)
  pub added : added_by new.contents ≤ added_by old.contents + room_for given
  pub promised : new.promised ≡ old.promised + room_for given
  pub numbers : numbers_in new.contents ≡ []
  pub reach : (o : Option Inode) → AllReach new.contents o
  pub ends : new_ends new.contents ≡ None
  pub rest : record new { contents = old.contents; promised = old.promised } ≡ old

-- the file has other bytes, as a function f of those before, in these blocks more
pub record IsFiled (f : Option Inode → Option Inode) (more : List ℕ) (old new : Net) : Type 0 where
  pub contents : (o : Option Inode) → patched new.contents o ≡ f (patched old.contents o)
  pub form : form_of new.contents ≡ filed (form_of old.contents)
  pub added : added_by new.contents ≡ 0
  pub reached : (o : Option Inode) → AllReach new.contents o
  pub ends : new_ends new.contents ≡ None
  pub numbers : (b : ℕ) → Contains (numbers_in new.contents) b
      ↔ Contains (numbers_in old.contents ++ more) b
  pub rest : record new { contents = old.contents } ≡ old

abbrev pub IsWritten : ℕ → List ℕ → Net → Net → Type 0
IsWritten place bytes = IsFiled (bytes_written place bytes) (blocks place (length bytes))

abbrev pub IsWiped : ℕ → ℕ → Net → Net → Type 0
IsWiped place count = IsFiled (bytes_written place (replicate count 0)) (blocks place count)

abbrev pub IsCut : ℕ → Net → Net → Type 0
IsCut after = IsFiled (bytes_cut after) []

-- the transaction made the object, with a name
pub record IsMade (what : NewObject) (old new : Net) : Type 0 where
  pub contents : (o : Option Inode) → patched new.contents o ≡ Some (new_inode what)
  pub form : form_of new.contents ≡ new_form what
  pub added : added_by new.contents ≡ 0
  pub made : new.made ≡ Some (made_of what)
  pub named : new.named ≡ old.named + 1
  pub reach : (o : Option Inode) → AllReach new.contents o
  pub ends : new_ends new.contents ≡ None
  pub numbers : numbers_in new.contents ≡ []
  pub rest : record new {
    contents = old.contents;
    made = old.made;
    named = old.named;
  } ≡ old

-- the pipe has other bytes, as a function f of those before, where it shows one with so many
pub record IsPassedBy (f : List ℕ → List ℕ) (enough : ℕ) (old new : Contents) : Type 0 where
  pub over : (o : Option Inode) → IsPassable enough old o
      → patched new o ≡ Some (Pipe (f (pipe_of_inode (patched old o))))
  pub reach : (o : Option Inode) → IsPassable enough old o → AllReach new o
  pub form : form_of new ≡ piped (form_of old)
  pub added : added_by new ≡ added_by old
  pub ends : new_ends new ≡ new_ends old
  pub numbers : numbers_in new ≡ numbers_in old

pub record IsPassed (f : List ℕ → List ℕ) (enough : ℕ) (old new : Net) : Type 0 where
  pub contents : IsPassedBy f enough old.contents new.contents
  pub rest : record new { contents = old.contents } ≡ old

abbrev pub IsTaken : ℕ → Net → Net → Type 0
IsTaken count = IsPassed (drop count) count

abbrev pub IsAppended : List ℕ → Net → Net → Type 0
IsAppended bytes = IsPassed (λ xs. xs ++ bytes) 0

-- the transaction made the pipe, with these two descriptions
pub record IsPiped (reader writer : ℕ) (old new : Net) : Type 0 where
  pub contents : (o : Option Inode) → patched new.contents o ≡ Some (Pipe [])
  pub reach : (o : Option Inode) → AllReach new.contents o
  pub form : form_of new.contents ≡ of_pipe true
  pub added : added_by new.contents ≡ 0
  pub made : new.made ≡ Some A_pipe
  pub ends : new_ends new.contents ≡ Some (reader, writer)
  pub numbers : numbers_in new.contents ≡ []
  pub rest : record new { contents = old.contents; made = old.made } ≡ old

-- the inode has a name more
pub record IsGiven (old new : Net) : Type 0 where
  pub named : new.named ≡ old.named + 1
  pub rest : record new { named = old.named } ≡ old

-- a name was taken from the inode
pub record IsUnnamed (old new : Net) : Type 0 where
  pub unnamed : new.unnamed ≡ old.unnamed + 1
  pub rest : record new { unnamed = old.unnamed } ≡ old

-- At one number it is so, all others are as before, and places stay.
pub record At (n : ℕ) (R : Net → Net → Type 0) (old new : List (ℕ × InodeChange)) : Type 0 where
  pub here : R (net_at old n) (net_at new n)
  pub others : (m : ℕ) → m ≢ n → net_at new m ≡ net_at old m
  pub places : (m : ℕ) → kept_at old m ≢ None → kept_at new m ≢ None

-- A name of directory d went, and then one of e gave n.
pub record AreNamed (d : ℕ) (x : Name) (e : ℕ) (y : Name) (n : ℕ) (old new : List (ℕ × InodeChange))
    : Type 0 where
  pub mid : List (ℕ × InodeChange)
  pub gone : At d (IsNamed x None) old mid
  pub come : At e (IsNamed y (Some n)) mid new

-- A name of directory d gave m, and then one of e gave n.
pub record AreSwapped (d : ℕ) (x : Name) (n e : ℕ) (y : Name) (m : ℕ)
    (old new : List (ℕ × InodeChange)) : Type 0 where
  pub mid : List (ℕ × InodeChange)
  pub first : At d (IsNamed x (Some m)) old mid
  pub second : At e (IsNamed y (Some n)) mid new

-- the contents with what was noted of a name before its note, or what was there before the first
abbrev pub put_back : Former → Name → Contents → Contents
put_back (Other contents) x now = contents
put_back (Noted given) x (Names fresh notes) = Names fresh (noted_back x given notes)
put_back (Noted given) x Same = Same
put_back (Noted given) x (Bytes fresh bytes) = Bytes fresh bytes
put_back (Noted given) x (Piped fresh changes) = Piped fresh changes
put_back (Noted given) x (As_fixed fixed) = As_fixed fixed

-- The name of the directory is gone, and the note can be taken back.
pub record IsGone (x : Name) (former : Former) (old new : Net) : Type 0 where
  pub named : IsNamed x None old new
  pub back : put_back former x new.contents ≡ old.contents

-- The name of the directory gives this number, and the note can be taken back.
pub record IsGivenOver (x : Name) (n : ℕ) (former : Former) (old new : Net) : Type 0 where
  pub named : IsNamed x (Some n) old new
  pub back : put_back former x new.contents ≡ old.contents

-- the same with the room that was promised for it
abbrev pub IsTakenBack : Name → Former → Net → Net → Type 0
IsTakenBack x former old new = new ≡ record old {
  contents = put_back former x old.contents;
  promised = old.promised - 1;
}

abbrev pub IsPutBack : Name → Former → Net → Net → Type 0
IsPutBack x former old new = new ≡ record old { contents = put_back former x old.contents }

-- All that counts is as before.
pub record SameInodes (old new : List (ℕ × InodeChange)) : Type 0 where
  pub nets : (n : ℕ) → net_at new n ≡ net_at old n
  pub places : (n : ℕ) → kept_at old n ≢ None → kept_at new n ≢ None

-- These rights are set of one number, and those of all others are as before.
pub record AtRights (n : ℕ) (rights : Rights) (old new : List (ℕ × Rights)) : Type 0 where
  pub here : kept_at new n ≡ Some rights
  pub others : (m : ℕ) → m ≢ n → kept_at new m ≡ kept_at old m

-- Patches after which all shows as before.
pub record SamePatches (old new : Patches) : Type 0 where
  pub inodes : SameInodes old.inodes new.inodes
  pub rights : (n : ℕ) → kept_at new.rights n ≡ kept_at old.rights n
  pub openings : (d : ℕ) → opening_at new.openings d ≡ opening_at old.openings d
  pub processes : (pid : ℕ) (o : Option Process)
      → reslotted (kept_at new.slots pid) o ≡ reslotted (kept_at old.slots pid) o
  pub unnamed_inodes : new.unnamed_inodes ≡ old.unnamed_inodes
