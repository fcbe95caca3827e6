-- What a transaction has changed of each object, as a function of what stands there.
use Rattle.std.specs.Prelude.{ℕ, Bool, true, false, List, [], ◌∷◌, Option, Some, None}
use Rattle.std.specs.Prelude.{if◌then◌else◌, is_some, count_by, ⊤}
use Rattle.std.specs.Ordering.{is_eq, nat_cmp}
use Rattle.std.specs.Map.{lookup}
use Rattle.model.specs.FiniteMap.{FinMap, entries, empty}
use Rattle.model.specs.State.{name_cmp, Inode, File, Directory, Pipe, Fixed, Description, Process}
use Rattle.model.specs.State.{Rights}
use Rattle.model.specs.State.{mapped}
use Rattle.model.specs.State.{names_of_inode, file_of_inode, pipe_of_inode}
use Rattle.model.specs.Changes.{at_offset, or_new}
use Rattle.fdtable.specs.Patches.{Given, laid_at}
use Rattle.file_shadow.specs.View.{view_over}
use Rattle.pipe_shadow.specs.View.{Reaches, view_over as pipe_over}
use Rattle.store.specs.Laid.{laid}
use Rattle.store.specs.declared.OpenPipe.{OpenPipe}
use Rattle.notes.specs.declared.change.InodeChange.{InodeChange}
use Rattle.notes.specs.declared.change.Contents.{Contents}
use Rattle.notes.specs.declared.change.Contents.TheVariants.{Same, Names, Bytes, Pipe as Piped}
use Rattle.notes.specs.declared.change.Contents.TheVariants.{Fixed as As_fixed}
use Rattle.notes.specs.declared.change.Made.{Made}
use Rattle.notes.specs.declared.opening.Opening.{Opening}
use Rattle.notes.specs.declared.opening.Opening.TheVariants.{Kept, New, Moved}

-- the names, the bytes and the pipe that changes are laid over: those that stand there, or none where the
-- transaction put something new in their place
abbrev pub names_before : Bool → Option Inode → FinMap name_cmp ℕ
names_before fresh o = if fresh then empty else names_of_inode o

abbrev pub bytes_before : Bool → Option Inode → List ℕ
bytes_before fresh o = if fresh then [] else file_of_inode o

abbrev pub pipe_before : Option OpenPipe → Option Inode → List ℕ
pipe_before (Some new) o = new.bytes
pipe_before None o = pipe_of_inode o

-- what stands at a number after the changes, by what stands there before
abbrev pub patched : Contents → Option Inode → Option Inode
patched Same o = o
patched (Names fresh notes) o = Some (Directory (laid (entries notes) (names_before fresh o)))
patched (Bytes fresh bytes) o = Some (File (view_over bytes (bytes_before fresh o)))
patched (Piped fresh changes) o = Some (Pipe (pipe_over changes (pipe_before fresh o)))
patched (As_fixed fixed) o = Some (Fixed fixed)

-- all bytes that changes take from a pipe were there
abbrev pub AllReach : Contents → Option Inode → Type 0
AllReach (Piped fresh changes) o = Reaches changes (pipe_before fresh o)
AllReach Same o = ⊤
AllReach (Names fresh notes) o = ⊤
AllReach (Bytes fresh bytes) o = ⊤
AllReach (As_fixed fixed) o = ⊤

-- the numbers of the two descriptions of a pipe that is new
abbrev pub ends_of : Option OpenPipe → Option (ℕ × ℕ)
ends_of (Some new) = Some (new.reader, new.writer)
ends_of None = None

abbrev pub new_ends : Contents → Option (ℕ × ℕ)
new_ends (Piped fresh changes) = ends_of fresh
new_ends Same = None
new_ends (Names fresh notes) = None
new_ends (Bytes fresh bytes) = None
new_ends (As_fixed fixed) = None

-- the same of the rights that were set of an inode
abbrev pub rights_over : Option Rights → Option Rights → Option Rights
rights_over (Some rights) o = Some rights
rights_over None o = o

-- the same of a description
abbrev pub reopened : Opening → Option Description → Option Description
reopened Kept o = o
reopened (New it) o = Some it
reopened (Moved place) o = mapped (at_offset place) o

-- the same of a process, whose slots change
abbrev pub slots_over : List (ℕ × Option ℕ) → FinMap nat_cmp ℕ → FinMap nat_cmp ℕ
slots_over [] table = table
slots_over (g ∷ gs) table = slots_over gs (laid_at g.0 (Some g.1) table)

abbrev pub with_slots : List (ℕ × Option ℕ) → Process → Process
with_slots gs process = record process { table = slots_over gs process.table }

abbrev pub reslotted_by : List (ℕ × Option ℕ) → Option Process → Option Process
reslotted_by [] o = o
reslotted_by (g ∷ gs) o = Some (with_slots (g ∷ gs) (or_new o))

abbrev pub slots_in : Option Given → List (ℕ × Option ℕ)
slots_in (Some given) = entries given
slots_in None = []

abbrev pub reslotted : Option Given → Option Process → Option Process
reslotted given o = reslotted_by (slots_in given) o

-- Of what kind changes of an inode are: none, or of a directory, a file or a pipe, which may be new,
-- or a new object that never changes.
pub data Form : Type 0 where
  no_change : Form
  of_names : Bool → Form
  of_bytes : Bool → Form
  of_pipe : Bool → Form
  of_fixed : Form

abbrev pub form_of : Contents → Form
form_of Same = no_change
form_of (Names fresh notes) = of_names fresh
form_of (Bytes fresh bytes) = of_bytes fresh
form_of (Piped fresh changes) = of_pipe (is_some fresh)
form_of (As_fixed fixed) = of_fixed

-- how many of a directory's changed names give a number
abbrev pub added_by : Contents → ℕ
added_by (Names fresh notes) = count_by (λ g. is_some g.1) (entries notes)
added_by Same = 0
added_by (Bytes fresh bytes) = 0
added_by (Piped fresh changes) = 0
added_by (As_fixed fixed) = 0

-- the blocks of a file into which bytes were written
abbrev pub numbers_in : Contents → List ℕ
numbers_in (Bytes fresh bytes) = bytes.changed.numbers
numbers_in Same = []
numbers_in (Names fresh notes) = []
numbers_in (Piped fresh changes) = []
numbers_in (As_fixed fixed) = []

-- What counts of the changes of an inode: what the transaction made, for how many names room is
-- promised, how many names it gave the inode and took from it, and the contents.
pub record Net : Type 0 where
  pub made : Option Made
  pub promised : ℕ
  pub named : ℕ
  pub unnamed : ℕ
  pub contents : Contents

-- nothing is changed
abbrev pub untouched : Net
untouched = record {
  made = None;
  promised = 0;
  named = 0;
  unnamed = 0;
  contents = Same;
}

abbrev pub net_of : Option InodeChange → Net
net_of (Some c) = record {
  made = c.made;
  promised = c.promised;
  named = c.named;
  unnamed = c.unnamed;
  contents = c.contents;
}
net_of None = untouched

-- what is kept under a number
abbrev pub kept_at : {X : Type 0} → List (ℕ × X) → ℕ → Option X
kept_at changes n = lookup (λ m. is_eq (nat_cmp n m)) changes

abbrev pub net_at : List (ℕ × InodeChange) → ℕ → Net
net_at changes n = net_of (kept_at changes n)

-- whether a description is one that the transaction made
abbrev pub is_new : Opening → Bool
is_new (New it) = true
is_new Kept = false
is_new (Moved place) = false

abbrev pub or_kept : Option Opening → Opening
or_kept (Some opening) = opening
or_kept None = Kept

abbrev pub opening_at : List (ℕ × Opening) → ℕ → Opening
opening_at openings d = or_kept (kept_at openings d)

-- All that a transaction has changed, by the numbers of inodes, with the rights that it set of them,
-- of descriptions and of processes, and what has lost a name.
pub record Patches : Type 0 where
  pub inodes : List (ℕ × InodeChange)
  pub rights : List (ℕ × Rights)
  pub openings : List (ℕ × Opening)
  pub slots : List (ℕ × Given)
  pub unnamed_inodes : List ℕ
