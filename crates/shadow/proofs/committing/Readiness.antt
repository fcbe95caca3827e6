-- Where changes can be committed, each of them can be made: those of inodes, of slots and of
-- descriptions.
use Rattle.std.proofs.Common.{◌≡◌, ◌≢◌, ℕ, ◌+◌, ◌<◌, ◌≤◌, Bool, true, false, List, [], length}
use Rattle.std.proofs.Common.{Option, Some, None, is_some, IfSome, refl, sym, ap, subst, ◌∙◌, arith}
use Rattle.std.specs.List.{AllByRecursion}
use Rattle.std.specs.Option.{option_and_then, option_map}
use Rattle.model.specs.FiniteMap.{entries, get}
use Rattle.model.specs.State.{A_directory, A_file, A_pipe, Fixed_content, pipe_of_inode, Inode, Kernel, Kind, Name, Process}
use Rattle.model.specs.State.{file_of_inode, kind, mapped, names_of, names_of_inode}
use Rattle.model.specs.Effects.{Effect, all_done}
use Rattle.model.proofs.Laws.{all_entries}
use Rattle.dirlist.specs.Listing.{Listing}
use Rattle.dirlist.specs.Patches.{Notes, or_before}
use Rattle.dirlist.proofs.Laws.{name_total}
use Rattle.file_shadow.specs.View.{FileChanges}
use Rattle.ids.specs.declared.limits.TheConstants.{PIPE_CAPACITY}
use Rattle.pipe_shadow.specs.View.{PipeChanges, view_over as pipe_over}
use Rattle.call_laws.specs.WellFormed.{CanBeNamed, WellFormed}
use Rattle.call_laws.proofs.Laws.{not_none, true_is_false}
use Rattle.freeing_laws.specs.Sweep.{AllFit}
use Rattle.freeing_laws.proofs.Laws.{sweep_is_tidy_lem}
use Rattle.store.specs.Numbers.{Numbers, coming, present}
use Rattle.store.specs.Places.{may_be_named}
use Rattle.store.specs.Shown.{inode_in, inode_of, shown_at}
use Rattle.store.specs.declared.OpenFile.{OpenFile}
use Rattle.store.specs.declared.OpenPipe.{OpenPipe}
use Rattle.store.specs.declared.Place.{Place}
use Rattle.store.specs.declared.Stage.{Stage}
use Rattle.store.specs.declared.Stage.TheVariants.{Coming, Held, Removed}
use Rattle.store.specs.declared.Object.{Object}
use Rattle.store.specs.declared.Object.TheVariants.{Directory as Kept_directory}
use Rattle.store.specs.declared.Object.TheVariants.{File as Kept_file, Pipe as Kept_pipe, Fixed as Kept_fixed}
use Rattle.store.specs.declared.Object.TheVariants.{Description as Kept_description, Nothing}
use Rattle.store.proofs.Laws.{get-chosen, get-inodes_by, laid_is}
use Rattle.shadow.specs.Agrees.{Agrees, IsOver}
use Rattle.shadow.specs.Claims.{Claim, Covers, New_directory, Number, Room, as_count, claim_in}
use Rattle.shadow.specs.Claims.{claimed, coming_directory, coming_other, is_directory_made}
use Rattle.shadow.specs.Claims.{is_file_made, or_zero, reserved, room_of}
use Rattle.shadow.specs.Committed.{Committed, Reserve}
use Rattle.shadow.specs.Laid.{AreReady, IsCarried, IsCarriedBy, IsReadyContents}
use Rattle.shadow.specs.Laid.{IsReadyDirectory, IsReadyFile, IsReadyPipe, reserves_of, shown_if}
use Rattle.notes.specs.Patches.{Net, Patches, added_by, form_of, is_new, kept_at}
use Rattle.notes.specs.Patches.{names_before, net_at, net_of, no_change, of_bytes, of_fixed, of_names}
use Rattle.notes.specs.Patches.{of_pipe}
use Rattle.notes.specs.Patches.{opening_at, patched, pipe_before, slots_in}
use Rattle.shadow.specs.Stored.{IsStaged, Processes, Sound, committed_of, numbered, reserve_in}
use Rattle.shadow.specs.Stored.{state_of}
use Rattle.notes.specs.declared.change.InodeChange.{InodeChange}
use Rattle.notes.specs.declared.change.Contents.{Contents}
use Rattle.notes.specs.declared.change.Contents.TheVariants.{Same, Names, Bytes, Pipe as Piped, Fixed as As_fixed}
use Rattle.notes.specs.declared.change.Made.{Made}
use Rattle.notes.specs.declared.change.Made.TheVariants.{Directory, File as New_file, Pipe as New_pipe, Fixed as New_fixed}
use Rattle.shadow.proofs.committing.CommitStates.{CanCommit}
use Rattle.shadow.proofs.committing.PipeLengths.{stays_short}
use Rattle.shadow.proofs.shared.FixedKinds.{no_directory, no_file, no_pipe}

-- the inode that a place shows, its kind, its bytes, and what is kept of it for transactions
abbrev pub inode_seen : Option Place → Option Inode
inode_seen o = option_and_then inode_in o

abbrev pub kind_seen : Option Place → Option Kind
kind_seen o = mapped kind (inode_seen o)

abbrev pub bytes_seen : Option Place → List ℕ
bytes_seen o = file_of_inode (inode_seen o)

abbrev pub reserve_seen : Option Place → Option Reserve
reserve_seen o = option_and_then reserve_in o

abbrev of_stage : Stage → Object → Place
of_stage t object = record { stage = t; object = object }

abbrev kind_at : Stage → Object → Option Kind
kind_at t object = mapped kind (shown_at {X = Inode} t (inode_of object))

-- a directory that is shown
abbrev pub IsShownDirectory : Option Place → Type 0
IsShownDirectory o = (listing : Listing) × (o ≡ Some (present (Kept_directory listing)))

pub directory_shown : (o : Option Place) → kind_seen o ≡ Some A_directory → IsShownDirectory o
directory_shown None is = absurd cc
directory_shown (Some place) is = by_place place.stage place.object is
  where
    by_place : (t : Stage) (object : Object) → kind_at t object ≡ Some A_directory
        → IsShownDirectory (Some (of_stage t object))
    by_place Held (Kept_directory listing) is = (listing, refl)
    by_place Held (Kept_file file) is = absurd cc
    by_place Held (Kept_pipe pipe) is = absurd cc
    by_place Held (Kept_fixed fixed) is = no_directory fixed is
    by_place Held (Kept_description opened) is = absurd cc
    by_place Held Nothing is = absurd cc
    by_place Coming object is = absurd cc
    by_place Removed object is = absurd cc

-- a file that is shown
abbrev pub IsShownFile : Option Place → Type 0
IsShownFile o = (file : OpenFile) × (o ≡ Some (present (Kept_file file)))

pub file_shown : (o : Option Place) → kind_seen o ≡ Some A_file → IsShownFile o
file_shown None is = absurd cc
file_shown (Some place) is = by_place place.stage place.object is
  where
    by_place : (t : Stage) (object : Object) → kind_at t object ≡ Some A_file
        → IsShownFile (Some (of_stage t object))
    by_place Held (Kept_file file) is = (file, refl)
    by_place Held (Kept_pipe pipe) is = absurd cc
    by_place Held (Kept_fixed fixed) is = no_file fixed is
    by_place Held (Kept_directory listing) is = absurd cc
    by_place Held (Kept_description opened) is = absurd cc
    by_place Held Nothing is = absurd cc
    by_place Coming object is = absurd cc
    by_place Removed object is = absurd cc

-- a pipe that is shown
abbrev pub IsShownPipe : Option Place → Type 0
IsShownPipe o = (pipe : OpenPipe) × (o ≡ Some (present (Kept_pipe pipe)))

pub pipe_shown : (o : Option Place) → kind_seen o ≡ Some A_pipe → IsShownPipe o
pipe_shown None is = absurd cc
pipe_shown (Some place) is = by_place place.stage place.object is
  where
    by_place : (t : Stage) (object : Object) → kind_at t object ≡ Some A_pipe
        → IsShownPipe (Some (of_stage t object))
    by_place Held (Kept_pipe pipe) is = (pipe, refl)
    by_place Held (Kept_fixed fixed) is = no_pipe fixed is
    by_place Held (Kept_directory listing) is = absurd cc
    by_place Held (Kept_file file) is = absurd cc
    by_place Held (Kept_description opened) is = absurd cc
    by_place Held Nothing is = absurd cc
    by_place Coming object is = absurd cc
    by_place Removed object is = absurd cc

none_less : {A : Type 0} → 0 < 0 → A
none_less less = absurd (omega arith)

-- a directory to come
abbrev pub IsComingDirectory : Option Place → Type 0
IsComingDirectory o = (listing : Listing) × (o ≡ Some (coming (Kept_directory listing)))

pub directory_comes : (o : Option Place) → 0 < coming_directory (reserve_seen o)
    → IsComingDirectory o
directory_comes None some = none_less some
directory_comes (Some place) some = by_place place.stage place.object some
  where
    by_place : (t : Stage) (object : Object)
        → 0 < coming_directory (reserve_in (of_stage t object))
        → IsComingDirectory (Some (of_stage t object))
    by_place Coming (Kept_directory listing) some = (listing, refl)
    by_place Coming (Kept_file file) some = none_less some
    by_place Coming (Kept_pipe pipe) some = none_less some
    by_place Coming (Kept_fixed fixed) some = none_less some
    by_place Coming (Kept_description opened) some = none_less some
    by_place Coming Nothing some = none_less some
    by_place Held object some = none_less some
    by_place Removed object some = none_less some

-- something else to come, which is not settled
pub other_comes : (o : Option Place) → IsStaged o → 0 < coming_other (reserve_seen o)
    → o ≡ Some (coming Nothing)
other_comes None staged some = none_less some
other_comes (Some place) staged some = by_place place.stage place.object staged some
  where
    by_place : (t : Stage) (object : Object) → IsStaged (Some (of_stage t object))
        → 0 < coming_other (reserve_in (of_stage t object))
        → Some (of_stage t object) ≡ Some (coming Nothing)
    by_place Coming Nothing staged some = refl
    by_place Coming (Kept_directory listing) staged some = none_less some
    by_place Coming (Kept_file file) staged some = absurd staged
    by_place Coming (Kept_pipe pipe) staged some = absurd staged
    by_place Coming (Kept_fixed fixed) staged some = absurd staged
    by_place Coming (Kept_description opened) staged some = absurd staged
    by_place Held object staged some = none_less some
    by_place Removed object staged some = none_less some

-- what is shown can be named
shown_named : (o : Option Place) → CanBeNamed (kind_seen o) → may_be_named o ≡ true
shown_named None can = absurd can
shown_named (Some place) can = by_stage place.stage place.object can
  where
    by_stage : (t : Stage) (object : Object) → CanBeNamed (kind_at t object)
        → may_be_named (Some (of_stage t object)) ≡ true
    by_stage Held object can = refl
    by_stage Coming object can = absurd can
    by_stage Removed object can = absurd can

-- What is known of a place by what a transaction made there, and by the form of its changes: what
-- it made is to come, and it has changed only what is of the kind of its changes.
pub record IsUnder (o : Option Place) (made : Option Made) (contents : Contents) : Type 0 where
  pub over : IsOver (kind_seen o) made (form_of contents)
  pub directory : as_count (is_directory_made made) ≤ coming_directory (reserve_seen o)
  pub file : as_count (is_file_made made) ≤ coming_other (reserve_seen o)
  pub staged : IsStaged o

-- where an inode can be named after its changes, its number can be named before them
named_place : (o : Option Place) (made : Option Made) (contents : Contents)
    → IsUnder o made contents → CanBeNamed (mapped kind (patched contents (inode_seen o)))
    → may_be_named o ≡ true
named_place o (Some Directory) contents under can =
    ap may_be_named (directory_comes o under.directory).1
named_place o (Some New_file) contents under can =
    ap may_be_named (other_comes o under.staged under.file)
named_place o (Some New_pipe) contents under can =
    ap may_be_named (other_comes o under.staged under.file)
named_place o (Some New_fixed) contents under can =
    ap may_be_named (other_comes o under.staged under.file)
named_place o None Same under can = shown_named o can
named_place o None (Names fresh notes) under can =
    ap may_be_named (directory_shown o under.over.1).1
named_place o None (Bytes fresh bytes) under can = ap may_be_named (file_shown o under.over.1).1
named_place o None (Piped fresh changes) under can =
    ap may_be_named (pipe_shown o under.over.1).1
named_place o None (As_fixed fixed) under can = absurd under.over

-- a directory of which names change is shown, or is to come
record IsListed (o : Option Place) (made : Option Made) : Type 0 where
  listing : Listing
  there : option_map (shown_if (is_some made)) o ≡ Some (present (Kept_directory listing))
  room : or_zero (room_of (reserve_seen o)) ≡ listing.promised

listed : (o : Option Place) (made : Option Made) (fresh : Bool) (notes : Notes)
    → IsUnder o made (Names fresh notes) → IsListed o made
listed o (Some Directory) fresh notes under =
    let is : IsComingDirectory o = directory_comes o under.directory in
    record {
      listing = is.0;
      there = ap (option_map (shown_if true)) is.1;
      room = ap (λ o. or_zero (room_of (reserve_seen o))) is.1;
    }
listed o (Some New_file) fresh notes under =
    let file : of_names fresh ≡ of_bytes true = under.over in absurd cc
listed o (Some New_pipe) fresh notes under =
    let pipe : of_names fresh ≡ of_pipe true = under.over in absurd cc
listed o (Some New_fixed) fresh notes under =
    let fixed : of_names fresh ≡ of_fixed = under.over in absurd cc
listed o None fresh notes under =
    let is : IsShownDirectory o = directory_shown o under.over.1 in
    record {
      listing = is.0;
      there = ap (option_map (shown_if false)) is.1;
      room = ap (λ o. or_zero (room_of (reserve_seen o))) is.1;
    }

-- the changes of a file can be made
file_ready : (o : Option Place) (made : Option Made) (fresh : Bool) (bytes : FileChanges)
    → IsUnder o made (Bytes fresh bytes) → IsReadyFile (is_some made) o
file_ready o (Some Directory) fresh bytes under =
    let directory : of_bytes fresh ≡ of_names true = under.over in absurd cc
file_ready o (Some New_pipe) fresh bytes under =
    let pipe : of_bytes fresh ≡ of_pipe true = under.over in absurd cc
file_ready o (Some New_fixed) fresh bytes under =
    let fixed : of_bytes fresh ≡ of_fixed = under.over in absurd cc
file_ready o (Some New_file) fresh bytes under = other_comes o under.staged under.file
file_ready o None fresh bytes under = file_shown o under.over.1

-- what is put into a pipe fits
pipe_ready : (o : Option Place) (made : Option Made) (fresh : Option OpenPipe)
    (changes : PipeChanges) → IsUnder o made (Piped fresh changes)
    → (length (pipe_of_inode (inode_seen o)) ≤ PIPE_CAPACITY
    → length (pipe_over changes (pipe_before fresh (inode_seen o))) ≤ PIPE_CAPACITY)
    → IsReadyPipe fresh changes o
pipe_ready o (Some Directory) fresh changes under short =
    let directory : of_pipe (is_some fresh) ≡ of_names true = under.over in absurd cc
pipe_ready o (Some New_file) fresh changes under short =
    let file : of_pipe (is_some fresh) ≡ of_bytes true = under.over in absurd cc
pipe_ready o (Some New_fixed) fresh changes under short =
    let fixed : of_pipe (is_some fresh) ≡ of_fixed = under.over in absurd cc
pipe_ready o (Some New_pipe) None changes under short =
    let old : of_pipe false ≡ of_pipe true = under.over in absurd cc
pipe_ready o (Some New_pipe) (Some new) changes under short =
    let is : o ≡ Some (coming Nothing) = other_comes o under.staged under.file in
    let none : length (pipe_of_inode (inode_seen o)) ≡ 0 =
    ap (λ o. length (pipe_of_inode (inode_seen o))) is in
    (is, short (omega (arith, none)))
pipe_ready o None (Some new) changes under short = absurd (true_is_false under.over.0)
pipe_ready o None None changes under short =
    let is : IsShownPipe o = pipe_shown o under.over.1 in (
      is.0,
      is.1,
      subst (λ o. length (pipe_of_inode (inode_seen o)) ≤ PIPE_CAPACITY
          → length (pipe_over changes (pipe_of_inode (inode_seen o))) ≤ PIPE_CAPACITY) is.1 short,
    )

-- what never changes is new, so its number is to come
fixed_ready : (o : Option Place) (made : Option Made) (fixed : Fixed_content)
    → IsUnder o made (As_fixed fixed) → o ≡ Some (coming Nothing)
fixed_ready o (Some Directory) fixed under =
    let directory : of_fixed ≡ of_names true = under.over in absurd cc
fixed_ready o (Some New_file) fixed under =
    let file : of_fixed ≡ of_bytes true = under.over in absurd cc
fixed_ready o (Some New_pipe) fixed under =
    let pipe : of_fixed ≡ of_pipe true = under.over in absurd cc
fixed_ready o (Some New_fixed) fixed under = other_comes o under.staged under.file
fixed_ready o None fixed under = absurd under.over

-- where nothing is settled yet and the transaction makes no file, it changes no inode
nothing_there : (o : Option Place) (made : Option Made) (contents : Contents)
    → o ≡ Some (coming Nothing) → IsUnder o made contents → as_count (is_file_made made) ≡ 0
    → (contents ≡ Same) × (made ≡ None)
nothing_there o (Some Directory) contents is under none =
    let nothing : coming_directory (reserve_seen o) ≡ 0 =
    ap (λ o. coming_directory (reserve_seen o)) is in
    let one : 1 ≤ coming_directory (reserve_seen o) = under.directory in
    absurd (omega arith)
nothing_there o (Some New_file) contents is under none =
    let one : as_count true ≡ 0 = none in absurd (omega arith)
nothing_there o (Some New_pipe) contents is under none =
    let one : as_count true ≡ 0 = none in absurd (omega arith)
nothing_there o (Some New_fixed) contents is under none =
    let one : as_count true ≡ 0 = none in absurd (omega arith)
nothing_there o None Same is under none = (refl, refl)
nothing_there o None (Names fresh notes) is under none =
    let shown : None ≡ Some A_directory = sym (ap kind_seen is) ∙ under.over.1 in absurd cc
nothing_there o None (Bytes fresh bytes) is under none =
    let shown : None ≡ Some A_file = sym (ap kind_seen is) ∙ under.over.1 in absurd cc
nothing_there o None (Piped fresh changes) is under none =
    let shown : None ≡ Some A_pipe = sym (ap kind_seen is) ∙ under.over.1 in absurd cc
nothing_there o None (As_fixed fixed) is under none = absurd under.over

-- nothing was made where nothing changes
unmade : (o : Option Place) (made : Option Made) → IsUnder o made Same → made ≡ None
unmade o None under = refl
unmade o (Some Directory) under =
    let directory : no_change ≡ of_names true = under.over in absurd cc
unmade o (Some New_file) under = let file : no_change ≡ of_bytes true = under.over in absurd cc
unmade o (Some New_pipe) under = let pipe : no_change ≡ of_pipe true = under.over in absurd cc
unmade o (Some New_fixed) under = let fixed : no_change ≡ of_fixed = under.over in absurd cc

-- what is known of the changes of one inode
record Fits (ps : Processes) (s : Numbers) (ds : List Effect) (n : ℕ) (net : Net) : Type 0 where
  under : IsUnder (get s.places n) net.made net.contents
  room : net.promised ≤ or_zero (room_of (reserve_seen (get s.places n)))
  added : added_by net.contents ≤ net.promised
  after : get (all_done ds (state_of ps s)).inodes n
      ≡ patched net.contents (inode_seen (get s.places n))

-- what a commit finds, by what it sees of the changes and of the committed state
pub can_commit : (ps : Processes) (s : Numbers) (logged ds : List Effect) (p noted : Patches)
    (stable : Committed) → Sound ps s → Agrees logged noted → logged ≡ ds → p ≡ noted
    → committed_of ps s ≡ stable → AllFit ds stable.state → Covers stable ds → CanCommit ps s ds p
can_commit ps s logged ds p noted stable sound agrees same alike is fits covers = record {
  sound = sound;
  agrees = subst (λ ds. Agrees ds p) same (subst (Agrees logged) (sym alike) agrees);
  fits = subst (λ (c : Committed). AllFit ds c.state) (sym is) fits;
  covers = subst (λ c. Covers c ds) (sym is) covers;
}

module _ {ps : Processes} {s : Numbers} {ds : List Effect} {p : Patches}
    (can : CanCommit ps s ds p) where
  abbrev done : Kernel
  done = all_done ds (state_of ps s)

  pub inode_at : (n : ℕ) → get (state_of ps s).inodes n ≡ inode_seen (get s.places n)
  inode_at n = get-inodes_by s n (get s.places n) refl

  pub reserve_at : (n : ℕ) → get (reserves_of s) n ≡ reserve_seen (get s.places n)
  reserve_at n = get-chosen reserve_in s.places n

  claim_kept : (c : Claim) → claim_in p c ≤ reserved (committed_of ps s) c
  claim_kept c =
      let same : claimed c ds ≡ claim_in p c = can.agrees.claims c in
      let most : claimed c ds ≤ reserved (committed_of ps s) c = can.covers c in omega arith

  file_kept : (n : ℕ)
      → as_count (is_file_made (net_at p.inodes n).made)
      + as_count (is_new (opening_at p.openings n))
      ≤ coming_other (reserve_seen (get s.places n))
  file_kept n =
      subst (λ r. claim_in p (Number n) ≤ coming_other r) (reserve_at n) (claim_kept (Number n))

  under_at : (n : ℕ)
      → IsUnder (get s.places n) (net_at p.inodes n).made (net_at p.inodes n).contents
  under_at n =
      let net : Net = net_at p.inodes n in
      record {
        over = subst (λ o. IsOver (mapped kind o) net.made (form_of net.contents)) (inode_at n)
            (can.agrees.kinds (state_of ps s) n can.fits);
        directory = subst (λ r. as_count (is_directory_made net.made) ≤ coming_directory r)
            (reserve_at n) (claim_kept (New_directory n));
        file = less (as_count (is_file_made net.made))
            (as_count (is_new (opening_at p.openings n)))
            (coming_other (reserve_seen (get s.places n))) (file_kept n);
        staged = can.sound.staged n;
      }
    where
      less : (a b c : ℕ) → a + b ≤ c → a ≤ c
      less a b c both = omega arith

  fits_at : (n : ℕ) → Fits ps s ds n (net_at p.inodes n)
  fits_at n = record {
    under = under_at n;
    room = subst (λ r. (net_at p.inodes n).promised ≤ or_zero (room_of r)) (reserve_at n)
        (claim_kept (Room n));
    added = can.agrees.added n;
    after = can.agrees.inodes (state_of ps s) n can.fits
        ∙ ap (patched (net_at p.inodes n).contents) (inode_at n);
  }

  change_fits : (n : ℕ) (c : InodeChange) → kept_at p.inodes n ≡ Some c
      → Fits ps s ds n (net_of (Some c))
  change_fits n c is = subst (Fits ps s ds n) (ap net_of is) (fits_at n)

  pub well_done : WellFormed done
  well_done = sweep_is_tidy_lem.well ds (state_of ps s) can.sound.well can.fits

  -- what a name gives after the changes can be named
  number_named : (n : ℕ) (x : Name) (m : ℕ) → get (names_of done n) x ≡ Some m
      → may_be_named (get s.places m) ≡ true
  number_named n x m is =
      named_place (get s.places m) (net_at p.inodes m).made (net_at p.inodes m).contents
      (under_at m)
      (subst (λ o. CanBeNamed (mapped kind o)) (fits_at m).after (well_done.names n x m is))

  numbers_named : (n : ℕ) (fresh : Bool) (notes : Notes)
      → get done.inodes n ≡ patched (Names fresh notes) (inode_seen (get s.places n))
      → AllByRecursion (λ g. IfSome g.1 (λ m. may_be_named (get s.places m) ≡ true))
      (entries notes)
  numbers_named n fresh notes after =
      all_entries name_total (λ x v. IfSome v (λ m. may_be_named (get s.places m) ≡ true)) notes
      each
    where
      given : (x : Name) (m : ℕ) → get notes x ≡ Some (Some m) → get (names_of done n) x ≡ Some m
      given x m is =
          let before = names_before fresh (inode_seen (get s.places n)) in
          ap (λ o. get (names_of_inode o) x) after
          ∙ laid_is notes before x
          ∙ ap (λ noted. or_before noted (get before x)) is

      each : (x : Name) (v : Option ℕ) → get notes x ≡ Some v
          → IfSome v (λ m. may_be_named (get s.places m) ≡ true)
      each x None is = tt
      each x (Some m) is = number_named n x m (given x m is)

  directory_ready : (n : ℕ) (c : InodeChange) (fresh : Bool) (notes : Notes)
      → Fits ps s ds n (net_of (Some c)) → c.contents ≡ Names fresh notes
      → IsUnder (get s.places n) c.made (Names fresh notes) → IsReadyDirectory s n c notes
  directory_ready n c fresh notes fits is under =
      by_listed (listed (get s.places n) c.made fresh notes under)
    where
      by_listed : IsListed (get s.places n) c.made → IsReadyDirectory s n c notes
      by_listed l = record {
        listing = l.listing;
        there = l.there;
        room = subst (λ m. c.promised ≤ m) l.room fits.room;
        added = subst (λ w. added_by w ≤ c.promised) is fits.added;
        numbers = numbers_named n fresh notes
            (fits.after ∙ ap (λ w. patched w (inode_seen (get s.places n))) is);
      }

  -- a pipe is no longer after the changes than pipes get
  short_at : (n : ℕ) (c : InodeChange) (fresh : Option OpenPipe) (changes : PipeChanges)
      → Fits ps s ds n (net_of (Some c)) → c.contents ≡ Piped fresh changes
      → length (pipe_of_inode (inode_seen (get s.places n))) ≤ PIPE_CAPACITY
      → length (pipe_over changes (pipe_before fresh (inode_seen (get s.places n))))
      ≤ PIPE_CAPACITY
  short_at n c fresh changes fits is low =
      subst (λ o. length (pipe_of_inode o) ≤ PIPE_CAPACITY)
      (fits.after ∙ ap (λ w. patched w (inode_seen (get s.places n))) is)
      (stays_short n ds (state_of ps s) can.fits
      (subst (λ o. length (pipe_of_inode o) ≤ PIPE_CAPACITY) (sym (inode_at n)) low))

  change_ready : (n : ℕ) (c : InodeChange) → Fits ps s ds n (net_of (Some c)) → (w : Contents)
      → c.contents ≡ w → IsUnder (get s.places n) c.made w → IsReadyContents s n c w
  change_ready n c fits Same is under = unmade (get s.places n) c.made under
  change_ready n c fits (Names fresh notes) is under =
      directory_ready n c fresh notes fits is under
  change_ready n c fits (Bytes fresh bytes) is under =
      file_ready (get s.places n) c.made fresh bytes under
  change_ready n c fits (Piped fresh changes) is under =
      pipe_ready (get s.places n) c.made fresh changes under
      (short_at n c fresh changes fits is)
  change_ready n c fits (As_fixed fixed) is under =
      fixed_ready (get s.places n) c.made fixed under

  -- each change of an inode can be made
  pub ready : AreReady p.inodes s
  ready n c is =
      let fits : Fits ps s ds n (net_of (Some c)) = change_fits n c is in
      change_ready n c fits c.contents refl fits.under

  -- a process whose slots change is there
  pub slots_alive : (pid : ℕ) → slots_in (kept_at p.slots pid) ≢ []
      → get (numbered ps) pid ≢ None
  slots_alive pid some = by_process (get (numbered ps) pid)
      (can.agrees.alive (state_of ps s) pid can.fits some)
    where
      by_process : (o : Option Process) → is_some o ≡ true → o ≢ None
      by_process None is = absurd (true_is_false (sym is))
      by_process (Some it) is = not_none it

  -- a description that the transaction made is to come
  pub to_come : (d : ℕ) → is_new (opening_at p.openings d) ≡ true
      → get s.places d ≡ Some (coming Nothing)
  to_come d new =
      let made : ℕ = as_count (is_file_made (net_at p.inodes d).made) in
      let one : as_count (is_new (opening_at p.openings d)) ≡ 1 = ap as_count new in
      let both : made + as_count (is_new (opening_at p.openings d))
      ≤ coming_other (reserve_seen (get s.places d)) = file_kept d in
      other_comes (get s.places d) (can.sound.staged d) (omega arith)

  -- and no inode is changed under its number
  pub same_where_new : (d : ℕ) → is_new (opening_at p.openings d) ≡ true
      → ((net_at p.inodes d).contents ≡ Same) × ((net_at p.inodes d).made ≡ None)
  same_where_new d new =
      let made : ℕ = as_count (is_file_made (net_at p.inodes d).made) in
      let one : as_count (is_new (opening_at p.openings d)) ≡ 1 = ap as_count new in
      let most : coming_other (reserve_seen (get s.places d)) ≡ 1 =
      ap (λ o. coming_other (reserve_seen o)) (to_come d new) in
      let both : made + as_count (is_new (opening_at p.openings d))
      ≤ coming_other (reserve_seen (get s.places d)) = file_kept d in
      nothing_there (get s.places d) (net_at p.inodes d).made (net_at p.inodes d).contents
      (to_come d new) (under_at d) (omega arith)

  -- so it is to come still after the changes of inodes
  pub still_to_come : (after : Numbers)
      → ((n : ℕ) → IsCarried (kept_at p.inodes n) (get s.places n) (get after.places n))
      → (d : ℕ) → is_new (opening_at p.openings d) ≡ true
      → get after.places d ≡ Some (coming Nothing)
  still_to_come after carried d new = by_change (kept_at p.inodes d) refl ∙ to_come d new
    where
      by_change : (o : Option InodeChange) → kept_at p.inodes d ≡ o
          → get after.places d ≡ get s.places d
      by_change None is = subst (λ o. IsCarried o (get s.places d) (get after.places d)) is
          (carried d)
      by_change (Some c) is =
          let same : c.contents ≡ Same =
          sym (ap (λ o. (net_of o).contents) is) ∙ (same_where_new d new).0 in
          subst (λ w. IsCarriedBy c w (get s.places d) (get after.places d)) same
          (subst (λ o. IsCarried o (get s.places d) (get after.places d)) is (carried d))
