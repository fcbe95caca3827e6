-- How each request is served: by which process, and what is known then.
use Rattle.std.specs.Prelude.{◌≡◌, ◌⊎◌, ℕ, ◌==◌, ◌<◌, ◌^◌, ◌&&◌, min, nat_lt, length, Bool, true, false}
use Rattle.std.specs.Prelude.{Option, Some, None}
use Rattle.std.specs.Prelude.{option_map, option_and_then, Result, Ok, Err, if◌then◌else◌, List, [], ◌∷◌}
use Rattle.model.specs.FiniteMap as map
use Rattle.ids.specs.declared.call.Call.TheVariants as call
use Rattle.ids.specs.declared.limits.TheConstants.{DESCRIPTORS}
use Rattle.fuse.specs.declared.errno.Errno.TheVariants as errno
use Rattle.fuse.specs.declared.forgets.Forget.{Forget}
use Rattle.fuse.specs.declared.reply.Reply.{Reply}
use Rattle.fuse.specs.declared.reply.Reply.TheVariants as reply
use Rattle.fuse.specs.declared.request.Operation.{Operation}
use Rattle.fuse.specs.declared.request.Operation.TheVariants as asked
use Rattle.history.specs.Log.{Log}
use Rattle.machine.specs.Shown.{Shown}
use Rattle.machine.specs.Steps.{forgetting}
use Rattle.nodes.specs.Tables.{forgotten}
use Rattle.course.specs.Course.{Ran}
use Rattle.course.specs.Courses.{doing, forking}
use Rattle.course.specs.Hands.{IsChild}
use Rattle.course.specs.declared.fault.Fault.{Fault}
use Rattle.course.specs.declared.fault.Fault.TheVariants as fault
use Rattle.mount_tables.specs.Files.{closed_once, counted_down, key_of, unlinked}
use Rattle.mount_tables.specs.Numbers.{class_of}
use Rattle.mount_tables.specs.Processes.{let_go}
use Rattle.mount_tables.specs.declared.views.View.{View}
use Rattle.mount_tables.specs.declared.numbers.Class.{Class}
use Rattle.mount_tables.specs.declared.numbers.Class.TheVariants.{Tree, Transactions, Control}
use Rattle.mount_tables.specs.declared.open_files.OpenFile.{OpenFile}
use Rattle.mount_tables.specs.declared.processes.Role.{Role}
use Rattle.mount_tables.specs.declared.processes.Role.TheVariants.{Holder}
use Rattle.mount_tables.specs.declared.views.State.{State}
use Rattle.mount_tables.specs.declared.views.State.TheVariants as state
use Rattle.mount_requests.specs.Failures.{error, failure_of}
use Rattle.mount_requests.specs.Found.{file_at, handle_at, stepper_at}
use Rattle.mount_requests.specs.Later.{with_aborted}
use Rattle.mount_requests.specs.Requests.{IsAnswered, Tells}
use Rattle.mount_requests.specs.Seen.{Seen}
use Rattle.mount_requests.specs.declared.failure.Failure.{Failure}
use Rattle.mount_requests.specs.declared.failure.Failure.TheVariants as failure
use Rattle.mount_requests.specs.declared.requests.Caller.{Caller}
use Rattle.mount_requests.specs.declared.tables.Stepper.{Stepper}
use Rattle.mounted.specs.Controls.{ServesControl, ServesTransactions}
use Rattle.mounted.specs.Room.{is_want, needs_room, status_of}
use Rattle.mounted.specs.declared.starting.Space.{Space}

-- ---- the plain tree

-- the process that has a file of the plain tree open, and else the first one
abbrev pub is_holder : Option Role → Bool
is_holder (Some (Holder used)) = true
is_holder _ = false

abbrev pub process_by : Seen → Option OpenFile → ℕ
process_by s (Some file) =
    if file.view == 0 && is_holder (map.get s.roles file.pid) then file.pid else 1
process_by s None = 1

-- a file of the plain tree that is open
abbrev pub plain_file : Seen → ℕ → Option OpenFile
plain_file s node = option_and_then (file_at s) (handle_at s 0 node)

-- The process by which a request steps in the plain tree: one that has the file open, or the first
-- one. Where a file is to be opened it is any that has a descriptor free.
abbrev pub chosen : Seen → ℕ → Operation → Option ℕ
chosen s node (asked.Open flags how) =
    option_map (λ (f : OpenFile). process_by s (Some f)) (plain_file s node)
chosen s node (asked.Create name flags mode how) = None
chosen s node (asked.MkNod name mode) = None
chosen s node (asked.GetAttr handle) = Some (process_by s (plain_file s node))
chosen s node (asked.SetAttr changes) = Some (process_by s (plain_file s node))
chosen s node (asked.Read handle offset size flags) = Some (process_by s (file_at s handle))
chosen s node (asked.Write handle offset how flags bytes) = Some (process_by s (file_at s handle))
chosen s node (asked.Lseek handle offset whence) = Some (process_by s (file_at s handle))
chosen s node (asked.Fallocate handle offset length mode) =
    Some (process_by s (file_at s handle))
chosen s node (asked.CopyFileRange handle offset to to_handle to_offset length flags) =
    Some (process_by s (file_at s handle))
chosen s node _ = Some 1

-- how many descriptors a process of the kernel may have
abbrev pub most_descriptors : Log → ℕ
most_descriptors log = min log.bounds.descriptors DESCRIPTORS

-- A process was there that holds files of the plain tree and has a descriptor free, or the first one
-- made one.
pub data IsHolder (s : Seen) (old : Shown) (pid : ℕ) (known : Seen) (new : Shown) : Type 0 where
  Free : (used : ℕ) → map.get s.roles pid ≡ Some (Holder used) → used < most_descriptors old.log → known ≡ s
      → new ≡ old → IsHolder s old pid known new
  Made : Ran old (forking 1) (Ok pid) new → IsChild old 1 pid new
      → known ≡ record s { roles = map.insert s.roles pid (Holder 0) } → IsHolder s old pid known new

-- no process could be made
abbrev pub Lacks : ℕ → Seen → Seen → Shown → Shown → Failure → Type 0
Lacks maker s later old new e = (f : Fault) × Ran old (forking maker) (Err f) new × (later ≡ s)
    × (e ≡ failure_of f)

-- or memory was refused before
abbrev pub IsLacking : Seen → Seen → Shown → Shown → Failure → Type 0
IsLacking s later old new e =
    ((new ≡ old) × (later ≡ s) × (e ≡ error errno.ENOMEM)) ⊎ Lacks 1 s later old new e

abbrev pub IsReady : Option ℕ → Seen → Shown → ℕ → Seen → Shown → Type 0
IsReady (Some process) s old pid known new = (pid ≡ process) × (known ≡ s) × (new ≡ old)
IsReady None s old pid known new = IsHolder s old pid known new

pub data ServesPlain (s later : Seen) (who : Caller) (operation : Operation) (old new : Shown)
    (result : Result Reply Failure) : Type 0 where
  Refused : new ≡ old → later ≡ s → result ≡ Err (error errno.ENOMEM)
      → ServesPlain s later who operation old new result
  Lacking : (e : Fault) → chosen s who.node operation ≡ None → Ran old (forking 1) (Err e) new
      → later ≡ s → result ≡ Err (failure_of e) → ServesPlain s later who operation old new result
  Ready : (pid : ℕ) (known : Seen) (mid : Shown)
      → IsReady (chosen s who.node operation) s old pid known mid
      → IsAnswered known later pid who operation mid new result
      → ServesPlain s later who operation old new result

-- ---- all trees

-- After an abort nobody steps in the view any more, and its cause is kept.
abbrev pub noted : Seen → ℕ → Result Reply Failure → Seen
noted s view (Err (failure.Aborted why)) = with_aborted s view why
noted s view (Err (failure.Error e)) = s
noted s view (Ok r) = s

pub record ServesView (s later : Seen) (view pid : ℕ) (who : Caller) (operation : Operation)
    (old new : Shown) (r : Result Reply Failure) : Type 0 where
  pub served : Seen
  pub answers : IsAnswered s served pid who operation old new r
  pub noted_is : later ≡ noted served view r

-- In the plain tree, or by the process of a view's transaction.
abbrev pub ServesIn : Bool → Seen → Seen → Stepper → Caller → Operation → Shown → Shown
    → Result Reply Failure → Type 0
ServesIn true s later st who operation old new r =
    ServesPlain s later who operation old new r
ServesIn false s later st who operation old new r =
    ServesView s later st.view st.pid who operation old new r

abbrev pub ServesBy : Result Stepper Failure → Seen → Seen → Caller → Operation → Shown → Shown
    → Result Reply Failure → Type 0
ServesBy (Err e) s later who operation old new r = Tells (Err e) s later old new r
ServesBy (Ok st) s later who operation old new r =
    ServesIn (st.view == 0) s later st who operation old new r

-- A request about a node: where nobody may step there it is refused.
abbrev pub ServesTree : Seen → Seen → Caller → Operation → Shown → Shown → Result Reply Failure
    → Type 0
ServesTree s later who operation old new r =
    ServesBy (stepper_at s who.node) s later who operation old new r

-- ---- requests about nodes

-- the reply to an outcome
abbrev pub told : Result Reply Failure → Reply
told (Ok r) = r
told (Err (failure.Error e)) = reply.Error e
told (Err (failure.Aborted why)) = reply.Error errno.ECANCELED

-- Where the tree is full a request by which it grows is refused before its first step, and nothing else is
-- known then. Where memory is refused to it later, and that was for the limit, ENOSPC is told in the place of
-- ENOMEM. What is held is of no definition, so each may come at any time.
pub data ServesRoom (s later : Seen) (who : Caller) (operation : Operation) (old new : Shown)
    (r : Result Reply Failure) : Type 0 where
  IsFull : needs_room operation ≡ true → Tells (Err (error errno.ENOSPC)) s later old new r
      → ServesRoom s later who operation old new r
  IsShort : (outcome : Result Reply Failure) → needs_room operation ≡ true → is_want (told outcome) ≡ true
      → ServesTree s later who operation old new outcome → r ≡ Err (error errno.ENOSPC)
      → ServesRoom s later who operation old new r
  HasRoom : ServesTree s later who operation old new r → ServesRoom s later who operation old new r

abbrev pub ServesAt : Class → Seen → Seen → Caller → Operation → Shown → Shown → Result Reply Failure
    → Type 0
ServesAt Tree s later who operation old new r = ServesRoom s later who operation old new r
ServesAt Transactions s later who operation old new r =
    ServesTransactions s later operation old new r
ServesAt (Control view) s later who operation old new r =
    ServesControl s later view operation old new r

-- ---- files that are closed

-- A file that is open no more is closed by the process that has it, where that has it still: a holder
-- of the plain tree, or the process of a view whose transaction goes on or was committed. After an abort
-- all that was opened in it is gone.
abbrev pub keeps_open : State → Bool
keeps_open state.Live = true
keeps_open (state.Aborted why) = false
keeps_open state.Committed = true
keeps_open state.GivenUp = false

abbrev pub has_open : OpenFile → Option View → Bool
has_open file (Some view) = keeps_open view.state && view.pid == file.pid
has_open file None = false

abbrev pub is_held : Seen → OpenFile → Bool
is_held s file =
    if file.view == 0 then is_holder (map.get s.roles file.pid)
    else has_open file (map.get s.views file.view)

-- what is known of a file that is open once less: with the last time it goes
abbrev pub released_by : Seen → ℕ → Option OpenFile → Seen
released_by s handle None = s
released_by s handle (Some file) =
    if nat_lt 1 file.opens
    then record s { files = map.insert s.files handle (closed_once file) }
    else record s {
      files = map.remove s.files handle;
      handles = unlinked handle (key_of file) s.handles;
    }

-- one that could not be closed stays, though it is open no more, and the next that opens it uses it
abbrev pub kept_by : Seen → ℕ → Option OpenFile → Seen
kept_by s handle found = record s { files = counted_down handle found s.files }

-- a holder of the plain tree has one descriptor less
abbrev pub less_held : Bool → ℕ → Seen → Seen
less_held true pid s = record s { roles = let_go pid (map.get s.roles pid) s.roles }
less_held false pid s = s

-- what is known once it was to be closed; a view may be aborted then
abbrev pub closed_by : Seen → ℕ → OpenFile → Result (Unit {0}) Fault → Seen
closed_by s handle file (Ok done) =
    less_held (file.view == 0) file.pid (released_by s handle (file_at s handle))
closed_by s handle file (Err (fault.Aborted why)) =
    with_aborted (released_by s handle (file_at s handle)) file.view why
closed_by s handle file (Err e) = kept_by s handle (file_at s handle)

-- what is told where it was closed
abbrev pub told_closed : Result (Unit {0}) Fault → Result Reply Failure
told_closed (Ok done) = Ok reply.Empty
told_closed (Err e) = Err (failure_of e)

pub record Closes (s later : Seen) (handle : ℕ) (file : OpenFile) (old new : Shown)
    (r : Result Reply Failure) : Type 0 where
  pub closed : Result (Unit {0}) Fault
  pub ran : Ran old (doing file.pid (call.Close file.fd)) closed new
  pub known : later ≡ closed_by s handle file closed
  pub is : r ≡ told_closed closed

-- the file that is to be closed: it is open for the last time, and a process has it open still
abbrev pub last_open : Seen → Option OpenFile → Option OpenFile
last_open s None = None
last_open s (Some file) =
    if nat_lt 1 file.opens then None else (if is_held s file then Some file else None)

-- A file is open once less. Where that was the last time, it is closed.
abbrev pub ReleasesBy : Option OpenFile → Seen → Seen → ℕ → Shown → Shown → Result Reply Failure
    → Type 0
ReleasesBy None s later handle old new r =
    Tells (Ok reply.Empty) (released_by s handle (file_at s handle)) later old new r
ReleasesBy (Some file) s later handle old new r = Closes s later handle file old new r

abbrev pub Releases : Seen → Seen → ℕ → Shown → Shown → Result Reply Failure → Type 0
Releases s later handle old new r =
    ReleasesBy (last_open s (file_at s handle)) s later handle old new r

-- ---- all requests

-- look-ups of nodes are forgotten
abbrev pub with_forget : Seen → ℕ → ℕ → Seen
with_forget s node lookups = record s { nodes = forgotten s.nodes node lookups }

abbrev pub with_forgets : Seen → List Forget → Seen
with_forgets s [] = s
with_forgets s (f ∷ fs) = with_forgets (with_forget s f.node f.lookups) fs

-- a directory is closed
abbrev pub without_folder : Seen → ℕ → Seen
without_folder s handle = record s { folders = map.remove s.folders handle }

-- A reply of one kind, whatever it tells: how a session begins.
abbrev pub IsBeginning : Result Reply Failure → Type 0
IsBeginning (Ok (reply.Init init)) = Unit {0}
IsBeginning _ = ⊥

-- What the whole tree is like: all numbers follow from three, which no definition knows.
abbrev pub IsStatus : Result Reply Failure → Type 0
IsStatus r = (space : Space) × (r ≡ Ok (reply.StatFs (status_of space)))

-- Requests that are about no node make no step; a release may close a file.
abbrev pub Serves : Seen → Seen → Caller → Operation → Shown → Shown → Result Reply Failure → Type 0
Serves s later who (asked.Init major minor ahead flags) old new r =
    IsBeginning r × (new ≡ old) × (later ≡ s)
Serves s later who asked.Destroy old new r = Tells (Ok reply.Empty) s later old new r
Serves s later who asked.StatFs old new r = IsStatus r × (new ≡ old) × (later ≡ s)
Serves s later who (asked.Flush handle) old new r = Tells (Ok reply.Empty) s later old new r
Serves s later who (asked.Fsync handle) old new r = Tells (Ok reply.Empty) s later old new r
Serves s later who (asked.Release handle flags) old new r = Releases s later handle old new r
Serves s later who (asked.ReleaseDir handle) old new r =
    Tells (Ok reply.Empty) (without_folder s handle) later old new r
Serves s later who operation old new r = ServesAt (class_of who.node) s later who operation old new r

-- What is told of an outcome by which a request was served.
pub record ToldBy (Served : Result Reply Failure → Type 0) (answer : Reply) : Type 0 where
  pub outcome : Result Reply Failure
  pub served : Served outcome
  pub is : answer ≡ told outcome

-- A request was served, and this is told.
pub record Answered (s later : Seen) (who : Caller) (operation : Operation) (old new : Shown)
    (answer : Option Reply) : Type 0 where
  pub outcome : Result Reply Failure
  pub serves : Serves s later who operation old new outcome
  pub tells : answer ≡ Some (told outcome)

-- What is forgotten of nodes has no answer, nor has the wish that a request ends early.
abbrev pub IsToldOf : Seen → Seen → Caller → Operation → Shown → Shown → Option Reply → Type 0
IsToldOf s later who (asked.Forget lookups) old new answer =
    (answer ≡ None) × (new ≡ old) × (later ≡ with_forget s who.node lookups)
IsToldOf s later who (asked.BatchForget forgets) old new answer =
    (answer ≡ None) × (new ≡ old) × (later ≡ with_forgets s forgets)
IsToldOf s later who (asked.Interrupt unique) old new answer =
    (answer ≡ None) × (new ≡ old) × (later ≡ s)
IsToldOf s later who operation old new answer =
    Answered s later who operation old new answer

-- The same, and then what was done is forgotten, unless 2^63 entries or more were made. So a session
-- goes on as long as there is anything to forget.
pub record IsServed (s later : Seen) (who : Caller) (operation : Operation) (old new : Shown)
    (answer : Option Reply) : Type 0 where
  pub mid : Shown
  pub is : IsToldOf s later who operation old mid answer
  pub forgot : length mid.log.entries < 2 ^ 63 → new ≡ forgetting mid
  pub kept : (length mid.log.entries < 2 ^ 63 → ⊥) → new ≡ mid
