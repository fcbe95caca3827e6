-- Requests about the directory of transactions, and about the files by which they are ended.
use Rattle.std.specs.Prelude.{◌≡◌, ◌≢◌, ◌⊎◌, ℕ, ◌-◌, ◌+◌, ◌==◌, ◌&&◌, ◌++◌, ◌∷◌, ◌^◌, [], min, nat_lt, eqb}
use Rattle.std.specs.Prelude.{List, length, take, drop, codes, Bool, true, false}
use Rattle.std.specs.Prelude.{Option, Some, None, is_some, option_and_then}
use Rattle.std.specs.Prelude.{Result, Ok, Err, if◌then◌else◌}
use Rattle.std.specs.List.{AllByRecursion, ends_with, list_any}
use Rattle.std.specs.Result.{is_ok}
use Rattle.std.specs.Ordering.{nat_cmp}
use Rattle.std.specs.Str.{bytes_eq}
use Rattle.model.specs.FiniteMap as map
use Rattle.ids.specs.declared.aspect.Why.{Why}
use Rattle.ids.specs.declared.call.Call.TheVariants as call
use Rattle.ids.specs.declared.limits.TheConstants.{DESCRIPTORS, NAME_LIMIT}
use Rattle.ids.specs.declared.reply.Reply.{Reply as Answer}
use Rattle.ids.specs.declared.reply.Reply.TheVariants as answer
use Rattle.fuse.specs.declared.errno.Errno.TheVariants as errno
use Rattle.fuse.specs.declared.reply.Reply.{Reply}
use Rattle.fuse.specs.declared.reply.Reply.TheVariants as reply
use Rattle.fuse.specs.declared.request.Operation.{Operation}
use Rattle.fuse.specs.declared.request.Operation.TheVariants as asked
use Rattle.machine.specs.Shown.{Shown}
use Rattle.transcript.specs.Reply.{why_text}
use Rattle.course.specs.Course.{Course, Ran}
use Rattle.course.specs.Courses.{beginning, calling, doing, ending, forking, giving_up}
use Rattle.course.specs.Hands.{IsChild}
use Rattle.course.specs.declared.fault.Fault.{Fault}
use Rattle.course.specs.declared.fault.Fault.TheVariants as fault
use Rattle.mount_tables.specs.Numbers.{control_node, root_node}
use Rattle.mount_tables.specs.Rows.{replaced}
use Rattle.mount_tables.specs.Views.{standing}
use Rattle.mount_tables.specs.declared.views.View.{View}
use Rattle.mount_tables.specs.declared.open_files.OpenFile.{OpenFile}
use Rattle.mount_tables.specs.declared.processes.Role.{Role}
use Rattle.mount_tables.specs.declared.processes.Role.TheVariants.{Idle, Of}
use Rattle.mount_tables.specs.declared.views.State.{State}
use Rattle.mount_tables.specs.declared.views.State.TheVariants.{Live, Aborted, Committed, GivenUp}
use Rattle.view_times.specs.Known.{Known, aborted, committed}
use Rattle.mount_requests.specs.Answers.{Says}
use Rattle.mount_requests.specs.Failures.{and_then, error, failure_of, found_or}
use Rattle.mount_requests.specs.Found.{stepper_of}
use Rattle.mount_requests.specs.Later.{with_aborted}
use Rattle.mount_requests.specs.Requests.{Tells, with_folder, with_names}
use Rattle.mount_requests.specs.Seen.{Seen}
use Rattle.mount_requests.specs.Told.{ShowsHandle}
use Rattle.mount_requests.specs.declared.failure.Failure.{Failure}
use Rattle.mounted.specs.declared.control.Order.{Order}
use Rattle.mounted.specs.declared.control.Order.TheVariants.{End, Abort}
use Rattle.mounted.specs.declared.transactions.Leaving.{Leaving}
use Rattle.mounted.specs.declared.transactions.Standing.{Standing}
use Rattle.mounted.specs.declared.transactions.Standing.TheVariants as leaves

-- the view of a number, and the number of that of a name
abbrev pub numbered : Seen → ℕ → Option View
numbered s number = map.get s.views number

abbrev pub number_in : Seen → List ℕ → Option ℕ
number_in s name = map.get s.names name

-- ---- names in the directory

-- what stands before the end of the name of a file by which a transaction is ended
abbrev pub control_of : List ℕ → Option (List ℕ)
control_of name =
    if ends_with eqb name (codes ".ctl") then Some (take (length name - 4) name) else None

-- the priority that a name asks for by its end, which is a point, a p and a digit up to 7
abbrev pub level_by : List ℕ → ℕ
level_by (point ∷ letter ∷ digit ∷ []) =
    if point == 46 && letter == 112 && nat_lt 47 digit && nat_lt digit 56 then digit - 48 else 0
level_by _ = 0

abbrev pub level_of : List ℕ → ℕ
level_of name = level_by (drop (length name - 3) name)

-- the node of a name: a view, or the file by which it is ended
abbrev pub node_by : Option ℕ → Option ℕ → Result ℕ Failure
node_by (Some view) ended = Ok (root_node view)
node_by None (Some view) = Ok (control_node view)
node_by None None = Err (error errno.ENOENT)

abbrev pub node_in : Seen → List ℕ → Result ℕ Failure
node_in s name = node_by (number_in s name) (option_and_then (number_in s) (control_of name))

abbrev pub ShowsNode : Result ℕ Failure → Result Reply Failure → Type 0
ShowsNode (Ok node) (Ok (reply.Entry entry)) = entry.node ≡ node
ShowsNode (Ok node) _ = ⊥
ShowsNode (Err e) r = r ≡ Err e

-- ---- a transaction begins

-- the priority with which a transaction of this name may begin
abbrev pub level_planned : Seen → List ℕ → Result ℕ Failure
level_planned s name =
    if nat_lt (NAME_LIMIT - 4) (length name) then Err (error errno.ENAMETOOLONG)
    else if is_some (control_of name) then Err (error errno.EINVAL)
    else if is_some (number_in s name) then Err (error errno.EEXIST)
    else Ok (level_of name)

-- A process of this priority waits, or the first one of that priority makes one, which waits then.
pub data IsTaken (level : ℕ) (roles : map.FinMap nat_cmp Role) (old : Shown) (pid : ℕ)
    (known : map.FinMap nat_cmp Role) (new : Shown) : Type 0 where
  Waits : map.get roles pid ≡ Some (Idle level) → known ≡ roles → new ≡ old
      → IsTaken level roles old pid known new
  Made : Ran old (forking (level + 1)) (Ok pid) new → IsChild old (level + 1) pid new
      → known ≡ map.insert roles pid (Idle level) → IsTaken level roles old pid known new

-- a number of a view is given to none
abbrev pub skipped : Seen → Seen
skipped s = record s { next_view = s.next_view + 1 }

abbrev pub with_roles : Seen → map.FinMap nat_cmp Role → Seen
with_roles s roles = record s { roles = roles }

-- the view of a process whose transaction goes on, by its number and its name
abbrev pub with_view : Seen → List ℕ → ℕ → ℕ → Seen
with_view s name level pid = record s {
  views = map.insert s.views s.next_view (record { pid = pid; level = level; state = Live });
  names = map.insert s.names name s.next_view;
  next_view = s.next_view + 1;
  roles = replaced pid (Of s.next_view) (map.get s.roles pid) s.roles;
}

-- A process of the priority that the name asks for begins a transaction, and its view has this name.
-- What may be refused memory comes before the first step.
pub data Begins (s later : Seen) (name : List ℕ) (old new : Shown) (r : Result Reply Failure)
    : Type 0 where
  Unplanned : (e : Failure) → level_planned s name ≡ Err e → new ≡ old → later ≡ s → r ≡ Err e
      → Begins s later name old new r
  Refused : new ≡ old → later ≡ s → r ≡ Err (error errno.ENOMEM) → Begins s later name old new r
  Lacking : (level : ℕ) (e : Fault) → level_planned s name ≡ Ok level
      → Ran old (forking (level + 1)) (Err e) new → later ≡ skipped s → r ≡ Err (failure_of e)
      → Begins s later name old new r
  Failed : (level pid : ℕ) (known : map.FinMap nat_cmp Role) (mid : Shown) (e : Fault)
      → level_planned s name ≡ Ok level → IsTaken level s.roles old pid known mid
      → Ran mid (beginning pid) (Err e) new → later ≡ with_roles (skipped s) known
      → r ≡ Err (failure_of e) → Begins s later name old new r
  Begun : (level pid : ℕ) (known : map.FinMap nat_cmp Role) (mid : Shown)
      → level_planned s name ≡ Ok level → IsTaken level s.roles old pid known mid
      → Ran mid (beginning pid) (Ok tt) new → later ≡ with_view (with_roles s known) name level pid
      → ShowsNode (Ok (root_node s.next_view)) r
      → Begins s later name old new r

-- what came of a beginning, by the roles of processes before and behind it
abbrev pub BeganBy : ℕ → map.FinMap nat_cmp Role → map.FinMap nat_cmp Role → Shown → Shown → ℕ → Type 0
BeganBy level roles known old new pid = (mid : Shown) × IsTaken level roles old pid known mid
    × Ran mid (beginning pid) (Ok tt) new

pub data NotBegun (level : ℕ) (roles known : map.FinMap nat_cmp Role) (old new : Shown) (f : Failure)
    : Type 0 where
  NoProcess : (e : Fault) → Ran old (forking (level + 1)) (Err e) new → known ≡ roles
      → f ≡ failure_of e → NotBegun level roles known old new f
  NotDone : (pid : ℕ) (mid : Shown) (e : Fault) → IsTaken level roles old pid known mid
      → Ran mid (beginning pid) (Err e) new → f ≡ failure_of e → NotBegun level roles known old new f

-- ---- a view is taken away

-- A transaction that was doomed is over as well.
abbrev pub gone : Result (Unit {0}) Fault → Result (Unit {0}) Failure
gone (Ok done) = Ok tt
gone (Err (fault.Aborted why)) = Ok tt
gone (Err e) = Err (failure_of e)

-- Descriptors of a process are closed, one after the other, and whether each was.
abbrev pub ClosesAll : ℕ → List ℕ → Bool → Shown → Shown → Type 0
ClosesAll pid [] all old new = (all ≡ true) × (new ≡ old)
ClosesAll pid (fd ∷ fds) all old new = (r : Result (Unit {0}) Fault) × (others : Bool) × (mid : Shown)
    × Ran old (doing pid (call.Close fd)) r mid × (all ≡ (is_ok r && others))
    × ClosesAll pid fds others mid new

abbrev pub ClosedIf : Bool → ℕ → ℕ → Bool → Shown → Shown → Type 0
ClosedIf true pid fd closed old new = (r : Result (Unit {0}) Fault)
    × Ran old (doing pid (call.Close fd)) r new × (closed ≡ is_ok r)
ClosedIf false pid fd closed old new = (closed ≡ true) × (new ≡ old)

-- a file of a view by which a process has this descriptor
pub record IsOpenIn (s : Seen) (view pid fd : ℕ) : Type 0 where
  pub handle : ℕ
  pub file : OpenFile
  pub is : map.get s.files handle ≡ Some file
  pub view_is : file.view ≡ view
  pub pid_is : file.pid ≡ pid
  pub fd_is : file.fd ≡ fd

-- These are the descriptors that a process has in a view, in any order.
pub record AreOpenIn (s : Seen) (view pid : ℕ) (fds : List ℕ) : Type 0 where
  pub each : (fd : ℕ) → IsOpenIn s view pid fd → list_any (λ listed. listed == fd) fds ≡ true
  pub only : AllByRecursion (IsOpenIn s view pid) fds

-- Where files of a view may be open still, all that its process has open there are closed by the
-- process that steps. Whether nothing is left open.
abbrev pub Closed : Bool → Seen → ℕ → ℕ → ℕ → Bool → Shown → Shown → Type 0
Closed true s view pid stepper all old new = (fds : List ℕ) × AreOpenIn s view pid fds
    × ClosesAll stepper fds all old new
Closed false s view pid stepper all old new = (all ≡ true) × (new ≡ old)

-- The files of a view are known no more, and all others stand.
pub record IsWithoutFiles (s later : Seen) (view : ℕ) : Type 0 where
  pub others : (handle : ℕ) (file : OpenFile) → map.get s.files handle ≡ Some file → file.view ≢ view
      → map.get later.files handle ≡ Some file
  pub none : (handle : ℕ) (file : OpenFile) → map.get later.files handle ≡ Some file
      → (map.get s.files handle ≡ Some file) × (file.view ≢ view)
  pub next : later.next_file ≡ s.next_file

-- Nothing but what is open was changed.
abbrev pub OnlyFiles : Seen → Seen → Type 0
OnlyFiles s later = later ≡ record s { files = later.files; handles = later.handles }

-- The view and its name are known no more, nor what it noted of times, which a commit has taken before.
-- Its process waits for a transaction again, or serves nobody where something of it is open still.
pub record IsWithoutView (s later : Seen) (name : List ℕ) (l : Leaving) (all : Bool) : Type 0 where
  pub views : later.views ≡ map.remove s.views l.number
  pub names : later.names ≡ map.remove s.names name
  pub next : later.next_view ≡ s.next_view
  pub files : IsWithoutFiles s later l.number
  pub nodes : later.nodes ≡ s.nodes
  pub folders : (later.folders ≡ s.folders) × (later.next_folder ≡ s.next_folder)
  pub times : (later.times ≡ aborted s.times l.number) × (later.time ≡ s.time)
  pub roles : later.roles
      ≡ (if all then replaced l.pid (Idle l.level) (map.get s.roles l.pid) s.roles else s.roles)

-- a view was taken away
pub record Left (is_open : Bool) (s later : Seen) (name : List ℕ) (l : Leaving) (old new : Shown)
    (r : Result Reply Failure) : Type 0 where
  pub all : Bool
  pub closed : Closed is_open s l.number l.pid l.pid all old new
  pub known : IsWithoutView s later name l all
  pub is : r ≡ Ok reply.Empty

-- A transaction that goes on is given up. Of one that was committed what its process has open still
-- is closed, and of others nothing is open.
abbrev pub standing_of : State → Standing
standing_of Live = leaves.Live
standing_of (Aborted why) = leaves.Over
standing_of Committed = leaves.Committed
standing_of GivenUp = leaves.Over

abbrev pub LeavesBy : Result (Unit {0}) Failure → Seen → Seen → List ℕ → Leaving → Shown → Shown
    → Result Reply Failure → Type 0
LeavesBy (Ok done) s later name l old new r = Left false s later name l old new r
LeavesBy (Err e) s later name l old new r = Tells (Err e) s later old new r

abbrev pub LeavesAs : Standing → Seen → Seen → List ℕ → Leaving → Shown → Shown
    → Result Reply Failure → Type 0
LeavesAs leaves.Live s later name l old new r = (given_up : Result (Unit {0}) Fault) × (mid : Shown)
    × Ran old (giving_up l.pid) given_up mid × LeavesBy (gone given_up) s later name l mid new r
LeavesAs leaves.Committed s later name l old new r = Left true s later name l old new r
LeavesAs leaves.Over s later name l old new r = Left false s later name l old new r

-- what is known of the view of a name
abbrev pub leaving_by : ℕ → Option View → Option Leaving
leaving_by number (Some view) = Some (record {
  number = number;
  pid = view.pid;
  level = view.level;
  standing = standing_of view.state;
})
leaving_by number None = None

abbrev pub leaving_in : Seen → List ℕ → Option Leaving
leaving_in s name =
    option_and_then (λ number. leaving_by number (numbered s number)) (number_in s name)

abbrev pub RemovesBy : Option Leaving → Seen → Seen → List ℕ → Shown → Shown → Result Reply Failure
    → Type 0
RemovesBy (Some l) s later name old new r = LeavesAs l.standing s later name l old new r
RemovesBy None s later name old new r = Tells (Err (error errno.ENOENT)) s later old new r

abbrev pub Removes : Seen → Seen → List ℕ → Shown → Shown → Result Reply Failure → Type 0
Removes s later name old new r = RemovesBy (leaving_in s name) s later name old new r

-- ---- looks at the directory

-- It is opened, and its lists show some names; or memory is refused.
abbrev pub Opens : Seen → Seen → Result Reply Failure → Type 0
Opens s later r = ((later ≡ s) × (r ≡ Err (error errno.ENOMEM)))
    ⊎ ((names : List (List ℕ)) × (later ≡ with_folder s 2 names) × Says (ShowsHandle s.next_folder) r)

-- It is listed, by an open directory of its own, which has some names then.
abbrev pub ListsSome : Seen → Seen → ℕ → Type 0
ListsSome s later handle = (later ≡ s)
    ⊎ ((names : List (List ℕ)) × (later ≡ with_names s 2 handle names))

-- Requests about it that change no transaction.
abbrev pub AsksTransactions : Seen → Seen → Operation → Result Reply Failure → Type 0
AsksTransactions s later asked.OpenDir r = Opens s later r
AsksTransactions s later (asked.ReadDir handle offset size) r = ListsSome s later handle
AsksTransactions s later _ r = later ≡ s

-- All requests about the directory: what is not told here changes nothing.
abbrev pub ServesTransactions : Seen → Seen → Operation → Shown → Shown → Result Reply Failure → Type 0
ServesTransactions s later (asked.MkDir name mode) old new r = Begins s later name old new r
ServesTransactions s later (asked.RmDir name) old new r = Removes s later name old new r
ServesTransactions s later (asked.Lookup name) old new r =
    ShowsNode (node_in s name) r × (new ≡ old) × (later ≡ s)
ServesTransactions s later operation old new r = AsksTransactions s later operation r × (new ≡ old)

-- ---- the file by which a transaction is ended

-- how a transaction is told
abbrev pub text_by : State → List ℕ
text_by Live = codes "live" ++ 10 ∷ []
text_by (Aborted why) = codes "aborted " ++ why_text why ++ 10 ∷ []
text_by Committed = codes "committed" ++ 10 ∷ []
text_by GivenUp = codes "given up" ++ 10 ∷ []

abbrev pub text_of : Option View → List ℕ
text_of (Some view) = text_by view.state
text_of None = []

-- so many bytes of it from an offset on, or memory was refused for them
abbrev pub ShowsText : Option View → ℕ → ℕ → Result Reply Failure → Type 0
ShowsText view offset size r =
    (r ≡ Ok (reply.Data (take size (drop offset (text_of view))))) ⊎ (r ≡ Err (error errno.ENOMEM))

-- the process of a view whose transaction goes on
abbrev pub live_by : State → ℕ → Option ℕ
live_by Live pid = Some pid
live_by (Aborted why) pid = None
live_by Committed pid = None
live_by GivenUp pid = None

abbrev pub live_in : Option View → Option ℕ
live_in (Some view) = live_by view.state view.pid
live_in None = None

-- the cause of an abort that a reply tells
abbrev pub cause_in : Answer → Option Why
cause_in (answer.Aborted why again) = Some why
cause_in _ = None

-- Where a transaction goes on, its process learns first whether it was doomed.
abbrev pub learnt : Seen → ℕ → Option Why → Seen
learnt s view (Some why) = with_aborted s view why
learnt s view None = s

abbrev pub Learns : State → Seen → Seen → ℕ → ℕ → Shown → Shown → Type 0
Learns Live s later view pid old new = (r : Answer)
    × Ran old (calling pid (call.Fstat DESCRIPTORS)) r new × (later ≡ learnt s view (cause_in r))
Learns (Aborted why) s later view pid old new = (new ≡ old) × (later ≡ s)
Learns Committed s later view pid old new = (new ≡ old) × (later ≡ s)
Learns GivenUp s later view pid old new = (new ≡ old) × (later ≡ s)

abbrev pub ReadsBy : Option View → Seen → Seen → ℕ → ℕ → ℕ → Shown → Shown → Result Reply Failure
    → Type 0
ReadsBy (Some v) s later view offset size old new r =
    Learns v.state s later view v.pid old new × ShowsText (numbered later view) offset size r
ReadsBy None s later view offset size old new r =
    Tells (Err (error errno.ENOENT)) s later old new r

-- what is asked by what is written: one of two words, with a line feed behind it or without
abbrev pub word_in : List ℕ → List ℕ
word_in text = if ends_with eqb text (10 ∷ []) then take (length text - 1) text else text

abbrev pub order_by : List ℕ → Option Order
order_by word =
    if bytes_eq word (codes "end") then Some End
    else if bytes_eq word (codes "abort") then Some Abort else None

abbrev pub ordered : Seen → ℕ → List ℕ → Result (ℕ × Order) Failure
ordered s view bytes = and_then (stepper_of view (numbered s view)) (λ st.
    and_then (found_or errno.EINVAL (order_by (word_in bytes))) (λ order. Ok (st.pid, order)))

abbrev pub obeying : ℕ → Order → Course (Result (Unit {0}) Fault)
obeying pid End = ending pid
obeying pid Abort = giving_up pid

abbrev pub state_by : Order → State
state_by End = Committed
state_by Abort = GivenUp

-- What the view has noted of times is everybody's behind an end: of two times the later one, but one that
-- was set as it was set. Behind an abort it is gone.
abbrev pub times_by : Order → ℕ → Known → Known
times_by End view k = committed k view
times_by Abort view k = aborted k view

-- The transaction is over then: by the order, or by an abort. Where the order failed otherwise it goes
-- on.
abbrev pub ended : Seen → ℕ → Order → Result (Unit {0}) Fault → Seen
ended s view order (Ok done) = record s {
  views = standing (state_by order) view (map.get s.views view) s.views;
  times = times_by order view s.times;
}
ended s view order (Err (fault.Aborted why)) = with_aborted s view why
ended s view order (Err e) = s

-- how much was written, or why the order failed
abbrev pub told_order : List ℕ → Result (Unit {0}) Fault → Result Reply Failure
told_order bytes (Ok done) = Ok (reply.Written (min (length bytes) (2 ^ 32 - 1)))
told_order bytes (Err e) = Err (failure_of e)

pub record Obeys (s later : Seen) (view pid : ℕ) (order : Order) (bytes : List ℕ) (old new : Shown)
    (r : Result Reply Failure) : Type 0 where
  pub obeyed : Result (Unit {0}) Fault
  pub ran : Ran old (obeying pid order) obeyed new
  pub known : later ≡ ended s view order obeyed
  pub is : r ≡ told_order bytes obeyed

abbrev pub OrdersBy : Result (ℕ × Order) Failure → Seen → Seen → ℕ → List ℕ → Shown → Shown
    → Result Reply Failure → Type 0
OrdersBy (Ok o) s later view bytes old new r = Obeys s later view o.0 o.1 bytes old new r
OrdersBy (Err e) s later view bytes old new r = Tells (Err e) s later old new r

-- All requests about the file: what is not told here changes nothing.
abbrev pub ServesControl : Seen → Seen → ℕ → Operation → Shown → Shown → Result Reply Failure → Type 0
ServesControl s later view (asked.Read handle offset size flags) old new r =
    ReadsBy (numbered s view) s later view offset size old new r
ServesControl s later view (asked.Write handle offset how flags bytes) old new r =
    OrdersBy (ordered s view bytes) s later view bytes old new r
ServesControl s later view _ old new r = (new ≡ old) × (later ≡ s)
