-- When a history is legal: each entry is right after the entries before it.
use Rattle.std.specs.Prelude.{◌≡◌, ℕ, ◌+◌, ◌≤◌, Bool, true, false, not, ◌&&◌, List, [], ◌∷◌, ◌++◌}
use Rattle.std.specs.Prelude.{Option, Some, None, if◌then◌else◌, filter, ◌==◌}
use Rattle.std.specs.List.{AllByRecursion}
use Rattle.ids.specs.Flags.{is_restarting, is_aborting_unsupported}
use Rattle.model.specs.Plan.{ENOTSUP}
use Rattle.model.specs.Calls.{Call}
use Rattle.model.specs.Steps.{edits, reply, CanBeChosen, IsNowhere, Item, Run}
use Rattle.model.specs.Entries.{BeginFlags, Op, Do, Begin, End, Abort, Cause, Clash, Unsupported}
use Rattle.model.specs.Entries.{Reply, Refuses, Begun, Committed, GivenUp, Aborted, Busy}
use Rattle.model.specs.Entries.{InTransaction, NotInTransaction, NoProcess, Entry, Executed}
use Rattle.model.specs.Entries.{answer_in, is_inside}
use Rattle.model.specs.Forgetting.{Limit, limit_at}
use Rattle.model.specs.Moments.{Setup, Status, gone, idle, live, doomed, Moment, status, at_start, numbers}
use Rattle.model.specs.Moments.{calls_at, seen_by, counted_touches, all_below, bound, losing_cause}
use Rattle.model.specs.Moments.{clashes_with, is_in, run_by, next, reserved, has_free}

-- at least so many places are free
abbrev pub Free : Limit → Moment → ℕ → Type 0
Free limit m needed = m.entries + reserved m + needed ≤ limit_at limit m.entries

-- no new numbers, and nobody doomed
pub record Alone (e : Entry) : Type 0 where
  pub chosen : e.chosen ≡ []
  pub doomed : e.doomed ≡ []

-- this reply alone, where so many places are free
abbrev pub Replied : Limit → Moment → Entry → Reply → ℕ → Type 0
Replied limit m e reply needed = (e.reply ≡ reply) × Alone e × Free limit m needed

-- a new number is not in the committed state, nor among the numbers of a list that stays live
pub record IsApart (m : Moment) (e : Entry) (n : ℕ) : Type 0 where
  pub committed : IsNowhere m.committed n
  pub lists : (q : ℕ) → is_in q e.doomed ≡ false → is_in n (numbers (calls_at m q)) ≡ false

-- what a call comes to that loses against none: an executed call, with the
-- answer of the state that its process sees
pub record Taken (m : Moment) (e : Entry) (call : Call) : Type 0 where
  pub answer : answer_in e.reply ≡ Some (reply (seen_by m e.pid) e.pid call)
  pub chosen : CanBeChosen (seen_by m e.pid) (edits (seen_by m e.pid) e.pid call) e.chosen
  pub apart : AllByRecursion (IsApart m e) e.chosen
  pub doomed : e.doomed ≡ all_below (clashes_with m e.pid (counted_touches m e.pid call)) (bound m)

-- the reply of a call that loses
abbrev pub lost : Status → Cause → Reply
lost (live flags age calls) cause = Aborted (Clash cause) (is_restarting flags)
lost idle cause = Busy cause
lost gone cause = Busy cause
lost (doomed first flags age) cause = Busy cause

abbrev pub Outcome : Moment → Entry → Status → Call → Option Cause → Type 0
Outcome m e s call (Some cause) = (e.reply ≡ lost s cause) × Alone e
Outcome m e s call None = Taken m e call

-- whether a transaction is begun anew at this operation
abbrev pub restarts : Limit → Moment → BeginFlags → Op → Bool
restarts limit m flags (Abort no_restart) =
    is_restarting flags && (not no_restart && has_free limit m 1)
restarts limit m flags (Do call) = is_restarting flags && has_free limit m 1
restarts limit m flags (Begin new) = is_restarting flags && has_free limit m 1
restarts limit m flags End = is_restarting flags && has_free limit m 1

-- the reply of fork and exit in a transaction
abbrev pub unsupported : BeginFlags → Reply
unsupported flags =
    if is_aborting_unsupported flags then Aborted Unsupported false else Refuses ENOTSUP

-- a call in a transaction
abbrev pub Inside : Limit → Moment → Entry → Status → BeginFlags → Call → Bool → Type 0
Inside limit m e s flags call true =
    Outcome m e s call (losing_cause m e.pid (counted_touches m e.pid call)) × Free limit m 1
Inside limit m e s flags call false = Replied limit m e (unsupported flags) 1

-- an entry is right, by the status of its process and its operation
abbrev pub RightAt : Limit → Moment → Entry → Status → Op → Type 0
RightAt limit m e (doomed cause flags age) op =
    (e.reply ≡ Aborted (Clash cause) (restarts limit m flags op)) × Alone e
RightAt limit m e (live flags age calls) End = (e.reply ≡ Committed) × Alone e
RightAt limit m e (live flags age calls) (Abort no_restart) =
    (e.reply ≡ GivenUp (restarts limit m flags (Abort no_restart))) × Alone e
RightAt limit m e gone op = Replied limit m e NoProcess 1
RightAt limit m e idle (Begin flags) = Replied limit m e Begun 2
RightAt limit m e (live flags age calls) (Begin new) = Replied limit m e InTransaction 1
RightAt limit m e idle End = Replied limit m e NotInTransaction 1
RightAt limit m e idle (Abort no_restart) = Replied limit m e NotInTransaction 1
RightAt limit m e (live flags age calls) (Do call) =
    Inside limit m e (live flags age calls) flags call (is_inside call)
RightAt limit m e idle (Do call) =
    Outcome m e idle call (losing_cause m e.pid (counted_touches m e.pid call)) × Free limit m 1

abbrev pub Right : Limit → Moment → Entry → Type 0
Right limit m e = RightAt limit m e (status m e.pid) e.op

-- calls of one process as steps of a plain run
abbrev pub items : ℕ → List Executed → List Item
items pid [] = []
items pid (e ∷ es) =
    record { pid = pid; call = e.call; answer = e.answer; chosen = e.chosen } ∷ items pid es

-- each live list runs from the committed state, with its replies and chosen numbers
abbrev pub ListsRun : Moment → Type 0
ListsRun m = (q : ℕ) → Run m.committed (items q (calls_at m q)) (seen_by m q)

-- from this moment on each entry is right after those before
-- it, and at each moment the live lists run
abbrev pub LegalFrom : Limit → Moment → List Entry → Type 0
LegalFrom limit m [] = ListsRun m
LegalFrom limit m (e ∷ es) = ListsRun m × Right limit m e × LegalFrom limit (next m e) es

-- A history of a kernel with this root number, this setup and this limit is legal. Only the
-- laws look into it: crates above carry it, and take what it gives from the laws.
unfoldable pub Legal : ℕ → Setup → Limit → List Entry → Type 0
Legal root setup limit es = LegalFrom limit (at_start root setup) es

-- the serial list: executed plain calls at their entries, and a
-- transaction's calls together at its committed end
abbrev pub serial_from : Moment → List Entry → List Item
serial_from m [] = []
serial_from m (e ∷ es) =
    items e.pid (run_by (status m e.pid) e.op e.reply e.chosen) ++ serial_from (next m e) es

abbrev pub serial : ℕ → Setup → List Entry → List Item
serial root setup es = serial_from (at_start root setup) es

-- the entries of one process, and beginnings
abbrev pub mine : ℕ → List Entry → List Entry
mine pid es = filter (λ e. e.pid == pid) es

abbrev pub IsBefore : List Entry → List Entry → Type 0
IsBefore es fs = (more : List Entry) × (fs ≡ es ++ more)
