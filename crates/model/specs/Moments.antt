-- What a history comes to: the committed state, and the status of each process.
use Rattle.std.specs.Prelude.{ℕ, zero, suc, ◌+◌, Bool, true, false, not, ◌&&◌, ◌||◌, ◌==◌, nat_lt}
use Rattle.std.specs.Prelude.{nat_le, List, [], ◌∷◌, ◌++◌, Option, Some, None, Result}
use Rattle.std.specs.Prelude.{if◌then◌else◌, is_some, filter, length}
use Rattle.std.specs.List.{list_any}
use Rattle.model.specs.FiniteMap.{FinMap, get, empty, insert}
use Rattle.std.specs.Ordering.{nat_cmp}
use Rattle.model.specs.State.{Bounds, Kernel, Process, Directory}
use Rattle.model.specs.Plan.{Errno}
use Rattle.model.specs.Changes.{all_applied, tidy, process_of}
use Rattle.model.specs.Calls.{Call, Answer}
use Rattle.model.specs.Steps.{Touch, touches, edits}
use Rattle.model.specs.Entries.{BeginFlags, Op, Do, Begin, End, Abort, Cause, Reply, Answers}
use Rattle.model.specs.Entries.{Refuses, Begun, Committed, GivenUp, Aborted, Busy, InTransaction}
use Rattle.model.specs.Entries.{NotInTransaction, HistoryFull, NoMemory, NoProcess, Entry, Executed}
use Rattle.model.specs.Entries.{answer_in}
use Rattle.model.specs.Clashes.{any_clash, clashes, doomed_touch}
use Rattle.model.specs.Forgetting.{Limit, limit_at}

-- A transaction's age is the place of its first begin. A
-- doomed one has the cause that it will be told.
pub data Status : Type 0 where
  gone : Status
  idle : Status
  live : BeginFlags → ℕ → List Executed → Status
  doomed : Cause → BeginFlags → ℕ → Status

-- After a beginning of a history. `phase` is idle, live or
-- doomed, and idle for those that are no process.
pub record Moment : Type 0 where
  pub committed : Kernel
  pub entries : ℕ
  pub phase : ℕ → Status

abbrev pub is_alive : Kernel → ℕ → Bool
is_alive k pid = is_some (get k.processes pid)

-- gone, for one that was never made or has ended
abbrev pub status : Moment → ℕ → Status
status m pid = if is_alive m.committed pid then m.phase pid else gone

-- the state before any entry: the empty root, and processes 1, 2,
-- .. with these priorities and empty tables
abbrev pub with_processes : ℕ → List ℕ → FinMap nat_cmp Process → FinMap nat_cmp Process
with_processes made [] m = m
with_processes made (p ∷ ps) m =
    with_processes (suc made) ps (insert m (suc made) (record { table = empty; priority = p }))

-- what a kernel is given when it is made: the priorities of its first processes, and its bounds
pub record Setup : Type 0 where
  pub priorities : List ℕ
  pub bounds : Bounds

abbrev pub start : ℕ → Setup → Kernel
start root setup = record {
  root = root;
  inodes = insert empty root (Directory empty);
  rights = empty;
  descriptions = empty;
  processes = with_processes 0 setup.priorities empty;
  made = length setup.priorities;
  bounds = setup.bounds;
}

abbrev pub at_start : ℕ → Setup → Moment
at_start root setup =
    record { committed = start root setup; entries = 0; phase = λ pid. idle }

-- the state after one executed call, untidied and tidied
abbrev pub after_one : ℕ → Executed → Kernel → Kernel
after_one pid e k = all_applied e.chosen (edits k pid e.call) k

abbrev pub after_step : ℕ → Executed → Kernel → Kernel
after_step pid e k = tidy (after_one pid e k)

-- and after a list of calls of one process
abbrev pub after_list : ℕ → List Executed → Kernel → Kernel
after_list pid [] k = k
after_list pid (e ∷ es) k = after_list pid es (after_step pid e k)

-- the touches of a list, each call's in the state that it finds
abbrev pub list_touches : ℕ → List Executed → Kernel → List Touch
list_touches pid [] k = []
list_touches pid (e ∷ es) k = touches k pid e.call ++ list_touches pid es (after_step pid e k)

-- the same without tidying, as a shadow holds it
abbrev pub loose : ℕ → List Executed → Kernel → Kernel
loose pid [] k = k
loose pid (e ∷ es) k = loose pid es (after_one pid e k)

abbrev pub loose_touches : ℕ → List Executed → Kernel → List Touch
loose_touches pid [] k = []
loose_touches pid (e ∷ es) k = touches k pid e.call ++ loose_touches pid es (after_one pid e k)

-- the new numbers of a list
abbrev pub numbers : List Executed → List ℕ
numbers [] = []
numbers (e ∷ es) = e.chosen ++ numbers es

abbrev pub calls_of : Status → List Executed
calls_of (live flags age calls) = calls
calls_of gone = []
calls_of idle = []
calls_of (doomed cause flags age) = []

abbrev pub calls_at : Moment → ℕ → List Executed
calls_at m pid = calls_of (m.phase pid)

-- what a process sees, and what its live transaction touched
abbrev pub seen_by : Moment → ℕ → Kernel
seen_by m pid = after_list pid (calls_at m pid) m.committed

abbrev pub held_by : Moment → ℕ → List Touch
held_by m pid = list_touches pid (calls_at m pid) m.committed

-- of a live process all touches count, of an idle one the writes
abbrev pub counted : Status → List Touch → List Touch
counted (live flags age calls) ts = ts
counted gone ts = filter (λ t. t.write) ts
counted idle ts = filter (λ t. t.write) ts
counted (doomed cause flags age) ts = filter (λ t. t.write) ts

abbrev pub counted_touches : Moment → ℕ → Call → List Touch
counted_touches m pid call = counted (m.phase pid) (touches (seen_by m pid) pid call)

-- the process numbers below a bound that pass a test: all of them rising, the lowest, and how many
abbrev pub all_below : (ℕ → Bool) → ℕ → List ℕ
all_below test zero = []
all_below test (suc n) = if test n then all_below test n ++ n ∷ [] else all_below test n

abbrev pub or_number : Option ℕ → Bool → ℕ → Option ℕ
or_number (Some found) here n = Some found
or_number None true n = Some n
or_number None false n = None

abbrev pub lowest_below : (ℕ → Bool) → ℕ → Option ℕ
lowest_below test zero = None
lowest_below test (suc n) = or_number (lowest_below test n) (test n) n

abbrev pub count_below : (ℕ → Bool) → ℕ → ℕ
count_below test zero = 0
count_below test (suc n) = (if test n then 1 else 0) + count_below test n

-- above all process numbers
abbrev pub bound : Moment → ℕ
bound m = suc m.committed.made

abbrev pub priority_of : Moment → ℕ → ℕ
priority_of m pid = (process_of m.committed pid).priority

-- whether the first began later: a plain call wins over each transaction of its priority
abbrev pub is_later : Status → Status → Bool
is_later (live flags age calls) (live other_flags other_age other_calls) = nat_lt other_age age
is_later _ _ = false

-- whether pid loses where it clashes with q
abbrev pub loses : Moment → ℕ → ℕ → Bool
loses m pid q =
    nat_lt (priority_of m pid) (priority_of m q)
    || ((priority_of m pid == priority_of m q) && is_later (m.phase pid) (m.phase q))

-- whether q is another one whose live transaction clashes with these touches
abbrev pub clashes_with : Moment → ℕ → List Touch → ℕ → Bool
clashes_with m pid ts q = not (q == pid) && any_clash ts (held_by m q)

abbrev pub loses_by : Moment → ℕ → Touch → ℕ → Bool
loses_by m pid t q = (not (q == pid) && loses m pid q) && clashes t (held_by m q)

-- the first touch by which the process loses, and the lowest process against which it does
abbrev pub cause_or : Touch → Option ℕ → Option Cause → Option Cause
cause_or t (Some q) later = Some (record { touch = t; other = q })
cause_or t None later = later

abbrev pub losing_cause : Moment → ℕ → List Touch → Option Cause
losing_cause m pid [] = None
losing_cause m pid (t ∷ ts) =
    cause_or t (lowest_below (loses_by m pid t) (bound m)) (losing_cause m pid ts)

-- the cause that q, doomed by these touches of pid, is told
abbrev pub doom_cause : Moment → ℕ → List Touch → ℕ → Cause
doom_cause m pid ts q = record { touch = doomed_touch ts (held_by m q); other = pid }

-- a transaction is given up, or begun anew with the same flags and age
abbrev pub settled : Status → Bool → Status
settled (live flags age calls) true = live flags age []
settled (live flags age calls) false = idle
settled (doomed cause flags age) true = live flags age []
settled (doomed cause flags age) false = idle
settled gone again = gone
settled idle again = idle

abbrev pub with_call : Status → Op → Option (Result Answer Errno) → List ℕ → Status
with_call (live flags age calls) (Do call) (Some answer) chosen =
    live flags age (calls ++ record { call = call; answer = answer; chosen = chosen } ∷ [])
with_call s op answer chosen = s

abbrev pub begun : Status → Op → ℕ → Status
begun idle (Begin flags) place = live flags place []
begun s op place = s

-- the status of an entry's own process after it
abbrev pub own_next : ℕ → Status → Op → Reply → List ℕ → Status
own_next place s op (Answers a) chosen = with_call s op (answer_in (Answers a)) chosen
own_next place s op (Refuses e) chosen = with_call s op (answer_in (Refuses e)) chosen
own_next place s op Begun chosen = begun s op place
own_next place s op Committed chosen = idle
own_next place s op (GivenUp again) chosen = settled s again
own_next place s op (Aborted why again) chosen = settled s again
own_next place s op (Busy cause) chosen = s
own_next place s op InTransaction chosen = s
own_next place s op NotInTransaction chosen = s
own_next place s op HistoryFull chosen = s
own_next place s op NoMemory chosen = s
own_next place s op NoProcess chosen = s

abbrev pub doom : Status → Cause → Status
doom (live flags age calls) cause = doomed cause flags age
doom gone cause = gone
doom idle cause = idle
doom (doomed first flags age) cause = doomed first flags age

-- the touches by which an entry dooms others
abbrev pub dooming_touches : Moment → ℕ → Op → List Touch
dooming_touches m pid (Do call) = counted_touches m pid call
dooming_touches m pid (Begin flags) = []
dooming_touches m pid End = []
dooming_touches m pid (Abort no_restart) = []

abbrev pub is_in : ℕ → List ℕ → Bool
is_in n ns = list_any (λ m. n == m) ns

abbrev pub next_phase : Moment → Entry → ℕ → Status
next_phase m e q =
    let own =
    if q == e.pid then own_next (m.entries + 1) (m.phase q) e.op e.reply e.chosen
    else m.phase q in
    if is_in q e.doomed then doom own (doom_cause m e.pid (dooming_touches m e.pid e.op) q) else own

-- the calls that an entry runs on the committed state: an executed
-- plain call, or a committed transaction's list
abbrev pub plain_calls : Call → Option (Result Answer Errno) → List ℕ → List Executed
plain_calls call (Some answer) chosen =
    record { call = call; answer = answer; chosen = chosen } ∷ []
plain_calls call None chosen = []

abbrev pub run_by : Status → Op → Reply → List ℕ → List Executed
run_by idle (Do call) reply chosen = plain_calls call (answer_in reply) chosen
run_by (live flags age calls) End Committed chosen = calls
run_by s op reply chosen = []

-- one entry more
abbrev pub next : Moment → Entry → Moment
next m e = record {
  committed = after_list e.pid (run_by (status m e.pid) e.op e.reply e.chosen) m.committed;
  entries = m.entries + 1;
  phase = next_phase m e;
}

abbrev pub after_from : Moment → List Entry → Moment
after_from m [] = m
after_from m (e ∷ es) = after_from (next m e) es

-- after a whole history
abbrev pub after : ℕ → Setup → List Entry → Moment
after root setup es = after_from (at_start root setup) es

-- a live or doomed transaction holds one place
abbrev pub holds_place : Status → Bool
holds_place (live flags age calls) = true
holds_place (doomed cause flags age) = true
holds_place gone = false
holds_place idle = false

abbrev pub reserved : Moment → ℕ
reserved m = count_below (λ q. holds_place (m.phase q)) (bound m)

-- whether so many places are free
abbrev pub has_free : Limit → Moment → ℕ → Bool
has_free limit m needed = nat_le (m.entries + reserved m + needed) (limit_at limit m.entries)
