-- The reply and the doomed of each operation, computed: all but the new
-- numbers are a function of what stood before.
use Rattle.std.specs.Prelude.{ℕ, Bool, true, false, not, List, [], ◌∷◌, Option, Some, None, Result}
use Rattle.std.specs.Prelude.{Ok, Err, if◌then◌else◌}
use Rattle.model.specs.Plan.{Errno}
use Rattle.model.specs.Calls.{Call, Answer}
use Rattle.model.specs.Steps.{reply}
use Rattle.model.specs.Entries.{BeginFlags, Op, Do, Begin, End, Abort, Cause, Clash, Reply, Answers}
use Rattle.model.specs.Entries.{Refuses, Begun, Committed, GivenUp, Aborted, InTransaction}
use Rattle.model.specs.Entries.{NotInTransaction, HistoryFull, NoProcess, Entry, is_inside}
use Rattle.model.specs.Forgetting.{Limit}
use Rattle.model.specs.Moments.{Status, gone, idle, live, doomed, Moment, status, seen_by}
use Rattle.model.specs.Moments.{counted_touches, all_below, bound, losing_cause, clashes_with, next}
use Rattle.model.specs.Moments.{has_free}
use Rattle.model.specs.Legal.{lost, restarts, unsupported}

pub record Spoken : Type 0 where
  pub reply : Reply
  pub doomed : List ℕ

abbrev pub alone : Reply → Spoken
alone reply = record { reply = reply; doomed = [] }

abbrev pub answered : Result Answer Errno → Reply
answered (Ok a) = Answers a
answered (Err e) = Refuses e

abbrev pub outcome_for : Moment → ℕ → Status → Call → Option Cause → Spoken
outcome_for m pid s call (Some cause) = alone (lost s cause)
outcome_for m pid s call None = record {
  reply = answered (reply (seen_by m pid) pid call);
  doomed = all_below (clashes_with m pid (counted_touches m pid call)) (bound m);
}

abbrev pub inside_for : Moment → ℕ → Status → BeginFlags → Call → Bool → Spoken
inside_for m pid s flags call true =
    outcome_for m pid s call (losing_cause m pid (counted_touches m pid call))
inside_for m pid s flags call false = alone (unsupported flags)

abbrev pub spoken_at : Limit → Moment → ℕ → Status → Op → Spoken
spoken_at limit m pid (doomed cause flags age) op =
    alone (Aborted (Clash cause) (restarts limit m flags op))
spoken_at limit m pid (live flags age calls) End = alone Committed
spoken_at limit m pid (live flags age calls) (Abort no_restart) =
    alone (GivenUp (restarts limit m flags (Abort no_restart)))
spoken_at limit m pid gone op = alone NoProcess
spoken_at limit m pid idle (Begin flags) = alone Begun
spoken_at limit m pid (live flags age calls) (Begin new) = alone InTransaction
spoken_at limit m pid idle End = alone NotInTransaction
spoken_at limit m pid idle (Abort no_restart) = alone NotInTransaction
spoken_at limit m pid (live flags age calls) (Do call) =
    inside_for m pid (live flags age calls) flags call (is_inside call)
spoken_at limit m pid idle (Do call) =
    outcome_for m pid idle call (losing_cause m pid (counted_touches m pid call))

-- how many free places an operation needs
abbrev pub needed : Status → Op → ℕ
needed (doomed cause flags age) op = 0
needed (live flags age calls) End = 0
needed (live flags age calls) (Abort no_restart) = 0
needed (live flags age calls) (Begin new) = 1
needed (live flags age calls) (Do call) = 1
needed gone op = 1
needed idle (Begin flags) = 2
needed idle End = 1
needed idle (Abort no_restart) = 1
needed idle (Do call) = 1

-- an operation with the new numbers that it would take
pub record Asked : Type 0 where
  pub pid : ℕ
  pub op : Op
  pub chosen : List ℕ

abbrev pub entry_for : Limit → Moment → Asked → Entry
entry_for limit m a =
    let said = spoken_at limit m a.pid (status m a.pid) a.op in
    record { pid = a.pid; op = a.op; reply = said.reply; chosen = a.chosen; doomed = said.doomed }

abbrev pub is_full : Limit → Moment → Asked → Bool
is_full limit m a = not (has_free limit m (needed (status m a.pid) a.op))

-- an operation that finds no place is answered so, and is no entry
abbrev pub moment_for : Limit → Moment → List Asked → Moment
moment_for limit m [] = m
moment_for limit m (a ∷ rest) =
    moment_for limit (if is_full limit m a then m else next m (entry_for limit m a)) rest

abbrev pub said_for : Limit → Moment → Asked → Spoken
said_for limit m a =
    if is_full limit m a then alone HistoryFull else spoken_at limit m a.pid (status m a.pid) a.op

abbrev pub all_said : Limit → Moment → List Asked → List Spoken
all_said limit m [] = []
all_said limit m (a ∷ rest) =
    said_for limit m a
    ∷ all_said limit (if is_full limit m a then m else next m (entry_for limit m a)) rest
