-- What is kept of each process after a history, what an operation builds on, and how fields change.
use Rattle.std.specs.Prelude.{◌≡◌, ◌≢◌, ◌<◌, ◌≤◌, ◌==◌, ◌⊎◌, ℕ, suc, Bool, true, false}
use Rattle.std.specs.Prelude.{List, [], ◌∷◌, ◌++◌, length, sum, Option, None, Some, is_some}
use Rattle.std.specs.Prelude.{if◌then◌else◌}
use Rattle.ids.specs.declared.limits.TheConstants.{LARGEST_FILE, MAX_PROCESSES}
use Rattle.history.specs.Log.{Log}
use Rattle.model.specs.State.{Kernel}
use Rattle.model.specs.Entries.{Op, Do, Reply, Entry, BeginFlags, Cause, Executed}
use Rattle.model.specs.Entries.{is_inside}
use Rattle.model.specs.Moments.{Moment, Status, gone, idle, live, doomed, bound, status}
use Rattle.model.specs.Moments.{calls_at, counted_touches, seen_by}
use Rattle.model.specs.Legal.{Legal}
use Rattle.contention.specs.Contenders.{Contender, contender_at, contender_of, live_age, nobody}
use Rattle.contention.specs.declared.Doomed.{Doomed}
use Rattle.records.specs.Touches.{with_touches}
use Rattle.history_laws.specs.Limits.{most_processes}
use Rattle.commit.specs.Views.{Shown as Transactions}
use Rattle.commit.specs.Views.{View, view_at, gone_slot, idle_slot, live_slot, doomed_slot}
use Rattle.kernel.specs.declared.state.State.{State}
use Rattle.machine.specs.Shown.{Shown, limit_of, moment, setup_of}
use Rattle.machine.specs.Steps.{IsStep, entry_of, has_place, is_no_entry, with_entry}
use Rattle.model.specs.Effects.{Effect, effects, all_done}
use Rattle.commit.specs.Dooming.{with_doom}
use Rattle.commit.specs.declared.process_state.Standing.{Standing}
use Rattle.commit.specs.declared.process_state.Standing.TheVariants.{Gone, Idle, Live, Doomed as Is_doomed}
use Rattle.model.specs.Changes.{Edit, New_process, End_process, applied, process_of}
use Rattle.model.specs.Changes.{tidy}
use Rattle.model.specs.Calls.{Call}
use Rattle.model.specs.Steps.{Touch, edits}
use Rattle.notes.specs.Steps.{CanEdit}
use Rattle.shadow.specs.Claims.{HaveParents}
use Rattle.commit.specs.Edits.{with_change}

abbrev pub shown_by : Status → List Effect → View
shown_by gone changes = gone_slot
shown_by idle changes = idle_slot
shown_by (live flags age calls) changes = live_slot flags age changes
shown_by (doomed cause flags age) changes = doomed_slot cause flags age

-- what a live transaction has changed
abbrev pub changes_of : Moment → ℕ → List Effect
changes_of m q = effects q (calls_at m q) m.committed

-- what is kept of a process: its slot, and what it holds
pub record Part : Type 0 where
  pub slot : View
  pub held : Contender

abbrev pub part_of : Moment → ℕ → Part
part_of m q = record { slot = shown_by (status m q) (changes_of m q); held = contender_of m q }

-- a live transaction is doomed: its changes, its age and its touches are gone
abbrev pub doomed_part : Doomed → Part → Part
doomed_part d p =
    record { slot = with_doom d p.slot; held = record (p.held) { age = None; touches = [] } }

-- what becomes of q's part when these are doomed, one after the other
abbrev pub doomed_by : List Doomed → ℕ → Part → Part
doomed_by [] q p = p
doomed_by (d ∷ ds) q p = doomed_by ds q (if q == d.pid then doomed_part d p else p)

-- the fields, as contracts see them
pub record Fields : Type 0 where
  pub log : Log
  pub held : List Contender
  pub transactions : Transactions
  pub open transactions use *

abbrev pub fields : State → Fields
fields s = record { log = s.history; held = s.contenders; transactions = s.transactions }

abbrev pub shown : Fields → Shown
shown f = record { log = f.log; state = f.stable.state }

abbrev pub part_at : Fields → ℕ → Part
part_at f q = record { slot = view_at f.slots q; held = contender_at f.held q }

-- The history is legal, and each field shows what it comes to.
pub record IsConsistent (f : Fields) : Type 0 where
  pub legal : Legal 0 (setup_of f.log) (limit_of f.log) f.log.entries
  pub state : f.stable.state ≡ (moment f.log).committed
  pub slot_count : length f.slots ≡ bound (moment f.log)
  pub held_count : length f.held ≡ bound (moment f.log)
  pub parts : (q : ℕ) → part_at f q ≡ part_of (moment f.log) q
  pub few : length f.log.priorities ≤ most_processes
  pub low : f.log.bounds.file_bytes ≤ LARGEST_FILE
  pub forgot : sum f.log.forgotten ≤ length f.log.entries

-- such a process has a slot, and its part of the touches
pub record IsIn (f : Fields) (pid : ℕ) : Type 0 where
  pub slot : pid < length f.slots
  pub held : pid < length f.held

-- What a step that can be refused memory leaves where it was.
pub record Unchanged (old new : Fields) : Type 0 where
  pub holds : IsConsistent new
  pub same : shown new ≡ shown old

-- a step after which the fields are consistent
pub record Does (old new : Fields) (pid : ℕ) (op : Op) (reply : Reply) : Type 0 where
  pub holds : IsConsistent new
  pub step : IsStep (shown old) (shown new) pid op reply

-- These are doomed, one after the other, and nothing else has changed.
pub record Dooms (old new : Fields) (ds : List Doomed) : Type 0 where
  pub log : new.log ≡ old.log
  pub state : new.stable.state ≡ old.stable.state
  pub slot_count : length new.slots ≡ length old.slots
  pub held_count : length new.held ≡ length old.held
  pub parts : (q : ℕ) → part_at new q ≡ doomed_by ds q (part_at old q)

-- One process's part has become this and the committed state that, and these others are doomed.
pub record Moves (old new : Fields) (pid : ℕ) (part : Part) (committed : Kernel) (ds : List Doomed)
    : Type 0 where
  pub log : new.log ≡ old.log
  pub state : new.stable.state ≡ committed
  pub slot_count : length new.slots ≡ length old.slots
  pub held_count : length new.held ≡ length old.held
  pub own : part_at new pid ≡ part
  pub others : (q : ℕ) → q ≢ pid → part_at new q ≡ doomed_by ds q (part_at old q)

-- The entry has its place, and with it the fields are consistent: they show already what it does.
pub record CanEnter (now : Fields) (e : Entry) : Type 0 where
  pub place : has_place now.log e.pid e.op ≡ true
  pub answers : is_no_entry e.reply ≡ false
  pub forgot : sum now.log.forgotten ≤ length now.log.entries
  pub holds : IsConsistent (record now { log = with_entry now.log e })

abbrev pub Stands : Standing → Status → Type 0
Stands Gone s = s ≡ gone
Stands Idle s = s ≡ idle
Stands (Live flags age) s = (calls : List Executed) × (s ≡ live flags age calls)
Stands (Is_doomed flags age) s = (cause : Cause) × (s ≡ doomed cause flags age)

-- The operation finds its places, and its process stands so.
pub record Asks (f : Fields) (pid : ℕ) (standing : Standing) (op : Op) : Type 0 where
  pub holds : IsConsistent f
  pub stands : Stands standing (status (moment f.log) pid)
  pub place : has_place f.log pid op ≡ true

-- in no transaction, or in a live one
abbrev pub calling : Option (BeginFlags × ℕ) → Standing
calling None = Idle
calling (Some within) = Live within.0 within.1

-- a call of a process in no transaction, or one of a live transaction that transactions support
pub record Calls (f : Fields) (pid : ℕ) (within : Option (BeginFlags × ℕ)) (call : Call)
    : Type 0 where
  pub asks : Asks f pid (calling within) (Do call)
  pub open asks use *
  pub supported : is_some within ≡ true → is_inside call ≡ true

-- live without calls, or idle
abbrev pub settled_as : Bool → BeginFlags → ℕ → Status
settled_as again flags age = if again then live flags age [] else idle

-- the part of a process with this priority and status and no changes
abbrev pub cleared : ℕ → Status → Part
cleared priority s =
    record { slot = shown_by s []; held = record nobody { priority = priority; age = live_age s } }

-- an entry without new numbers that dooms nobody
abbrev pub plain : ℕ → Op → Reply → Entry
plain pid op reply = entry_of pid op reply [] []

-- Such an entry can be added when its process's transaction has begun, has begun anew, or is gone.
pub record CanEndTransaction (now : Fields) (pid : ℕ) (op : Op) (reply : Reply) (again : Bool)
    (flags : BeginFlags) (age : ℕ) : Type 0 where
  pub is_in : IsIn now pid
  pub enters : (g : Fields)
      → Moves now g pid (cleared (contender_at now.held pid).priority (settled_as again flags age))
      now.stable.state []
      → CanEnter g (plain pid op reply)

-- what a process edits to make a child, and to end
abbrev pub IsBirth : Kernel → ℕ → List Edit → Type 0
IsBirth k pid es = (k.made < MAX_PROCESSES)
    × (pipes : List ℕ) × (es ≡ New_process (suc k.made) pid pipes ∷ [])

abbrev pub IsExit : ℕ → List Edit → Type 0
IsExit pid es = (pipes : List ℕ) × (es ≡ End_process pid pipes ∷ [])

-- Edits of what is committed and of what a transaction sees, or a process that is made or ends
-- outside of transactions.
abbrev pub CanChange : Kernel → ℕ → Option (BeginFlags × ℕ) → List Edit → Type 0
CanChange k pid (Some within) es = CanEdit es
CanChange k pid None es = CanEdit es ⊎ (IsBirth k pid es ⊎ IsExit pid es)

-- what the call touches, as far as it counts, and edits, which can be done
pub record Plans (f : Fields) (pid : ℕ) (within : Option (BeginFlags × ℕ)) (call : Call)
    (ts : List Touch) (es : List Edit)
    : Type 0 where
  pub touches : ts ≡ counted_touches (moment f.log) pid call
  pub edits : es ≡ edits (seen_by (moment f.log) pid) pid call
  pub kinds : CanChange f.stable.state pid within es
  pub parents : HaveParents f.stable.reserves es

-- the same, where of a process in no transaction nobody asks what it touches
pub record Prepares (f : Fields) (pid : ℕ) (within : Option (BeginFlags × ℕ)) (call : Call)
    (ts : List Touch) (es : List Edit)
    : Type 0 where
  pub touches : is_some within ≡ true → ts ≡ counted_touches (moment f.log) pid call
  pub edits : es ≡ edits (seen_by (moment f.log) pid) pid call
  pub kinds : CanChange f.stable.state pid within es
  pub parents : HaveParents f.stable.reserves es

-- one process more, with this priority and in no transaction
abbrev pub with_child : ℕ → Fields → Fields
with_child priority f = record f {
  held = f.held ++ record nobody { priority = priority } ∷ [];
  transactions = record (f.transactions) { slots = f.slots ++ idle_slot ∷ [] };
}

-- whether edits begin with such a one
abbrev pub first_is : (Edit → Bool) → List Edit → Bool
first_is test [] = false
first_is test (e ∷ es) = test e

abbrev pub makes_process : Edit → Bool
makes_process (New_process child parent pipes) = true
makes_process e = false

abbrev pub ends_process : Edit → Bool
ends_process (End_process pid pipes) = true
ends_process e = false

-- with the child that a process in no transaction makes by these edits
abbrev pub with_born : Option (BeginFlags × ℕ) → ℕ → List Edit → Fields → Fields
with_born None pid es f =
    if first_is makes_process es then with_child (process_of f.stable.state pid).priority f else f
with_born (Some within) pid es f = f

-- One process more: a process has made a child.
pub record Born (old new : Fields) (pid : ℕ) : Type 0 where
  pub log : new.log ≡ old.log
  pub state : (pipes : List ℕ) → new.stable.state
      ≡ applied [] (New_process (suc old.stable.state.made) pid pipes) old.stable.state
  pub slots : new.slots ≡ (with_child (process_of old.stable.state pid).priority old).slots
  pub held : new.held ≡ (with_child (process_of old.stable.state pid).priority old).held

-- a number of no process
abbrev pub no_part : Part
no_part = record { slot = gone_slot; held = nobody }

abbrev pub part_after : List Edit → Part → Part
part_after es p = if first_is ends_process es then no_part else p

-- A change of a process in no transaction is made at once in the committed state; another is kept,
-- with what it touched, each touch once.
abbrev pub part_with : Option (BeginFlags × ℕ) → Effect → List Touch → Part → Part
part_with None d ts p = part_after d.edits p
part_with (Some within) d ts p = record {
  slot = with_change d p.slot;
  held = record (p.held) { touches = with_touches p.held.touches ts };
}

abbrev pub state_with : Option (BeginFlags × ℕ) → Effect → Kernel → Kernel
state_with None d k = tidy (all_done (d ∷ []) k)
state_with (Some within) d k = k
