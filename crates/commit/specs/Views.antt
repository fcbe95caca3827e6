-- What each process's transaction is, as contracts see it.
use Rattle.std.specs.Prelude.{◌≡◌, ◌≢◌, ◌<◌, ℕ, suc, Bool, true, false, List, [], get_or, length}
use Rattle.std.specs.Prelude.{Option, Some, None}
use Rattle.model.specs.Entries.{BeginFlags, Cause}
use Rattle.model.specs.Effects.{Effect}
use Rattle.shadow.specs.Committed.{Committed}

-- no process; one in no transaction; a live one's flags, age and changes; a doomed one's cause,
-- flags and age
pub data View : Type 0 where
  gone_slot : View
  idle_slot : View
  live_slot : BeginFlags → ℕ → List Effect → View
  doomed_slot : Cause → BeginFlags → ℕ → View

-- the view of each process, at its number, and what is committed
pub record Shown : Type 0 where
  pub slots : List View
  pub stable : Committed

-- a number behind the last is no process
abbrev pub view_at : List View → ℕ → View
view_at views q = get_or views q gone_slot

-- the changes that a view has
abbrev pub changes_in : View → List Effect
changes_in gone_slot = []
changes_in idle_slot = []
changes_in (live_slot flags age changes) = changes
changes_in (doomed_slot cause flags age) = []

-- whether it is a live transaction's
abbrev pub is_live_slot : View → Bool
is_live_slot (live_slot flags age changes) = true
is_live_slot gone_slot = false
is_live_slot idle_slot = false
is_live_slot (doomed_slot cause flags age) = false

-- whether it is a transaction's, live or doomed, which holds a place of the history
abbrev pub is_within : View → Bool
is_within gone_slot = false
is_within idle_slot = false
is_within (live_slot flags age changes) = true
is_within (doomed_slot cause flags age) = true

-- the cause of a doomed one
abbrev pub cause_of : View → Option Cause
cause_of (doomed_slot cause flags age) = Some cause
cause_of gone_slot = None
cause_of idle_slot = None
cause_of (live_slot flags age changes) = None

-- one process's view is this now, and the others' are as before
pub record Shows (old new : List View) (pid : ℕ) (v : View) : Type 0 where
  pub count : length new ≡ length old
  pub own : view_at new pid ≡ v
  pub others : (q : ℕ) → q ≢ pid → view_at new q ≡ view_at old q

-- all views are as before
pub record SameViews (old new : List View) : Type 0 where
  pub count : length new ≡ length old
  pub each : (q : ℕ) → view_at new q ≡ view_at old q

-- the first views: of no process, and then of so many idle ones
pub record AreFirst (views : List View) (count : ℕ) : Type 0 where
  pub none : view_at views 0 ≡ gone_slot
  pub made : (q : ℕ) → q < count → view_at views (suc q) ≡ idle_slot
