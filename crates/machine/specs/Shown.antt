-- What a contract sees of a kernel, and what holds of each.
use Rattle.std.specs.Prelude.{◌≡◌, ◌≤◌, ℕ, Bool, true, false, length, sum}
use Rattle.history.specs.Log.{Log}
use Rattle.model.specs.State.{Kernel as State}
use Rattle.model.specs.Forgetting.{Limit}
use Rattle.model.specs.Moments.{Status, gone, idle, live, doomed}
use Rattle.model.specs.Moments.{Moment, Setup, after}
use Rattle.model.specs.Legal.{Legal}

-- its history, and the committed state
pub record Shown : Type 0 where
  pub log : Log
  pub state : State

-- how many entries there may be: as many may be kept, and so many were forgotten, each time
abbrev pub limit_of : Log → Limit
limit_of log = record { capacity = log.limit; forgotten = log.forgotten }

-- what the kernel was given when it was made
abbrev pub setup_of : Log → Setup
setup_of log = record { priorities = log.priorities; bounds = log.bounds }

-- What the history comes to: the committed state, and each process's status. The root has number 0.
abbrev pub moment : Log → Moment
moment log = after 0 (setup_of log) log.entries

-- whether a process is in a live transaction
abbrev pub is_live_status : Status → Bool
is_live_status (live flags age calls) = true
is_live_status gone = false
is_live_status idle = false
is_live_status (doomed cause flags age) = false

abbrev pub is_live : Moment → ℕ → Bool
is_live m pid = is_live_status (m.phase pid)

-- The history is legal, the state is what it committed, and what was forgotten are entries of it.
pub record Kept (v : Shown) : Type 0 where
  pub legal : Legal 0 (setup_of v.log) (limit_of v.log) v.log.entries
  pub state : v.state ≡ (moment v.log).committed
  pub forgot : sum v.log.forgotten ≤ length v.log.entries
