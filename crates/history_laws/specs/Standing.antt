-- What stands after a legal history.
use Rattle.std.specs.Prelude.{◌≡◌, ◌≢◌, ℕ, ◌+◌, ◌<◌, ◌≤◌, true, false, Option, Some, None}
use Rattle.std.specs.List.{AllByRecursion}
use Rattle.model.specs.Changes.{tidy}
use Rattle.model.specs.Steps.{IsNowhere}
use Rattle.model.specs.Entries.{BeginFlags, is_inside}
use Rattle.model.specs.Clashes.{any_clash}
use Rattle.model.specs.Forgetting.{Limit, limit_at}
use Rattle.model.specs.Moments.{Status, gone, idle, live, doomed, Moment, is_alive, is_in, bound}
use Rattle.model.specs.Moments.{holds_place, reserved, calls_at, held_by, numbers, loose}
use Rattle.call_laws.specs.WellFormed.{WellFormed}
use Rattle.history_laws.specs.Each.{AfterEach}
use Rattle.call_laws.specs.Untidied.{Goes}

-- the flags and the age of a transaction, live or doomed
abbrev pub flags_of : Status → Option BeginFlags
flags_of (live flags age calls) = Some flags
flags_of (doomed cause flags age) = Some flags
flags_of gone = None
flags_of idle = None

abbrev pub age_of : Status → Option ℕ
age_of (live flags age calls) = Some age
age_of (doomed cause flags age) = Some age
age_of gone = None
age_of idle = None

-- The committed state is well formed, and nothing in it is unreached.
pub record CommittedStands (m : Moment) : Type 0 where
  pub well : WellFormed m.committed
  pub tidied : tidy m.committed ≡ m.committed

-- A transaction, live or doomed, is of a living process, whose number is below the bound. No
-- process is `gone` by its phase.
pub record PhasesStand (m : Moment) : Type 0 where
  pub processes : (q : ℕ) → is_alive m.committed q ≡ false → m.phase q ≡ idle
  pub alive : (q : ℕ) → holds_place (m.phase q) ≡ true → is_alive m.committed q ≡ true
  pub below : (q : ℕ) → holds_place (m.phase q) ≡ true → q < bound m
  pub here : (q : ℕ) → m.phase q ≢ gone

-- Each live list runs from the committed state untidied, each call ready in the state that it
-- finds; what it comes to is well formed and has its process. It is of calls that transactions
-- support, and its new numbers are nowhere in the committed state.
pub record ListStands (m : Moment) (q : ℕ) : Type 0 where
  pub goes : Goes WellFormed m.committed q (calls_at m q)
  pub well : WellFormed (loose q (calls_at m q) m.committed)
  pub alive : is_alive m.committed q ≡ true → is_alive (loose q (calls_at m q) m.committed) q ≡ true
  pub inside : AllByRecursion (λ d. is_inside d.call ≡ true) (calls_at m q)
  pub nowhere : (n : ℕ) → is_in n (numbers (calls_at m q)) ≡ true → IsNowhere m.committed n

-- No two live lists clash or number the same.
pub record ListsStandApart (m : Moment) (p q : ℕ) : Type 0 where
  pub no_clash : any_clash (held_by m p) (held_by m q) ≡ false
  pub numbers_apart : (n : ℕ) → is_in n (numbers (calls_at m p)) ≡ true
      → is_in n (numbers (calls_at m q)) ≡ false

-- A transaction is as old as the place of an entry, and no two are of one age.
pub record AgesStand (m : Moment) : Type 0 where
  pub placed : (q a : ℕ) → age_of (m.phase q) ≡ Some a → a ≤ m.entries
  pub differ : (p q a : ℕ) → p ≢ q → age_of (m.phase p) ≡ Some a → age_of (m.phase q) ≢ Some a

pub record Standing (limit : Limit) (m : Moment) : Type 0 where
  pub committed : CommittedStands m
  pub phases : PhasesStand m
  pub lists : (q : ℕ) → ListStands m q
  pub apart : (p q : ℕ) → p ≢ q → ListsStandApart m p q
  pub ages : AgesStand m
  pub places : m.entries + reserved m ≤ limit_at limit m.entries

abbrev pub WhatStands : Type 0
WhatStands = AfterEach Standing
