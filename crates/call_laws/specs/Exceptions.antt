-- Where the laws of calls stop: what they leave out is false, each by a call that shows it.
use Rattle.std.specs.Prelude.{◌≡◌, ◌≢◌, ℕ, List, Some, true}
use Rattle.std.specs.List.{AllByRecursion}
use Rattle.model.specs.FiniteMap.{keys}
use Rattle.model.specs.State.{Kernel, A_directory, kind_of, names_of, links}
use Rattle.model.specs.Aspects.{Aspect, Names, Links}
use Rattle.model.specs.Changes.{tidy}
use Rattle.model.specs.Calls.{Call, Fork, own}
use Rattle.model.specs.Steps.{writes}
use Rattle.model.specs.Moments.{is_alive}
use Rattle.call_laws.specs.Objects.{IsThere, LeavesAlone}
use Rattle.call_laws.specs.WellFormed.{WellFormed}
use Rattle.call_laws.specs.CallLaws.{IsReady, changed}

-- a call of a process in a well-formed state
pub record ReadyCall : Type 0 where
  pub state : Kernel
  pub pid : ℕ
  pub call : Call
  pub chosen : List ℕ
  pub ready : IsReady WellFormed state pid call chosen

abbrev pub after : ReadyCall → Kernel
after r = changed r.state r.pid r.call r.chosen

-- It changes how many names give a directory, and marks nothing of
-- that: `IsThere` has `Links` for what may have several names.
pub record ChangesLinks (r : ReadyCall) (n : ℕ) : Type 0 where
  pub directory : kind_of r.state n ≡ Some A_directory
  pub unmarked : AllByRecursion (λ w. LeavesAlone w (Links n)) (writes r.state r.pid r.call)
  pub differ : links (after r) n ≢ links r.state n

-- It changes the names of a directory and writes an entry of it, but not
-- `Names`: so `LeavesAlone` has a case for that.
pub record ChangesNames (r : ReadyCall) (d : ℕ) : Type 0 where
  pub there : IsThere r.state (Names d)
  pub unwritten : AllByRecursion (λ w. w ≢ Names d) (writes r.state r.pid r.call)
  pub differ : keys (names_of (after r) d) ≢ keys (names_of r.state d)

-- Another process's fork would go another way after it: the laws on own
-- parts are for calls inside a transaction.
pub record ChangesBirths (r : ReadyCall) (q : ℕ) : Type 0 where
  pub alive : is_alive r.state q ≡ true
  pub other : q ≢ r.pid
  pub differ : own (after r) q Fork ≢ own r.state q Fork

-- What was there is gone once it is tidied: that what is there stays is a law of untidied states.
pub record Drops (r : ReadyCall) (a : Aspect) : Type 0 where
  pub there : IsThere r.state a
  pub gone : IsThere (tidy (after r)) a → ⊥

pub record ExceptionsAreNeeded : Type 0 where
  pub links : (r : ReadyCall) × (n : ℕ) × ChangesLinks r n
  pub names : (r : ReadyCall) × (d : ℕ) × ChangesNames r d
  pub births : (r : ReadyCall) × (q : ℕ) × ChangesBirths r q
  pub drops : (r : ReadyCall) × (a : Aspect) × Drops r a
