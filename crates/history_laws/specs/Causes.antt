-- What the losers of conflicts are told.
use Rattle.std.specs.Prelude.{◌≡◌, ◌≢◌, ℕ, List, true, Some}
use Rattle.std.specs.List.{Contains}
use Rattle.model.specs.Steps.{Touch}
use Rattle.model.specs.Entries.{Cause}
use Rattle.model.specs.Clashes.{clash, clashes}
use Rattle.model.specs.Moments.{Moment, is_in, held_by, dooming_touches, doom_cause, loses}
use Rattle.model.specs.Moments.{losing_cause}
use Rattle.history_laws.specs.Each.{AtEach}

-- a touch that q's live list holds, and that clashes with one of these
pub record IsTold (m : Moment) (q : ℕ) (ts : List Touch) (told : Touch) : Type 0 where
  pub held : Contains (held_by m q) told
  pub by : Touch
  pub among : Contains ts by
  pub clashing : clash by told ≡ true

-- A doomed process is told a touch of its own, which clashes with one of the caller's.
abbrev pub DoomedAreToldTheirs : Type 0
DoomedAreToldTheirs = AtEach (λ m e. (q : ℕ) → is_in q e.doomed ≡ true
    → IsTold m q (dooming_touches m e.pid e.op)
    (doom_cause m e.pid (dooming_touches m e.pid e.op) q).touch)

-- a touch of the loser, which clashes with the winner's
pub record IsLost (m : Moment) (pid : ℕ) (ts : List Touch) (cause : Cause) : Type 0 where
  pub among : Contains ts cause.touch
  pub other : cause.other ≢ pid
  pub loses : loses m pid cause.other ≡ true
  pub clashing : clashes cause.touch (held_by m cause.other) ≡ true

-- A caller that loses is told a touch of its own, and a process that it loses to by that touch.
abbrev pub LosersAreToldTheirs : Type 0
LosersAreToldTheirs = (m : Moment) (pid : ℕ) (ts : List Touch) (cause : Cause)
    → losing_cause m pid ts ≡ Some cause → IsLost m pid ts cause
