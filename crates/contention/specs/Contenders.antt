-- What the contention manager keeps of each process.
use Rattle.std.specs.Prelude.{◌≡◌, ◌≢◌, ℕ, List, [], Option, Some, None, length, get_or}
use Rattle.model.specs.Steps.{Touch}
use Rattle.model.specs.Moments.{Status, gone, idle, live, doomed}
use Rattle.model.specs.Moments.{Moment, bound, priority_of, held_by}
use Rattle.model.specs.Modes.{ListMode}
use Rattle.records.specs.Touches.{distinct}
use Rattle.list_modes.specs.Holding.{mode_among}
use Rattle.marked_records.specs.Marks.{marks_at}

-- a process: its priority; of a live transaction its age and all that it touched, each touch once
pub record Contender : Type 0 where
  pub priority : ℕ
  pub age : Option ℕ
  pub touches : List Touch

-- a number that no process has
abbrev pub nobody : Contender
nobody = record { priority = 0; age = None; touches = [] }

abbrev pub contender_at : List Contender → ℕ → Contender
contender_at all q = get_or all q nobody

abbrev pub live_age : Status → Option ℕ
live_age (live flags age calls) = Some age
live_age gone = None
live_age idle = None
live_age (doomed cause flags age) = None

-- a process after a history
abbrev pub contender_of : Moment → ℕ → Contender
contender_of m q = record {
  priority = priority_of m q;
  age = live_age (m.phase q);
  touches = distinct (held_by m q);
}

-- all are kept as they stand after a history
pub record AreContendersOf (m : Moment) (all : List Contender) : Type 0 where
  pub count : length all ≡ bound m
  pub each : (q : ℕ) → contender_at all q ≡ contender_of m q

-- one process has become this contender, and the others are as before
pub record SetsContender (old new : List Contender) (pid : ℕ) (contender : Contender) : Type 0 where
  pub count : length new ≡ length old
  pub own : contender_at new pid ≡ contender
  pub others : (q : ℕ) → q ≢ pid → contender_at new q ≡ contender_at old q

-- the list mode of a directory, by what each has touched
abbrev pub mode_by_contenders : List Contender → ℕ → ListMode
mode_by_contenders all d = mode_among (λ q. (marks_at d (contender_at all q).touches).names_read)
    (λ q. (marks_at d (contender_at all q).touches).entry_written) (length all)
