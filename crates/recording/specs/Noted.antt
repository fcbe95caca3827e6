-- What is noted of a history.
use Rattle.std.specs.Prelude.{◌≡◌, ℕ, false, List, [], ◌∷◌, Option, Some, None, IfSome}
use Rattle.std.specs.Prelude.{◌≤◌, length, if◌then◌else◌}
use Rattle.ids.specs.declared.limits.TheConstants.{MAX_PROCESSES}
use Rattle.history.specs.Log.{Log}
use Rattle.model.specs.Entries.{Op, Do, Begin, End, Abort, Reply, HistoryFull, NoMemory, Entry}
use Rattle.model.specs.Moments.{has_free}
use Rattle.machine.specs.Shown.{Shown, Kept, limit_of, moment}
use Rattle.machine.specs.Steps.{with_entry}
use Rattle.redo_records.specs.Recording.{Follows, HasRoom}
use Rattle.redo_records.specs.declared.recorder.Record.{Record}
use Rattle.redo_records.specs.declared.recorder.Standing.{Standing}
use Rattle.redo_records.specs.declared.recorder.Standing.TheVariants.{Idle, Lives, IsDoomed}
use Rattle.recording.specs.Recorded.{AreRest}
use Rattle.recording.specs.declared.notes.Notes.{Notes}

-- The recorder has followed the history, and what waits are its records that nobody has taken.
pub record Keep (log : Log) (notes : Notes) : Type 0 where
  pub follows : Follows (moment log) notes.recorder
  pub waiting : AreRest log notes.taken notes.waiting.items

-- It is so unless something was lost.
abbrev pub AreFaithful : Log → Notes → Type 0
AreFaithful log notes = notes.lost ≡ false → Keep log notes

-- what holds of each machine that records
pub record IsRecorded (v : Shown) (notes : Notes) : Type 0 where
  pub kept : Kept v
  pub faithful : AreFaithful v.log notes
  pub few : length v.log.priorities ≤ MAX_PROCESSES

-- a record that an entry completes, if it does
abbrev pub made_of : Option Record → List Record
made_of (Some r) = r ∷ []
made_of None = []

-- The history has one entry more than was noted, for which there is room. What was copied of an
-- operation is its own.
pub record CanNote (log : Log) (notes : Notes) (op : Option Op) : Type 0 where
  pub old : Log
  pub entry : Entry
  pub is : log ≡ with_entry old entry
  pub room : HasRoom notes.recorder entry.pid entry.op
  pub copy : IfSome op (λ copy. copy ≡ entry.op)
  pub keep : Keep old notes

-- how many places of the history an operation of such a process needs, which lives
abbrev pub needed_by : Standing → Op → ℕ
needed_by IsDoomed op = 0
needed_by Lives (Begin flags) = 1
needed_by Lives (Do call) = 1
needed_by Lives End = 0
needed_by Lives (Abort no_restart) = 0
needed_by Idle (Begin flags) = 2
needed_by Idle (Do call) = 1
needed_by Idle End = 1
needed_by Idle (Abort no_restart) = 1

-- how many places of the history the transaction of such a process holds
abbrev pub places_of : Standing → ℕ
places_of Idle = 0
places_of Lives = 1
places_of IsDoomed = 1

-- what an operation is answered that was refused memory, and needs so many places
abbrev pub refusal : Log → ℕ → Reply
refusal log needed =
    if has_free (limit_of log) (moment log) needed then NoMemory else HistoryFull
