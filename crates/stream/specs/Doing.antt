-- What one operation comes to.
use Rattle.std.specs.Prelude.{◌≡◌, ◌≢◌, ℕ, true, false}
use Rattle.history.specs.Log.{Log}
use Rattle.ids.specs.declared.call.Op.{Op}
use Rattle.machine.specs.Shown.{moment}
use Rattle.machine.specs.Steps.{Added, has_place}
use Rattle.model.specs.Entries.{Reply}
use Rattle.model.specs.Moments.{status}
use Rattle.model.specs.Replies.{needed}
use Rattle.stream.specs.declared.doing.StepRefusal.{StepRefusal}
use Rattle.stream.specs.declared.doing.StepRefusal.TheVariants as refusal

-- One entry more, of this process and this operation.
pub record Took (old new : Log) (pid : ℕ) (op : Op) : Type 0 where
  pub reply : Reply
  pub added : Added old new pid op reply

-- Why an operation was refused: its places are not free, or they are, and it needs one, and memory was
-- refused.
abbrev pub Refused : Log → ℕ → Op → StepRefusal → Type 0
Refused log pid op refusal.HistoryFull = has_place log pid op ≡ false
Refused log pid op refusal.NoMemory =
    (has_place log pid op ≡ true) × (needed (status (moment log) pid) op ≢ 0)
