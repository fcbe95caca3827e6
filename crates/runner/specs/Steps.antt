-- How far a run has come with its steps.
use Rattle.std.specs.Prelude.{◌≡◌, ℕ, List, []}
use Rattle.std.specs.Prelude.{map, take, slice_get, Option, Some}
use Rattle.std.specs.Io.KnownBytes.{append_known}
use Rattle.device.specs.Device.{IsPart}
use Rattle.ids.specs.declared.call.Op.{Op}
use Rattle.ids.specs.declared.entry.Entry.{Entry}
use Rattle.ids.specs.declared.limits.Limits.{Limits}
use Rattle.machine.specs.Shown.{Shown, Kept}
use Rattle.history.specs.Log.{Log}
use Rattle.transcript.specs.Line.{transcript}
use Rattle.stream.specs.Doing.{Refused}
use Rattle.stream.specs.declared.doing.StepRefusal.{StepRefusal}
use Rattle.stream.specs.declared.doing.StepRefusal.TheVariants as refusal
use Rattle.runner.specs.declared.fault.RunFault.{RunFault}
use Rattle.runner.specs.declared.fault.RunFault.TheVariants.{Write, HistoryFull, NoMemory}
use Rattle.ids.specs.Bounds.{bounds_of}

-- the process and the operation of each entry, in order
abbrev pub operations : List Entry → List (ℕ × Op)
operations entries = map (λ e. (e.pid, e.op)) entries

-- the limits of a history's kernel
abbrev pub limits_of : Log → Limits
limits_of log = record {
  entries = log.limit;
  file_bytes = log.bounds.file_bytes;
  descriptors = log.bounds.descriptors;
  path_bytes = log.bounds.path_bytes;
}

-- A kernel with these priorities and these limits has a legal history, of which nothing was
-- forgotten, and its operations are these steps.
pub record HasDone
    (priorities : List ℕ) (limits : Limits) (steps : List (ℕ × Op)) (kernel : Shown)
    : Type 0 where
  pub kept : Kept kernel
  pub same_priorities : kernel.log.priorities ≡ priorities
  pub same_limit : kernel.log.limit ≡ limits.entries
  pub same_bounds : kernel.log.bounds ≡ bounds_of limits
  pub whole : kernel.log.forgotten ≡ []
  pub done : operations kernel.log.entries ≡ steps

-- The first `count` steps are done, and the next one was refused.
pub record Halted
    (refusal : StepRefusal) (priorities : List ℕ) (limits : Limits) (steps : List (ℕ × Op)) (kernel : Shown)
    : Type 0 where
  pub count : ℕ
  pub done : HasDone priorities limits (take count steps) kernel
  pub pid : ℕ
  pub op : Op
  pub next : slice_get steps count ≡ Some (pid, op)
  pub refused : Refused kernel.log pid op refusal

-- A step was refused, and the transcript of those before it is written behind what stood there
-- before.
pub record StopsBefore
    (refusal : StepRefusal) (priorities : List ℕ) (limits : Limits) (steps : List (ℕ × Op))
    (old new : Option (List ℕ))
    : Type 0 where
  pub kernel : Shown
  pub halted : Halted refusal priorities limits steps kernel
  pub written : new ≡ append_known old (transcript kernel.log.entries)

-- The first `count` steps are done, and of their transcript a beginning is written.
pub record StopsWriting
    (priorities : List ℕ) (limits : Limits) (steps : List (ℕ × Op)) (old new : Option (List ℕ))
    : Type 0 where
  pub count : ℕ
  pub kernel : Shown
  pub done : HasDone priorities limits (take count steps) kernel
  pub part : IsPart old new (transcript kernel.log.entries)

-- how far the steps have come where a fault stops them
abbrev pub Stops :
    RunFault → List ℕ → Limits → List (ℕ × Op) → (old new : Option (List ℕ)) → Type 0
Stops Write priorities limits steps old new = StopsWriting priorities limits steps old new
Stops HistoryFull priorities limits steps old new =
    StopsBefore refusal.HistoryFull priorities limits steps old new
Stops NoMemory priorities limits steps old new =
    StopsBefore refusal.NoMemory priorities limits steps old new
Stops _ priorities limits steps old new = ⊥
