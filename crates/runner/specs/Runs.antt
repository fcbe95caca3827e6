-- How a run of a script and a schedule ends. `given` and `left` are what the source has to give
-- before and after, `old` and `new` what the sink holds.
use Rattle.std.specs.Prelude.{◌≡◌, ℕ, List, Option, Ok, Err, ◌⊎◌}
use Rattle.std.specs.Io.KnownBytes.{append_known}
use Rattle.ids.specs.declared.limits.Limits.{Limits}
use Rattle.machine.specs.Shown.{Shown}
use Rattle.script.specs.Schedules.{schedule_of}
use Rattle.script.specs.Contents.{ScriptContents}
use Rattle.script.specs.Steps.{steps}
use Rattle.script.specs.declared.faults.ScheduleFault.{ScheduleFault}
use Rattle.transcript.specs.Line.{transcript}
use Rattle.runner.specs.Reading.{GivesScript, GivesFault}
use Rattle.runner.specs.Steps.{HasDone, Stops}
use Rattle.runner.specs.declared.fault.RunFault.{RunFault}
use Rattle.runner.specs.declared.fault.RunFault.TheVariants.{Script, Schedule, Read}
use Rattle.runner.specs.declared.fault.RunFault.TheVariants.{Write, HistoryFull, NoMemory}
use Rattle.runner.specs.declared.fault.RunFault.TheVariants.{Check}

-- What a source gave spells a script, of which the list has this fault.
pub record GivesNoSchedule
    (old new : Option (List ℕ)) (list : List ℕ) (fault : ScheduleFault)
    : Type 0 where
  pub script : ScriptContents
  pub given : GivesScript old new script
  pub spells : schedule_of list script.lines ≡ Err fault

-- What a source gave spells a script, and the list a schedule of it.
pub record GivesBoth
    (old new : Option (List ℕ)) (list : List ℕ) (script : ScriptContents) (pids : List ℕ)
    : Type 0 where
  pub given : GivesScript old new script
  pub scheduled : schedule_of list script.lines ≡ Ok pids

-- All steps are done, and their transcript is written behind what stood there before.
pub record Ran
    (list : List ℕ) (limits : Limits) (given left old new : Option (List ℕ)) (kernel : Shown)
    : Type 0 where
  pub script : ScriptContents
  pub pids : List ℕ
  pub read : GivesBoth given left list script pids
  pub done : HasDone script.priorities limits (steps script.lines pids) kernel
  pub written : new ≡ append_known old (transcript kernel.log.entries)

-- The fault has come in the steps.
pub record RanTo
    (fault : RunFault) (list : List ℕ) (limits : Limits) (given left old new : Option (List ℕ))
    : Type 0 where
  pub script : ScriptContents
  pub pids : List ℕ
  pub read : GivesBoth given left list script pids
  pub stops : Stops fault script.priorities limits (steps script.lines pids) old new

-- What was read and written where a fault has come. Memory may be refused before any step too, and
-- then nothing was written. A run does not check its history.
abbrev pub Ended : List ℕ → Limits → (given left old new : Option (List ℕ)) → RunFault → Type 0
Ended list limits given left old new (Script fault) = GivesFault given left fault × (new ≡ old)
Ended list limits given left old new (Schedule fault) =
    GivesNoSchedule given left list fault × (new ≡ old)
Ended list limits given left old new Read = new ≡ old
Ended list limits given left old new Write = RanTo Write list limits given left old new
Ended list limits given left old new HistoryFull = RanTo HistoryFull list limits given left old new
Ended list limits given left old new NoMemory =
    (new ≡ old) ⊎ RanTo NoMemory list limits given left old new
Ended list limits given left old new (Check position) = ⊥
