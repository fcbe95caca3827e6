-- How a run of a script by threads ends. `given` and `left` are what the source has to give before
-- and after, `old` and `new` what the sink holds.
use Rattle.std.specs.Prelude.{◌≡◌, ℕ, List, Option}
use Rattle.std.specs.Io.KnownBytes.{append_known}
use Rattle.device.specs.Device.{IsPart}
use Rattle.history.specs.Log.{Log}
use Rattle.ids.specs.declared.limits.Limits.{Limits}
use Rattle.machine.specs.Shown.{Shown}
use Rattle.ports.specs.Runs.{IsRunByThreads}
use Rattle.script.specs.Contents.{ScriptContents}
use Rattle.transcript.specs.Line.{transcript}
use Rattle.runner.specs.Reading.{GivesScript, GivesFault}
use Rattle.runner.specs.declared.fault.RunFault.{RunFault}
use Rattle.runner.specs.declared.fault.RunFault.TheVariants.{Script, Schedule, Read}
use Rattle.runner.specs.declared.fault.RunFault.TheVariants.{Write, HistoryFull, NoMemory}
use Rattle.runner.specs.declared.fault.RunFault.TheVariants.{Check}

-- What a source gave spells a script, and this is the history of a run of it by threads.
pub record IsRunOfSource (limits : Limits) (given left : Option (List ℕ)) (log : Log) : Type 0 where
  pub script : ScriptContents
  pub read : GivesScript given left script
  pub run : IsRunByThreads script limits log

-- The run is done, and the transcript of its history is written behind what stood there before.
pub record RanByThreads
    (limits : Limits) (given left old new : Option (List ℕ)) (kernel : Shown)
    : Type 0 where
  pub done : IsRunOfSource limits given left kernel.log
  pub written : new ≡ append_known old (transcript kernel.log.entries)

-- The run is done, and of the transcript of its history a beginning is written.
pub record PrintedInPart (limits : Limits) (given left old new : Option (List ℕ)) : Type 0 where
  pub log : Log
  pub done : IsRunOfSource limits given left log
  pub part : IsPart old new (transcript log.entries)

-- What was read and written where a fault has come. The transcript is written after the run, so a
-- fault of the run leaves nothing. There is no schedule, and a run does not check its history.
abbrev pub EndedByThreads : Limits → (given left old new : Option (List ℕ)) → RunFault → Type 0
EndedByThreads limits given left old new (Script fault) =
    GivesFault given left fault × (new ≡ old)
EndedByThreads limits given left old new (Schedule fault) = ⊥
EndedByThreads limits given left old new Read = new ≡ old
EndedByThreads limits given left old new Write = PrintedInPart limits given left old new
EndedByThreads limits given left old new HistoryFull =
    (script : ScriptContents) × GivesScript given left script × (new ≡ old)
EndedByThreads limits given left old new NoMemory = new ≡ old
EndedByThreads limits given left old new (Check position) = ⊥
