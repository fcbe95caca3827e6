-- What faults are told as, and what one of a store leaves.
use Rattle.std.specs.Prelude.{⊤, Option, Some, None, Result, Ok, Err}
use Rattle.commit_log.specs.declared.error.Error.{Error}
use Rattle.commit_log.specs.declared.error.Error.TheVariants.{Memory}
use Rattle.recording.specs.declared.notes.TakeFault.{TakeFault}
use Rattle.recording.specs.declared.notes.TakeFault.TheVariants as take
use Rattle.kept.specs.declared.fault.StoreFault.{StoreFault}
use Rattle.kept.specs.declared.fault.StoreFault.TheVariants.{NoMemory, Lost, OutOfStep, Log}

abbrev pub fault_of_log : Error → StoreFault
fault_of_log Memory = NoMemory
fault_of_log e = Log e

abbrev pub fault_of_take : TakeFault → StoreFault
fault_of_take take.NoMemory = NoMemory
fault_of_take take.Lost = Lost
fault_of_take take.OutOfStep = OutOfStep

-- what is remembered of a fault of appending: not that memory was refused, since what is not appended waits
abbrev pub remembered : StoreFault → Option StoreFault
remembered NoMemory = None
remembered Lost = Some Lost
remembered OutOfStep = Some OutOfStep
remembered (Log e) = Some (Log e)

-- it holds, unless the fault is one of the log
abbrev pub UnlessOfLog : StoreFault → Type 0 → Type 0
UnlessOfLog NoMemory P = P
UnlessOfLog Lost P = P
UnlessOfLog OutOfStep P = P
UnlessOfLog (Log e) P = ⊤

abbrev pub UnlessFailed : {T : Type 0} → Result T StoreFault → Type 0 → Type 0
UnlessFailed (Ok done) P = P
UnlessFailed (Err fault) P = UnlessOfLog fault P

-- it is a fault of writing to the log
abbrev pub IsOfLog : StoreFault → Type 0
IsOfLog NoMemory = ⊤
IsOfLog Lost = ⊥
IsOfLog OutOfStep = ⊥
IsOfLog (Log e) = ⊤
