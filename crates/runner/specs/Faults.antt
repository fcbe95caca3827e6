-- The faults of a run and the program's exit statuses.
use Rattle.std.specs.Prelude.{ℕ}
use Rattle.runner.specs.declared.fault.RunFault.{RunFault}
use Rattle.runner.specs.declared.fault.RunFault.TheVariants.{Script, Schedule, Read}
use Rattle.runner.specs.declared.fault.RunFault.TheVariants.{Write, HistoryFull, NoMemory}
use Rattle.runner.specs.declared.fault.RunFault.TheVariants.{Check}
use Rattle.stream.specs.declared.doing.StepRefusal.{StepRefusal}
use Rattle.stream.specs.declared.doing.StepRefusal.TheVariants as refusal
use Rattle.replay.specs.declared.checking.CheckFault.{CheckFault}
use Rattle.replay.specs.declared.checking.CheckFault.TheVariants.{Wrong}
use Rattle.replay.specs.declared.checking.CheckFault.TheVariants.{NoMemory as NoCheckMemory}
use Rattle.script.specs.declared.faults.ScriptFault.{ScriptFault}
use Rattle.script.specs.declared.faults.ScriptFault.TheVariants.{NoMemory as NoScriptMemory}
use Rattle.script.specs.declared.faults.ScheduleFault.{ScheduleFault}
use Rattle.script.specs.declared.faults.ScheduleFault.TheVariants.{NoMemory as NoScheduleMemory}
use Rattle.workers.specs.declared.fault.WorkFault.{WorkFault}
use Rattle.workers.specs.declared.fault.WorkFault.TheVariants.{HistoryFull as NoRoomForWork}
use Rattle.workers.specs.declared.fault.WorkFault.TheVariants.{NoMemory as NoWorkMemory}

abbrev pub fault_of_script : ScriptFault → RunFault
fault_of_script NoScriptMemory = NoMemory
fault_of_script fault = Script fault

abbrev pub fault_of_schedule : ScheduleFault → RunFault
fault_of_schedule NoScheduleMemory = NoMemory
fault_of_schedule fault = Schedule fault

abbrev pub fault_of_check : CheckFault → RunFault
fault_of_check NoCheckMemory = NoMemory
fault_of_check (Wrong position) = Check position

abbrev pub fault_of_refusal : StepRefusal → RunFault
fault_of_refusal refusal.HistoryFull = HistoryFull
fault_of_refusal refusal.NoMemory = NoMemory

abbrev pub fault_of_work : WorkFault → RunFault
fault_of_work NoRoomForWork = HistoryFull
fault_of_work NoWorkMemory = NoMemory

abbrev pub status_of : RunFault → ℕ
status_of (Script fault) = 1
status_of (Schedule fault) = 1
status_of Read = 1
status_of Write = 5
status_of HistoryFull = 3
status_of NoMemory = 3
status_of (Check position) = 4
