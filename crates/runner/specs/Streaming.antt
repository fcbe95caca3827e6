-- How the program's job on a stream of lines ends. `given` and `left` are what the source has to
-- give before and after, `old` and `new` what the sink holds.
use Rattle.std.specs.Prelude.{◌≡◌, ℕ, List, Option, Bool, true, false}
use Rattle.ids.specs.declared.limits.Limits.{Limits}
use Rattle.stream.specs.Streams.{HasEnded, HasStopped}
use Rattle.stream.specs.declared.fault.StreamFault.{StreamFault}
use Rattle.stream.specs.declared.fault.StreamFault.TheVariants as stop
use Rattle.words.specs.declared.StreamJob.{StreamJob}
use Rattle.runner.specs.Faults.{status_of}
use Rattle.runner.specs.declared.fault.RunFault.{RunFault}
use Rattle.runner.specs.declared.fault.RunFault.TheVariants.{Read, Write, HistoryFull, NoMemory}
use Rattle.runner.specs.declared.fault.RunFault.TheVariants.{Check}

-- A stream that has counted to its end counts as a full history.
abbrev pub fault_of_stream : StreamFault → RunFault
fault_of_stream stop.Read = Read
fault_of_stream stop.Write = Write
fault_of_stream stop.HistoryFull = HistoryFull
fault_of_stream stop.NoMemory = NoMemory
fault_of_stream (stop.Check position) = Check position
fault_of_stream stop.Spent = HistoryFull

-- the limits that a stream's job gives its kernel
abbrev pub limits_of_stream : StreamJob → Limits
limits_of_stream job = record {
  entries = job.limit;
  file_bytes = job.file_limit;
  descriptors = job.descriptors;
  path_bytes = job.path_limit;
}

-- 0 where no line was a fault, else 1
abbrev pub status_of_good : Bool → ℕ
status_of_good true = 0
status_of_good false = 1

-- The input has come to its end, and all of it is answered.
pub record IsStreamed
    (job : StreamJob) (given left old new : Option (List ℕ)) (status : ℕ)
    : Type 0 where
  pub good : Bool
  pub ended : HasEnded (limits_of_stream job) job.check given left old new good
  pub told : status ≡ status_of_good good

-- A fault has stopped the stream, and the status is the fault's. Read and Write mean that the
-- device has failed.
pub record IsStreamFaulted
    (job : StreamJob) (given left old new : Option (List ℕ)) (read_failed write_failed : Type 0)
    (status : ℕ)
    : Type 0 where
  pub fault : StreamFault
  pub stopped : HasStopped (limits_of_stream job) job.check given left old new fault
  pub read : fault ≡ stop.Read → read_failed
  pub write : fault ≡ stop.Write → write_failed
  pub reported : status ≡ status_of (fault_of_stream fault)
