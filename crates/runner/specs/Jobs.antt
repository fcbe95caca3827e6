-- How the program's job ends. `given` and `left` are what the source has to give before and after,
-- `old` and `new` what the sink holds.
use Rattle.std.specs.Prelude.{◌≡◌, ◌⊎◌, ℕ, true, List, Option, string_bytes}
use Rattle.ids.specs.declared.limits.Limits.{Limits}
use Rattle.machine.specs.Shown.{Shown}
use Rattle.words.specs.declared.Job.{Job}
use Rattle.words.specs.declared.Way.{Way}
use Rattle.words.specs.declared.Way.TheVariants as way
use Rattle.runner.specs.Checks.{IsChecked, NotChecked}
use Rattle.runner.specs.Faults.{status_of}
use Rattle.runner.specs.Runs.{Ran, Ended}
use Rattle.runner.specs.Threads.{RanByThreads, EndedByThreads}
use Rattle.runner.specs.declared.fault.RunFault.{RunFault}
use Rattle.runner.specs.declared.fault.RunFault.TheVariants.{Read, Write, Check}

-- the limits that a job gives its kernel
abbrev pub limits_for : Job → Limits
limits_for job = record {
  entries = job.limit;
  file_bytes = job.file_limit;
  descriptors = job.descriptors;
  path_bytes = job.path_limit;
}

-- The script was run in this way, and its transcript is written behind what stood there before.
abbrev pub HasRun : Way → Limits → (given left old new : Option (List ℕ)) → Shown → Type 0
HasRun (way.Schedule list) limits given left old new kernel =
    Ran (string_bytes list) limits given left old new kernel
HasRun way.Threads limits given left old new kernel =
    RanByThreads limits given left old new kernel

-- A fault has ended the run in this way.
abbrev pub HasEnded : Way → Limits → (given left old new : Option (List ℕ)) → RunFault → Type 0
HasEnded (way.Schedule list) limits given left old new fault =
    Ended (string_bytes list) limits given left old new fault
HasEnded way.Threads limits given left old new fault =
    EndedByThreads limits given left old new fault

-- The run was done, with its transcript in `mid`. Behind it stands that the history passes the
-- check, if one was to be made. The status is 0.
pub record IsDone
    (job : Job) (given left old new : Option (List ℕ)) (status : ℕ)
    : Type 0 where
  pub kernel : Shown
  pub mid : Option (List ℕ)
  pub ran : HasRun job.way (limits_for job) given left old mid kernel
  pub checked : IsChecked job.check kernel.log mid new
  pub success : status ≡ 0

-- The run was done, with its transcript in `mid`, and the check of its history ended with a fault. It
-- is never that an entry is wrong: the history of a run is legal, and so it passes.
pub record CheckEnded
    (job : Job) (given left old new : Option (List ℕ)) (write_failed : Type 0) (fault : RunFault)
    : Type 0 where
  pub kernel : Shown
  pub mid : Option (List ℕ)
  pub ran : HasRun job.way (limits_for job) given left old mid kernel
  pub wanted : job.check ≡ true
  pub fails : NotChecked kernel.log mid new write_failed fault
  pub passes : (position : ℕ) → fault ≡ Check position → ⊥

-- A fault has ended the run or the check, and the status is the fault's. Read and Write mean that
-- the device has failed.
pub record IsFaulted
    (job : Job) (given left old new : Option (List ℕ)) (read_failed write_failed : Type 0)
    (status : ℕ)
    : Type 0 where
  pub fault : RunFault
  pub ended : HasEnded job.way (limits_for job) given left old new fault
      ⊎ CheckEnded job given left old new write_failed fault
  pub read : fault ≡ Read → read_failed
  pub write : fault ≡ Write → write_failed
  pub reported : status ≡ status_of fault
