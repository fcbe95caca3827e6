-- How the program ends where its command line gives no job.
use Rattle.std.specs.Prelude.{◌≡◌, ℕ, ◌⊎◌, List, Option}
use Rattle.words.specs.Txsh.{status_of}
use Rattle.runner.specs.Faults.{status_of as run_status_of}
use Rattle.words.specs.declared.CommandLineFault.{CommandLineFault}
use Rattle.words.specs.declared.CommandLineFault.TheVariants.{Help}
use Rattle.runner.specs.declared.fault.RunFault.{RunFault}
use Rattle.runner.specs.declared.fault.RunFault.TheVariants.{Write, NoMemory}

-- why help was not written whole: the output has failed, or memory for the text was refused, and
-- then nothing was written
abbrev pub NoHelp : (old new : Option (List ℕ)) (failed : Type 0) → RunFault → Type 0
NoHelp old new failed Write = failed
NoHelp old new failed NoMemory = new ≡ old
NoHelp old new failed _ = ⊥

-- A fault is written to standard error alone, and the status is its own. Help is written to
-- standard output and nothing to standard error, or writing it has a fault. `old` and `new` are
-- what standard output holds before and after, `reported` and `reports` what standard error does,
-- and `failed` is that standard output has failed.
abbrev pub IsCommandLineEnd :
    CommandLineFault → (old new reported reports : Option (List ℕ)) (failed : Type 0) → ℕ → Type 0
IsCommandLineEnd (Help text) old new reported reports failed status =
    ((status ≡ 0) × (reports ≡ reported))
    ⊎ (((status ≡ run_status_of Write) × failed)
    ⊎ ((status ≡ run_status_of NoMemory) × (new ≡ old)))
IsCommandLineEnd fault old new reported reports failed status =
    (status ≡ status_of fault) × (new ≡ old)
