-- The check of a run's history, after its last line. `old` and `new` are what the sink holds before
-- and after.
use Rattle.std.specs.Prelude.{◌≡◌, ℕ, Bool, true, false, List, Option, codes}
use Rattle.std.specs.Io.KnownBytes.{append_known}
use Rattle.device.specs.Device.{IsPart}
use Rattle.history.specs.Log.{Log}
use Rattle.machine.specs.Shown.{setup_of}
use Rattle.model.specs.Passing.{PassesForSome}
use Rattle.replay.specs.Faults.{IsFault}
use Rattle.replay.specs.declared.checking.CheckFault.TheVariants.{Wrong}
use Rattle.runner.specs.declared.fault.RunFault.{RunFault}
use Rattle.runner.specs.declared.fault.RunFault.TheVariants.{Write, NoMemory, Check}

-- what is written of a history that passes
abbrev pub passed : List ℕ
passed = codes "check: ok\n"

-- Where the history was to be checked, it passes, and this is written.
abbrev pub IsChecked : Bool → Log → (old new : Option (List ℕ)) → Type 0
IsChecked false log old new = new ≡ old
IsChecked true log old new =
    PassesForSome (setup_of log) log.entries × (new ≡ append_known old passed)

-- Why a check did not end so: an entry is wrong, memory was refused, or the sink has failed while
-- it was told that the history passes.
abbrev pub NotChecked : Log → (old new : Option (List ℕ)) (failed : Type 0) → RunFault → Type 0
NotChecked log old new failed (Check position) =
    IsFault (setup_of log) log.entries (Wrong position) × (new ≡ old)
NotChecked log old new failed NoMemory = new ≡ old
NotChecked log old new failed Write =
    PassesForSome (setup_of log) log.entries × IsPart old new passed × failed
NotChecked log old new failed _ = ⊥
