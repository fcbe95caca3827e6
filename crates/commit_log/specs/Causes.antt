-- Why a call of a log fails.
use Rattle.std.specs.Prelude.{◌≡◌, ◌⊎◌, Some, None, Result, MatchResult}
use Rattle.sqlite_disk.specs.declared.Disk.{Ghosts}
use Rattle.sqlite_disk.specs.Disk.{MoreFaults}
use Rattle.commit_log.specs.declared.error.Error.{Error}
use Rattle.commit_log.specs.declared.error.Error.TheVariants.{NotALog, OtherVersion, Damaged, Taken, Full, Failed, TooLong, Memory}
use Rattle.commit_log.specs.declared.log.Log.{Log}

-- A call of the disk failed, which is told from then on; or memory was refused, or the limit was met, and nothing changed.
abbrev pub HasCause : {D : Type 0} {g : Ghosts D} → Log D g → Log D g → Type 0 → Error → Type 0
HasCause {g = g} old new Limit Full = MoreFaults (g.faults old.disk) (g.faults new.disk) × (new.failure ≡ Some Full)
HasCause {g = g} old new Limit Failed = MoreFaults (g.faults old.disk) (g.faults new.disk) × (new.failure ≡ Some Failed)
HasCause old new Limit TooLong = Limit × (new ≡ old)
HasCause old new Limit Memory = new ≡ old
HasCause old new Limit NotALog = ⊥
HasCause old new Limit (OtherVersion v) = ⊥
HasCause old new Limit (Damaged p) = ⊥
HasCause old new Limit Taken = ⊥

-- what has failed once fails so again, and asks the disk nothing; else there is a cause
abbrev pub FailsFor : {T D : Type 0} {g : Ghosts D} → Result T Error → Log D g → Log D g → Type 0 → Type 0
FailsFor {g = g} result old new Limit =
    MatchResult result
    (λ _. (old.failure ≡ None) × (g.faults new.disk ≡ g.faults old.disk))
    (λ e. ((old.failure ≡ Some e) × (new ≡ old)) ⊎ ((old.failure ≡ None) × HasCause old new Limit e))
