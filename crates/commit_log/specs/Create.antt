-- How a log is made.
use Rattle.std.specs.Prelude.{◌<◌, ◌≤◌, ⊤, ℕ, max, List, length}
use Rattle.sqlite_disk.specs.Disk.{MoreFaults}
use Rattle.commit_log.specs.declared.error.Error.{Error}
use Rattle.commit_log.specs.declared.error.Error.TheVariants.{NotALog, OtherVersion, Damaged, Taken, Full, Failed, TooLong, Memory}

-- the file is not empty, memory was refused, or the disk failed between these counts
abbrev pub CreateCause : List ℕ → ℕ → ℕ → Error → Type 0
CreateCause file old new Taken = 0 < length file
CreateCause file old new Memory = ⊤
CreateCause file old new Full = MoreFaults old new
CreateCause file old new Failed = MoreFaults old new
CreateCause file old new NotALog = ⊥
CreateCause file old new (OtherVersion v) = ⊥
CreateCause file old new (Damaged p) = ⊥
CreateCause file old new TooLong = ⊥

-- whatever a crash leaves now is no longer than a header, or than what it might have left before
abbrev pub Grows : (List ℕ → Type 0) → (List ℕ → Type 0) → Type 0
Grows old new = (file : List ℕ) → new file → (before : List ℕ) × old before × (length file ≤ max (length before) 32)
