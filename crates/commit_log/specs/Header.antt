-- Why a file is not opened as a log.
use Rattle.std.specs.Prelude.{◌≡◌, ◌≢◌, ◌^◌, ◌<◌, ℕ, List, ⊤}
use Rattle.sqlite_disk.specs.Disk.{MoreFaults}
use Rattle.commit_log.specs.declared.error.Error.{Error}
use Rattle.commit_log.specs.declared.error.Error.TheVariants.{NotALog, OtherVersion, Damaged, Taken, Full, Failed, TooLong, Memory}
use Rattle.commit_log.specs.Frame.{number, part}
use Rattle.commit_log.specs.File.{magic, version, header, HasHeader, HasOtherVersion}

-- these bytes are no header, or one of that version
abbrev pub IsNoHeader : List ℕ → Error → Type 0
IsNoHeader bytes NotALog =
    ((key : ℕ) → key < 2 ^ 64 → bytes ≡ header key → ⊥) × ((v : ℕ) → v < 2 ^ 64 → part bytes 0 8 ≡ number magic → part bytes 8 8 ≡ number v → v ≡ version)
IsNoHeader bytes (OtherVersion v) = (part bytes 0 8 ≡ number magic) × (part bytes 8 8 ≡ number v) × (v ≢ version) × (v < 2 ^ 64)
IsNoHeader bytes Memory = ⊥
IsNoHeader bytes Full = ⊥
IsNoHeader bytes Failed = ⊥
IsNoHeader bytes (Damaged p) = ⊥
IsNoHeader bytes Taken = ⊥
IsNoHeader bytes TooLong = ⊥

-- the file is no log, or one of that version, or the disk failed between these counts
abbrev pub HasNoLog : List ℕ → ℕ → ℕ → Error → Type 0
HasNoLog file old new NotALog = ((key : ℕ) → HasHeader key file → ⊥) × ((v : ℕ) → HasOtherVersion v file → ⊥)
HasNoLog file old new (OtherVersion v) = HasOtherVersion v file
HasNoLog file old new Full = MoreFaults old new
HasNoLog file old new Failed = MoreFaults old new
HasNoLog file old new Memory = ⊤
HasNoLog file old new (Damaged p) = ⊥
HasNoLog file old new Taken = ⊥
HasNoLog file old new TooLong = ⊥
