-- What opening a log makes of its file, and why it fails.
use Rattle.std.specs.Prelude.{ℕ, ⊤, List}
use Rattle.sqlite_disk.specs.declared.Disk.{Ghosts}
use Rattle.sqlite_disk.specs.Disk.{MoreFaults, Only}
use Rattle.commit_log.specs.declared.error.Error.{Error}
use Rattle.commit_log.specs.declared.error.Error.TheVariants.{NotALog, OtherVersion, Damaged, Taken, Full, Failed, TooLong, Memory}
use Rattle.commit_log.specs.File.{HasNone, IsBlankFrom, IsDamaged, NoneTells, Reaches}
use Rattle.commit_log.specs.Reads.{KeepsBelow, OnlyReads}

-- The records end there, nothing tells of damage, the file is blank from there on, and all is on the disk.
pub record IsOpened (key from end : ℕ) (old new : List ℕ) (may_leave : List ℕ → Type 0) : Type 0 where
  pub reaches : Reaches key old from end
  pub none : HasNone key old end
  pub sound : NoneTells key old end
  pub keeps : KeepsBelow end old new
  pub blank : IsBlankFrom new end
  pub durable : Only new may_leave

-- the log is damaged and nothing changed, memory was refused, or a call of the disk failed
abbrev pub OpenCause : {D : Type 0} → Ghosts D → ℕ → ℕ → D → D → Error → Type 0
OpenCause g key from old new (Damaged p) = Reaches key (g.seen old) from p × IsDamaged key (g.seen old) p × OnlyReads g old new
OpenCause g key from old new Memory = ⊤
OpenCause g key from old new Full = MoreFaults (g.faults old) (g.faults new)
OpenCause g key from old new Failed = MoreFaults (g.faults old) (g.faults new)
OpenCause g key from old new NotALog = ⊥
OpenCause g key from old new (OtherVersion v) = ⊥
OpenCause g key from old new Taken = ⊥
OpenCause g key from old new TooLong = ⊥
