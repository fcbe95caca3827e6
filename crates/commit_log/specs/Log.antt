-- What a log shows, and what it stands for.
use Rattle.std.specs.Prelude.{ℕ, ◌^◌, ◌<◌, ◌≤◌, List, ◌++◌, Option, IsNone}
use Rattle.sqlite_disk.specs.declared.Disk.{Ghosts}
use Rattle.commit_log.specs.declared.error.Error.{Error}
use Rattle.commit_log.specs.declared.log.Log.{Log}
use Rattle.commit_log.specs.File.{IsBlankFrom}
use Rattle.commit_log.specs.Kept.{BeginsWith, AreKept, LeavesFirst}

module _ {D : Type 0} {g : Ghosts D} where
  abbrev pub disk_of : Log D g → D
  disk_of log = log.disk

  -- what it answers since the disk has failed
  abbrev pub failure_of : Log D g → Option Error
  failure_of log = log.failure

  -- the key of its digests
  abbrev pub key_of : Log D g → ℕ
  key_of log = log.key

  -- where the next frame goes
  abbrev pub end_of : Log D g → ℕ
  end_of log = log.end

  -- up to where all is on the disk
  abbrev pub kept_of : Log D g → ℕ
  kept_of log = log.kept

  -- whatever a crash leaves is a log of the kept records and of the first that were appended, or is forged
  abbrev pub CrashLeaves : Log D g → List (List ℕ) → List (List ℕ) → Type 0
  CrashLeaves log kept appended = LeavesFirst (g.may_leave log.disk) log.key kept appended

-- The log has the kept records, and behind them those that were only appended. Behind these the file is blank.
pub record Stands {D : Type 0} {g : Ghosts D} (log : Log D g) (kept appended : List (List ℕ)) : Type 0 where
  pub ready : IsNone log.failure
  pub order : log.kept ≤ log.end
  pub fits : log.end < 2 ^ 64
  pub shown : BeginsWith log.key (kept ++ appended) log.end (g.seen log.disk)
  pub blank : IsBlankFrom (g.seen log.disk) log.end
  pub durable : AreKept (g.may_leave log.disk) log.key kept log.kept
