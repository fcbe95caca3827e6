-- What a store has of the history of its machine, and what a crash leaves of it.
use Rattle.std.specs.Prelude.{◌≡◌, ◌⊎◌, ℕ, ◌+◌, ◌≤◌, List, [], ◌++◌, length, map, take, drop}
use Rattle.sqlite_disk.specs.declared.Disk.{Ghosts}
use Rattle.model.specs.Entries.{Entry}
use Rattle.model.specs.Legal.{Legal}
use Rattle.history.specs.Log.{Log}
use Rattle.machine.specs.Shown.{limit_of, setup_of}
use Rattle.commit_log.specs.File.{Reads}
use Rattle.commit_log.specs.Kept.{IsForged}
use Rattle.commit_log.specs.Log.{CrashLeaves, Stands, key_of, disk_of}
use Rattle.redo_records.specs.Recording.{Tell, entries_of}
use Rattle.recording.specs.Recorded.{records_of}
use Rattle.store_form.specs.Laws.{IsReached}
use Rattle.kept.specs.First.{EachTells, TellFirst}
use Rattle.kept.specs.declared.store.Store.{Store}

-- The store has what it took of a history: the kept payloads tell its first records, those that were only
-- appended tell the next ones, and the records that wait are those behind, up to as many as were taken.
pub record Holds {D : Type 0} {g : Ghosts D} (store : Store D g) (log : Log)
    (kept appended : List (List ℕ)) : Type 0 where
  pub stands : Stands store.log kept appended
  pub leaves : CrashLeaves store.log kept appended
  pub count : ℕ
  pub tell : EachTells log kept appended count
  pub order : count + length appended ≤ store.taken
  pub low : store.taken ≤ length (records_of log)
  pub waiting : Tell (drop (count + length appended) (take store.taken (records_of log)))
      (map entries_of store.waiting.items)

-- it has taken all records of the history, and none waits
pub record IsUpToDate {D : Type 0} {g : Ghosts D} (store : Store D g) (log : Log) : Type 0 where
  pub all : store.taken ≡ length (records_of log)
  pub none : store.waiting.items ≡ []

-- Whatever a crash leaves is a log of the kept payloads and of the first of others, or is forged; and with
-- these others the payloads tell first records of the history.
pub record LeavesFirst {D : Type 0} {g : Ghosts D} (store : Store D g) (log : Log)
    (kept appended : List (List ℕ)) : Type 0 where
  pub more : List (List ℕ)
  pub count : ℕ
  pub tell : EachTells log kept (appended ++ more) count
  pub leaves : CrashLeaves store.log kept (appended ++ more)

-- The file is a store whose calls run, from the start of the history's setup, to what was committed after
-- a beginning of the history, which has each entry whose record is told by the kept payloads.
pub record IsRecovered (key : ℕ) (log : Log) (kept : List (List ℕ)) (file : List ℕ) : Type 0 where
  pub payloads : List (List ℕ)
  pub reads : Reads key file payloads
  pub count : ℕ
  pub tells : TellFirst log payloads count
  pub before : List Entry
  pub reached : IsReached (setup_of log) (limit_of log) log.entries count before
  -- no record is lost that was kept
  pub least : (n : ℕ) → TellFirst log kept n → n ≤ count

-- Whatever a crash leaves is that, or is forged.
abbrev pub Recovers : {D : Type 0} {g : Ghosts D} → Store D g → Log → List (List ℕ) → List (List ℕ)
    → Type 0
Recovers {g = g} store log kept appended =
    (file : List ℕ) → g.may_leave (disk_of store.log) file
    → IsRecovered (key_of store.log) log kept file
    ⊎ ((more : List (List ℕ)) × IsForged (key_of store.log) kept (appended ++ more) file)

-- Of a legal history, what a crash may leave of a store is a store of a beginning of it.
abbrev pub CrashesLeaveBeginnings : {D : Type 0} → Ghosts D → Type 0
CrashesLeaveBeginnings {D = D} g =
    (store : Store D g) (log : Log) (kept appended : List (List ℕ))
    → Legal 0 (setup_of log) (limit_of log) log.entries
    → LeavesFirst store log kept appended → Recovers store log kept appended
