-- What a machine with a store keeps of its history. One with no store keeps nothing, and nothing is asked
-- of it.
use Rattle.std.specs.Prelude.{◌⊎◌, ℕ, List, [], ◌++◌, Option, Some, None, ⊤}
use Rattle.sqlite_disk.specs.declared.Disk.{Ghosts}
use Rattle.model.specs.Legal.{Legal}
use Rattle.history.specs.Log.{Log}
use Rattle.machine.specs.Shown.{limit_of, moment, setup_of}
use Rattle.commit_log.specs.File.{Reads}
use Rattle.commit_log.specs.Kept.{IsForged}
use Rattle.commit_log.specs.Log.{disk_of, key_of}
use Rattle.recording.specs.Recorded.{records_of}
use Rattle.store_form.specs.Laws.{told_records}
use Rattle.store_form.specs.Stores.{IsStore, RunsTo}
use Rattle.kept.specs.Holds.{Holds, IsUpToDate, LeavesFirst}
use Rattle.kept.specs.declared.fault.StoreFault.{StoreFault}
use Rattle.kept.specs.declared.store.Store.{Store}

module _ {D : Type 0} {g : Ghosts D} where
  abbrev pub HoldsIn : Option (Store D g) → Log → List (List ℕ) → List (List ℕ) → Type 0
  HoldsIn (Some store) log kept appended = Holds store log kept appended
  HoldsIn None log kept appended = ⊤

  abbrev pub LeavesIn : Option (Store D g) → Log → List (List ℕ) → List (List ℕ) → Type 0
  LeavesIn (Some store) log kept appended = LeavesFirst store log kept appended
  LeavesIn None log kept appended = ⊤

  abbrev pub IsUpToDateIn : Option (Store D g) → Log → Type 0
  IsUpToDateIn (Some store) log = IsUpToDate store log
  IsUpToDateIn None log = ⊤

-- It has these payloads and more on the disk, and further ones are appended.
pub record HoldsMore {D : Type 0} {g : Ghosts D} (store : Option (Store D g)) (log : Log)
    (kept : List (List ℕ)) : Type 0 where
  pub more : List (List ℕ)
  pub appended : List (List ℕ)
  pub holds : HoldsIn store log (kept ++ more) appended

-- A crash leaves these payloads and more, and first ones of others.
pub record LeavesMore {D : Type 0} {g : Ghosts D} (store : Option (Store D g)) (log : Log)
    (kept : List (List ℕ)) : Type 0 where
  pub more : List (List ℕ)
  pub appended : List (List ℕ)
  pub leaves : LeavesIn store log (kept ++ more) appended

-- All that was committed is on the disk, these payloads first.
pub record IsKept {D : Type 0} {g : Ghosts D} (store : Option (Store D g)) (log : Log)
    (kept : List (List ℕ)) : Type 0 where
  pub more : List (List ℕ)
  pub holds : HoldsIn store log (kept ++ more) []
  pub all : IsUpToDateIn store log

-- The store stands for the history, with at least these payloads on the disk. Behind a fault a crash
-- leaves them still.
abbrev pub StandsFor : {D : Type 0} {g : Ghosts D} → Option StoreFault → Option (Store D g) → Log
    → List (List ℕ) → Type 0
StandsFor None store log kept = HoldsMore store log kept
StandsFor (Some fault) store log kept = LeavesMore store log kept

-- The file is a store whose calls run, from the start of the history's setup, to all that was committed.
pub record IsWhole (key : ℕ) (log : Log) (file : List ℕ) : Type 0 where
  pub payloads : List (List ℕ)
  pub reads : Reads key file payloads
  pub store : IsStore (setup_of log) payloads (told_records (records_of log))
  pub runs : RunsTo (setup_of log) (told_records (records_of log)) (moment log).committed

-- Of a legal history, whatever a crash leaves of what is kept is that, or is forged.
abbrev pub WhatIsKeptIsWhole : {D : Type 0} → Ghosts D → Type 0
WhatIsKeptIsWhole {D = D} g =
    (store : Store D g) (log : Log) (kept : List (List ℕ)) → Legal 0 (setup_of log) (limit_of log) log.entries
    → IsKept (Some store) log kept → (file : List ℕ) → g.may_leave (disk_of store.log) file
    → IsWhole (key_of store.log) log file
    ⊎ ((payloads : List (List ℕ)) × IsForged (key_of store.log) payloads [] file)
