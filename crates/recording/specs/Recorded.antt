-- What a contract sees of a recording machine, and what is taken from it.
use Rattle.std.specs.Prelude.{ℕ, ◌≤◌, Bool, List, length, drop, map}
use Rattle.history.specs.Log.{Log}
use Rattle.model.specs.Steps.{Item}
use Rattle.machine.specs.Shown.{Shown, setup_of}
use Rattle.redo_records.specs.Records.{records}
use Rattle.redo_records.specs.Recording.{Tell, entries_of}
use Rattle.redo_records.specs.declared.recorder.Record.{Record}

-- what the machine shows, how many records of its history were taken, and whether some were lost
pub record Recorded : Type 0 where
  pub shown : Shown
  pub taken : ℕ
  pub lost : Bool

-- the redo records of a history; the root has number 0
abbrev pub records_of : Log → List (List Item)
records_of log = records 0 (setup_of log) log.entries

-- These are the records of the history behind the first so many, in their order and none left out.
pub record AreRest (log : Log) (taken : ℕ) (rs : List Record) : Type 0 where
  pub order : taken ≤ length (records_of log)
  pub tell : Tell (drop taken (records_of log)) (map entries_of rs)
