-- Which first records of a history the payloads of a store tell.
use Rattle.std.specs.Prelude.{◌≡◌, ℕ, ◌+◌, ◌≤◌, List, ◌++◌, length, take}
use Rattle.model.specs.Steps.{Item}
use Rattle.history.specs.Log.{Log}
use Rattle.machine.specs.Shown.{setup_of}
use Rattle.recording.specs.Recorded.{records_of}
use Rattle.store_form.specs.Laws.{told_records}
use Rattle.store_form.specs.Stores.{IsStore}

-- These payloads are a store of the history's setup, which tells the calls of its first so many records.
pub record TellFirst (log : Log) (payloads : List (List ℕ)) (count : ℕ) : Type 0 where
  pub low : count ≤ length (records_of log)
  pub store : IsStore (setup_of log) payloads (told_records (take count (records_of log)))

-- The kept payloads tell the first so many records, and each further payload the next one.
abbrev pub EachTells : Log → List (List ℕ) → List (List ℕ) → ℕ → Type 0
EachTells log kept others count =
    (more : ℕ) → more ≤ length others → TellFirst log (kept ++ take more others) (count + more)

-- A history has gone on: its setup is the same, and further records stand behind those it had.
pub record GoesOn (old new : Log) : Type 0 where
  pub same : setup_of new ≡ setup_of old
  pub more : List (List Item)
  pub grown : records_of new ≡ records_of old ++ more
