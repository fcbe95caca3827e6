-- What stores are good for.
use Rattle.std.specs.Prelude.{◌≡◌, ℕ, List, ◌++◌, map, take, true}
use Rattle.std.specs.List.{AllByRecursion}
use Rattle.model.specs.Steps.{Item}
use Rattle.model.specs.Entries.{Entry}
use Rattle.model.specs.Forgetting.{Limit}
use Rattle.model.specs.Moments.{Setup, Moment, after}
use Rattle.model.specs.Legal.{Legal}
use Rattle.entry_codec.specs.Entries.{AreEntries, entries_bytes}
use Rattle.redo_records.specs.Changing.{changes}
use Rattle.redo_records.specs.Records.{records, records_from, all_of}
use Rattle.redo_records.specs.Recording.{Tell}
use Rattle.redo_records.specs.Recovery.{HasRecords}
use Rattle.store_form.specs.Stores.{Told, told_item, IsStore, RunsTo}

-- what the records of a history tell
abbrev pub told_records : List (List Item) → List Told
told_records rs = map told_item (all_of rs)

-- The records of a legal history tell what runs to its committed state.
abbrev pub RecordsRunToTheState : Type 0
RecordsRunToTheState = (setup : Setup) (limit : Limit) (es : List Entry)
    → Legal 0 setup limit es
    → RunsTo setup (told_records (records 0 setup es)) (after 0 setup es).committed

-- The first n records tell what runs to the state that was committed after a beginning of it.
pub record IsReached
    (setup : Setup) (limit : Limit) (es : List Entry) (n : ℕ) (before : List Entry)
    : Type 0 where
  pub has : HasRecords 0 setup es n before
  pub legal : Legal 0 setup limit before
  pub runs : RunsTo setup (told_records (take n (records 0 setup es)))
      (after 0 setup before).committed

abbrev pub FirstRecordsRunToABeginning : Type 0
FirstRecordsRunToABeginning = (setup : Setup) (limit : Limit) (es : List Entry) (n : ℕ)
    → Legal 0 setup limit es
    → (before : List Entry) × IsReached setup limit es n before

-- each call of these records can have changed something
abbrev pub AreChanges : List (List Item) → Type 0
AreChanges rs = AllByRecursion (AllByRecursion (λ it. changes it.call it.answer ≡ true)) rs

-- It is so of the records of each history, and of the first n of such.
pub record StayChanges (rs : List (List Item)) (n : ℕ) : Type 0 where
  pub all : AreChanges rs
  pub first : AreChanges (take n rs)

abbrev pub ToldRecordsAreChanges : Type 0
ToldRecordsAreChanges = (m : Moment) (es : List Entry) (n : ℕ) → StayChanges (records_from m es) n

-- The bytes of records that are told, behind those of a store, make a store that tells them too.
abbrev pub StoresGrow : Type 0
StoresGrow = (setup : Setup) (payloads : List (List ℕ)) (told : List Told)
    (rs : List (List Item)) (ess : List (List Entry))
    → IsStore setup payloads told → AreChanges rs → Tell rs ess → AllByRecursion AreEntries ess
    → IsStore setup (payloads ++ map entries_bytes ess) (told ++ told_records rs)

-- Payloads are a store of one setup at most, and tell one list of calls.
abbrev pub StoresAreToldApart : Type 0
StoresAreToldApart = (setup other : Setup) (payloads : List (List ℕ)) (told others : List Told)
    → IsStore setup payloads told → IsStore other payloads others
    → (setup ≡ other) × (told ≡ others)
