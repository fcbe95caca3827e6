-- What records are good for: the committed state is made again from them.
use Rattle.std.specs.Prelude.{◌≡◌, ℕ, ◌≤◌, List, [], ◌∷◌, ◌++◌, true, length, take}
use Rattle.model.specs.State.{Kernel}
use Rattle.model.specs.Steps.{Run}
use Rattle.model.specs.Entries.{Entry}
use Rattle.model.specs.Forgetting.{Limit}
use Rattle.model.specs.Moments.{Setup, start, status, after}
use Rattle.model.specs.Legal.{Legal, IsBefore}
use Rattle.model.specs.Suits.{suits}
use Rattle.redo_records.specs.Records.{added, as_record, records, all_of}

-- All records, one behind the other, run on a plain kernel from the start with the answers and the
-- numbers that stand in them, lead to the committed state.
abbrev pub RecordsLeadToTheState : Type 0
RecordsLeadToTheState = (root : ℕ) (setup : Setup) (limit : Limit) (es : List Entry)
    → Legal root setup limit es
    → Run (start root setup) (all_of (records root setup es)) (after root setup es).committed

-- the longest beginning of a history whose records are the first n
pub record HasRecords (root : ℕ) (setup : Setup) (es : List Entry) (n : ℕ) (before : List Entry)
    : Type 0 where
  pub is_before : IsBefore before es
  pub same : records root setup before ≡ take n (records root setup es)
  -- each beginning that has no more records is a beginning of it
  pub longest : (first : List Entry) → IsBefore first es → length (records root setup first) ≤ n
      → IsBefore first before

-- A beginning of the records is the records of a beginning.
abbrev pub BeginningsHaveRecords : Type 0
BeginningsHaveRecords = (root : ℕ) (setup : Setup) (es : List Entry) (n : ℕ)
    → (before : List Entry) × HasRecords root setup es n before

-- The first n records make again what the kernel had committed after such a beginning.
pub record IsMadeAgain
    (root : ℕ) (setup : Setup) (limit : Limit) (es : List Entry) (n : ℕ) (before : List Entry)
    : Type 0 where
  pub has : HasRecords root setup es n before
  pub legal : Legal root setup limit before
  -- they run from the start to that state,
  pub run : Run (start root setup) (all_of (take n (records root setup es)))
      (after root setup before).committed
  -- and to no other
  pub only : (state : Kernel)
      → Run (start root setup) (all_of (take n (records root setup es))) state
      → state ≡ (after root setup before).committed

-- Recovery: whatever first records of a legal history a crash has left, they make again what the
-- kernel had committed after a beginning of it, and each entry is in that beginning whose record,
-- or a later one's, is among them.
abbrev pub FirstRecordsMakeItAgain : Type 0
FirstRecordsMakeItAgain = (root : ℕ) (setup : Setup) (limit : Limit) (es : List Entry) (n : ℕ)
    → Legal root setup limit es
    → (before : List Entry) × IsMadeAgain root setup limit es n before

-- One entry more adds its record behind the others, if it has one. So a record is of one entry: of
-- an executed plain call, or of a committed transaction, whose calls are all in it and in no other.
abbrev pub RecordsGrow : Type 0
RecordsGrow = (root : ℕ) (setup : Setup) (es : List Entry) (e : Entry)
    → records root setup (es ++ e ∷ [])
    ≡ records root setup es ++ as_record (added (after root setup es) e)

-- Each entry of a legal history suits what stood before it.
abbrev pub LegalEntriesSuit : Type 0
LegalEntriesSuit = (root : ℕ) (setup : Setup) (limit : Limit) (es : List Entry) (e : Entry)
    → Legal root setup limit (es ++ e ∷ [])
    → suits (status (after root setup es) e.pid) e.op e.reply ≡ true
