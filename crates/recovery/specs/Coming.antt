-- What a kernel comes to by calls that are made again.
use Rattle.std.specs.Prelude.{◌≡◌, ℕ, List, [], ◌∷◌, ◌++◌, Ok}
use Rattle.history.specs.Log.{Log}
use Rattle.machine.specs.Shown.{setup_of}
use Rattle.model.specs.Calls.{Call, Answer}
use Rattle.entry_codec.specs.Entries.{entries_bytes}
use Rattle.model.specs.Entries.{Entry, Reply, Answers}
use Rattle.model.specs.Moments.{Setup, idle, after}
use Rattle.redo_records.specs.Records.{records}
use Rattle.store_form.specs.Laws.{told_records}
use Rattle.store_form.specs.Stores.{Told, told_of, IsRecord}

-- A history of this setup: its records tell these calls, and no process is in a transaction.
pub record Comes (setup : Setup) (log : Log) (told : List Told) : Type 0 where
  pub of_setup : setup_of log ≡ setup
  pub idles : (q : ℕ) → (after 0 setup log.entries).phase q ≡ idle
  pub tells : told_records (records 0 setup log.entries) ≡ told

-- Whatever one history comes to, the other one comes to that and these calls behind it.
abbrev pub Tells : Log → Log → List Told → Type 0
Tells old new more =
    (setup : Setup) (told : List Told) → Comes setup old told → Comes setup new (told ++ more)

-- whatever one history comes to, the other one comes to
abbrev pub Stays : Log → Log → Type 0
Stays old new = (setup : Setup) (told : List Told) → Comes setup old told → Comes setup new told

-- one call more, with this answer
abbrev pub IsTold : Log → Log → ℕ → Call → Answer → Type 0
IsTold old new pid call answer =
    Tells old new (record { pid = pid; call = call; answer = Ok answer } ∷ [])

-- what a reply says of the history, where it is an answer
abbrev pub Answered : Log → Log → ℕ → Call → Reply → Type 0
Answered old new pid call reply =
    (answer : Answer) → reply ≡ Answers answer → IsTold old new pid call answer

-- the bytes are a record, and its calls were made
abbrev pub IsMadeAgain : Log → Log → List ℕ → Type 0
IsMadeAgain old new payload =
    (es : List Entry) × IsRecord es × (payload ≡ entries_bytes es) × Tells old new (told_of es)
