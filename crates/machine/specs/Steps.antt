-- What one step does, and what steps in a row do.
use Rattle.std.specs.Prelude.{◌≡◌, ◌≢◌, ◌↔◌, ℕ, Bool, true, false, List, [], ◌∷◌, ◌++◌, MatchBool}
use Rattle.history.specs.Log.{Log, all_forgotten}
use Rattle.model.specs.Moments.{status, has_free}
use Rattle.model.specs.Replies.{needed}
use Rattle.model.specs.Entries.{Entry, Op, Reply, HistoryFull, NoMemory}
use Rattle.machine.specs.Shown.{Shown, Kept, limit_of, moment}

-- whether a reply stands for no entry
abbrev pub is_no_entry : Reply → Bool
is_no_entry HistoryFull = true
is_no_entry NoMemory = true
is_no_entry _ = false

abbrev pub entry_of : ℕ → Op → Reply → List ℕ → List ℕ → Entry
entry_of pid op reply chosen doomed =
    record { pid = pid; op = op; reply = reply; chosen = chosen; doomed = doomed }

abbrev pub with_entry : Log → Entry → Log
with_entry log e = record log { entries = log.entries ++ e ∷ [] }

-- one entry more, of this process, operation and reply, with some new numbers and some doomed
pub record Added (old new : Log) (pid : ℕ) (op : Op) (reply : Reply) : Type 0 where
  pub chosen : List ℕ
  pub doomed : List ℕ
  pub is : new ≡ with_entry old (entry_of pid op reply chosen doomed)

-- whether so many places are free as the operation needs
abbrev pub has_place : Log → ℕ → Op → Bool
has_place log pid op = has_free (limit_of log) (moment log) (needed (status (moment log) pid) op)

pub record IsStep (old new : Shown) (pid : ℕ) (op : Op) (reply : Reply) : Type 0 where
  -- an entry, or nothing has changed
  pub entry : MatchBool (is_no_entry reply) (new ≡ old) (Added old.log new.log pid op reply)
  -- the history is full exactly where a place is missing
  pub full : (reply ≡ HistoryFull) ↔ (has_place old.log pid op ≡ false)
  -- what needs no place takes no memory
  pub memory : needed (status (moment old.log) pid) op ≡ 0 → reply ≢ NoMemory

-- one reply an operation, each a step
abbrev pub Steps : Shown → List (ℕ × Op) → List Reply → Shown → Type 0
Steps old [] [] new = new ≡ old
Steps old (o ∷ ops) (reply ∷ replies) new =
    (mid : Shown) × IsStep old mid o.0 o.1 reply × Kept mid × Steps mid ops replies new
Steps old _ _ new = ⊥

-- all that were kept are forgotten, and nothing else has changed
abbrev pub forgetting : Shown → Shown
forgetting v = record v { log = all_forgotten v.log }
