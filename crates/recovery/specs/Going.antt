-- How far the replay of a log has come.
use Rattle.std.specs.Prelude.{◌≡◌, ℕ, Bool, List, [], ◌∷◌, ◌++◌, MatchBool}
use Rattle.history.specs.Log.{Log as History}
use Rattle.machine.specs.Shown.{Shown}
use Rattle.model.specs.Moments.{Setup}
use Rattle.sqlite_disk.specs.declared.Disk.{Ghosts}
use Rattle.commit_log.specs.declared.log.Log.{Log}
use Rattle.commit_log.specs.declared.reader.Reader.{Reader}
use Rattle.commit_log.specs.File.{HasHeader, Reads}
use Rattle.commit_log.specs.Log.{disk_of as log_disk, Stands}
use Rattle.commit_log.specs.Reader.{disk_of, payload_of, IsAt}
use Rattle.commit_log.specs.Reads.{IsClean, OnlyReads}
use Rattle.store_form.specs.Setups.{setup_bytes, IsSetup}
use Rattle.store_form.specs.Stores.{Told, IsStore, RunsTo}
use Rattle.recovery.specs.Coming.{Comes}

-- The first of these payloads is a setup, and it alone was read.
pub record IsBegun {D : Type 0} (g : Ghosts D) (reader : Reader D g) (setup : Setup)
    (payloads : List (List ℕ)) : Type 0 where
  pub later : List (List ℕ)
  pub whole : payloads ≡ setup_bytes setup ∷ later
  pub is_at : IsAt reader (setup_bytes setup ∷ []) later

-- A reader at its first record has read one: it is the first of the payloads.
abbrev pub IsFirst : {D : Type 0} (g : Ghosts D) → Reader D g → Reader D g → Type 0
IsFirst g old new =
    IsClean g (disk_of new) → (payloads : List (List ℕ)) → IsAt old [] payloads
    → (later : List (List ℕ)) × (payloads ≡ payload_of new ∷ later) × IsAt new (payload_of new ∷ []) later

-- what was read of a reader at its first record is this setup
pub record BeginsBy {D : Type 0} (g : Ghosts D) (old new : Reader D g) (setup : Setup)
    : Type 0 where
  pub is_setup : IsSetup setup
  pub begins : IsClean g (disk_of new) → (payloads : List (List ℕ)) → IsAt old [] payloads
      → IsBegun g new setup payloads

-- Some of these payloads were read, which are a store; the kernel has come to what it tells.
pub record Goes {D : Type 0} (g : Ghosts D) (reader : Reader D g) (log : History)
    (payloads : List (List ℕ)) : Type 0 where
  pub setup : Setup
  pub read : List (List ℕ)
  pub rest : List (List ℕ)
  pub told : List Told
  pub whole : payloads ≡ read ++ rest
  pub is_at : IsAt reader read rest
  pub store : IsStore setup read told
  pub comes : Comes setup log told

-- These payloads are a store of the kernel's setup. What they tell is what the records of its history
-- tell, and runs to its state; no process is in a transaction; and the reader is behind them all.
pub record IsReplayed {D : Type 0} (g : Ghosts D) (reader : Reader D g) (shown : Shown)
    (payloads : List (List ℕ)) : Type 0 where
  pub setup : Setup
  pub told : List Told
  pub is_at : IsAt reader payloads []
  pub store : IsStore setup payloads told
  pub comes : Comes setup shown.log told
  pub runs : RunsTo setup told shown.state

-- how a replay stands behind one more record, or behind the last one
abbrev pub Stood : {D : Type 0} (g : Ghosts D) → Bool → Reader D g → Shown → List (List ℕ) → Type 0
Stood g ended reader shown payloads =
    MatchBool ended (IsReplayed g reader shown payloads) (Goes g reader shown.log payloads)

-- A disk was read whole by a reader, the kernel has come to what its payloads tell, and the log has
-- all of them. The key is that of the file's digests, as its header has it.
pub record IsReopened {D : Type 0} (g : Ghosts D) (disk : D) (shown : Shown) (log : Log D g)
    : Type 0 where
  pub key : ℕ
  pub reader : Reader D g
  pub same : OnlyReads g disk (disk_of reader)
  pub header : IsClean g (disk_of reader) → HasHeader key (g.seen disk)
  pub replayed : IsClean g (disk_of reader) → (payloads : List (List ℕ))
      → Reads key (g.seen disk) payloads → IsReplayed g reader shown payloads
  pub stands : IsClean g (log_disk log) → (payloads : List (List ℕ)) → IsAt reader payloads []
      → Stands log payloads []
