-- The headline: what a user of transactions is promised of each history. Transactions are
-- serializable, isolated until they commit, and all or nothing (Porter, Hofmann, Rossbach, Benn and
-- Witchel, Operating System Transactions, SOSP 2009).
use Rattle.std.specs.Prelude.{◌≡◌, ℕ, List, ◌∷◌, ◌++◌}
use Rattle.model.specs.State.{Kernel}
use Rattle.model.specs.Steps.{Run}
use Rattle.model.specs.Entries.{Entry}
use Rattle.model.specs.Forgetting.{Limit}
use Rattle.model.specs.Moments.{Setup, Moment, status, start, after, calls_at, seen_by}
use Rattle.model.specs.Legal.{Legal, items, serial, serial_from}
use Rattle.model.specs.Replies.{spoken_at}

-- The entry is what its process and operation ask for after what stood before: its reply, with the
-- cause that a loser is told, and the processes that it dooms.
pub record IsAsAsked (limit : Limit) (m : Moment) (e : Entry) : Type 0 where
  pub reply : e.reply ≡ (spoken_at limit m e.pid (status m e.pid) e.op).reply
  pub doomed : e.doomed ≡ (spoken_at limit m e.pid (status m e.pid) e.op).doomed

-- The history is strictly serializable, and the state is what it has committed.
pub record IsSerializable
    (root : ℕ) (setup : Setup) (limit : Limit) (es : List Entry) (state : Kernel)
    : Type 0 where
  -- Serial: a kernel without transactions, given one call after the other, comes to this state and
  -- answers each call as the history did. The calls are the executed plain ones at their entries,
  -- and those of each committed transaction together at its end; a call of an aborted transaction
  -- is never among them.
  pub run : Run (start root setup) (serial root setup es) state
  -- Strict: what has committed before an entry stands before all that commits from that entry on.
  pub strict : (before later : List Entry) → es ≡ before ++ later
      → serial root setup es
      ≡ serial root setup before ++ serial_from (after root setup before) later
  -- Isolated: the calls of each live transaction, run alone from the committed state, are answered
  -- as they were, and lead to what its process sees.
  pub alone : (pid : ℕ)
      → Run state (items pid (calls_at (after root setup es) pid))
      (seen_by (after root setup es) pid)
  -- Each reply, each doom and each cause is what stood before its entry asks for.
  pub replies : (before : List Entry) (e : Entry) (later : List Entry) → es ≡ before ++ e ∷ later
      → IsAsAsked limit (after root setup before) e

-- Each legal history is strictly serializable.
abbrev pub LegalHistoriesAreSerializable : Type 0
LegalHistoriesAreSerializable = (root : ℕ) (setup : Setup) (limit : Limit) (es : List Entry)
    → Legal root setup limit es
    → IsSerializable root setup limit es (after root setup es).committed
