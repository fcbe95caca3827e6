-- Where a history is wrong. Positions are counted from 0.
use Rattle.model.specs.Forgetting.{Limit}
use Rattle.std.specs.Prelude.{◌≡◌, ◌⊎◌, ℕ, suc, ◌<◌, ◌≤◌, Bool, true, false, List, ◌∷◌}
use Rattle.std.specs.Prelude.{drop, take, length, ⊤}
use Rattle.model.specs.State.{Kernel}
use Rattle.model.specs.Steps.{Run}
use Rattle.model.specs.Entries.{Op, End, Reply, Committed, Entry, Executed}
use Rattle.model.specs.Moments.{Setup, Status, live, Moment, status, after, calls_at}
use Rattle.model.specs.Legal.{Legal, items}
use Rattle.model.specs.Passing.{Passes, PassesForSome}
use Rattle.replay.specs.declared.checking.CheckFault.{CheckFault}
use Rattle.replay.specs.declared.checking.CheckFault.TheVariants.{Wrong, NoMemory}

-- this entry stands at a position
pub record HoldsEntry (es : List Entry) (at : ℕ) (e : Entry) : Type 0 where
  pub rest : List Entry
  pub here : drop at es ≡ e ∷ rest

-- the calls that a process has made in its transaction before the entry at a position
abbrev pub calls_before : ℕ → Setup → List Entry → ℕ → ℕ → List Executed
calls_before root setup es pid at = calls_at (after root setup (take at es)) pid

-- At a position stands the call of this number, from 0, of the transaction that a process is in at the
-- entry `at`: before that position the transaction had so many calls, and from then on it has more.
pub record IsCall (root : ℕ) (setup : Setup) (es : List Entry) (pid at number position : ℕ)
    : Type 0 where
  pub earlier : position < at
  pub before : length (calls_before root setup es pid position) ≡ number
  pub since : (later : ℕ) → position < later → later ≤ at
      → number < length (calls_before root setup es pid later)

-- The entries before a position pass for a root, and in the state that they commit the first calls of
-- the transaction that a process is in there can be run, so many of them.
pub record RunsOn (root : ℕ) (setup : Setup) (es : List Entry) (pid at count : ℕ)
    : Type 0 where
  pub passes : Passes root setup (take at es)
  pub after : Kernel
  pub run : Run passes.exists.committed
      (items pid (take count (calls_before root setup es pid at))) after

-- whether an entry commits a transaction: the End of a live one, answered so
abbrev pub commits_from : Status → Op → Reply → Bool
commits_from (live flags age calls) End Committed = true
commits_from _ _ _ = false

abbrev pub commits : Moment → Entry → Bool
commits m e = commits_from (status m e.pid) e.op e.reply

-- The call at a position is the first of the transaction that an entry commits up to which it cannot be
-- run, whatever the root: the calls before it can be for some root, with it they can be for none.
pub record IsFirstWrongCall (setup : Setup) (es : List Entry) (e : Entry) (at position : ℕ)
    : Type 0 where
  pub root : ℕ
  pub passes : Passes root setup (take at es)
  pub commits : commits (after root setup (take at es)) e ≡ true
  pub number : ℕ
  pub call : IsCall root setup es e.pid at number position
  pub runs : (some : ℕ) × RunsOn some setup es e.pid at number
  pub fails : (each : ℕ) → RunsOn each setup es e.pid at (suc number) → ⊥

-- The position is the entry's own, and it commits nothing, for no root for which those before it pass.
pub record IsItself (setup : Setup) (es : List Entry) (e : Entry) (at position : ℕ)
    : Type 0 where
  pub same : position ≡ at
  pub commits_not : (root : ℕ) → Passes root setup (take at es)
      → commits (after root setup (take at es)) e ≡ false

-- The position at which a history is wrong: up to some entry, and no earlier one, it passes for no root.
-- The position is that entry's, or, where the entry commits a transaction, that of the first call that
-- cannot be run.
pub record IsFirstWrong (setup : Setup) (es : List Entry) (position : ℕ) : Type 0 where
  pub at : ℕ
  pub entry : Entry
  pub here : HoldsEntry es at entry
  pub before : PassesForSome setup (take at es)
  pub fails : PassesForSome setup (take (suc at) es) → ⊥
  pub is : IsItself setup es entry at position ⊎ IsFirstWrongCall setup es entry at position

-- What a fault says of a history. It counts the position from 1. Where memory was refused it says nothing.
abbrev pub IsFault : Setup → List Entry → CheckFault → Type 0
IsFault setup es (Wrong position) =
    (before : ℕ) × (position ≡ suc before) × IsFirstWrong setup es before
IsFault setup es NoMemory = ⊤

-- A legal history has no fault: of a kernel's own history the checker never says that it is wrong.
abbrev pub LegalHistoriesHaveNoFault : Type 0
LegalHistoriesHaveNoFault =
    (root : ℕ) (setup : Setup) (limit : Limit) (es : List Entry) → Legal root setup limit es
    → (position : ℕ) → IsFault setup es (Wrong position) → ⊥
