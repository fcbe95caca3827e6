-- What the checker has done so far.
use Rattle.std.specs.Prelude.{◌≡◌, ℕ, ◌<◌, ◌≤◌, true, List, [], ◌∷◌, ◌++◌, Option, Some, None, drop, take}
use Rattle.std.specs.Prelude.{length, ⊤}
use Rattle.std.specs.Ordering.{nat_cmp}
use Rattle.model.specs.FiniteMap.{FinMap, get}
use Rattle.model.specs.State.{Kernel}
use Rattle.model.specs.Steps.{Run}
use Rattle.model.specs.Entries.{Entry, Executed}
use Rattle.model.specs.Moments.{Setup, after, at_start, is_alive, start}
use Rattle.model.specs.Legal.{items, serial}
use Rattle.freeing_laws.specs.Sweep.{IsTidied}
use Rattle.model.specs.Suits.{AllSuit}
use Rattle.replay.specs.Faults.{HoldsEntry, calls_before}
use Rattle.replay.specs.Transactions.{IsKept, call_first, call_of, calls_at_positions, is_end, run_kept}
use Rattle.replay.specs.declared.transaction.Transaction.{Transaction}
use Rattle.replay.specs.declared.transaction.Transaction.TheVariants.{Live, Doomed}

-- calls of one process have run, and the state is tidied
pub record Ran (before : Kernel) (pid : ℕ) (es : List Executed) (after : Kernel) : Type 0 where
  pub run : Run before (items pid es) after
  pub tidied : IsTidied after

-- a living process cannot make these calls
abbrev pub CannotRun : Kernel → ℕ → List Executed → Type 0
CannotRun before pid es = is_alive before pid ≡ true → (after : Kernel) → Run before (items pid es) after
    → ⊥

-- At a position kept of a transaction, behind those of other calls, stands its next call, if one was
-- executed there: before it the transaction had the calls of the other positions, and from then on
-- that one too.
pub record IsNext (root : ℕ) (setup : Setup) (es : List Entry) (pid at : ℕ) (first : List ℕ)
    (position : ℕ) : Type 0 where
  pub earlier : position < at
  pub before : length (calls_before root setup es pid position) ≡ length (calls_at_positions es first)
  pub since : (q : ℕ) → position < q → q ≤ at → length (calls_at_positions es (first ++ position ∷ []))
      ≤ length (calls_before root setup es pid q)

-- so it is with each position that is kept
abbrev pub AreNext : ℕ → Setup → List Entry → ℕ → ℕ → Option Transaction → Type 0
AreNext root setup es pid at (Some (Live flags positions)) =
    (first rest : List ℕ) (position : ℕ) → positions ≡ first ++ position ∷ rest
    → IsNext root setup es pid at first position
AreNext root setup es pid at (Some (Doomed flags)) = ⊤
AreNext root setup es pid at None = ⊤

-- The first entries pass for a root: the state is the committed one, and of each process is kept
-- what its status is.
pub record Follows (root : ℕ) (setup : Setup) (es : List Entry) (at : ℕ) (state : Kernel)
    (kept : FinMap nat_cmp Transaction) : Type 0 where
  pub suit : AllSuit (at_start root setup) (take at es)
  pub run : Run (start root setup) (serial root setup (take at es)) state
  pub tidied : IsTidied state
  pub committed : state ≡ (after root setup (take at es)).committed
  pub phases : (q : ℕ) → IsKept es (get kept q) ((after root setup (take at es)).phase q)
  pub positions : (q : ℕ) → AreNext root setup es q at (get kept q)

-- what the entry at a position runs has run
abbrev pub RanAt : List Entry → ℕ → Option Transaction → Kernel → Kernel → Type 0
RanAt es at kept before after = (e : Entry) → HoldsEntry es at e
    → Ran before e.pid (run_kept (is_alive before e.pid) kept es e.op e.reply e.chosen) after

-- a position of these up to whose call the calls run, and with it they do not
pub record StopsIn (before : Kernel) (pid : ℕ) (es : List Entry) (positions : List ℕ) (position : ℕ)
    : Type 0 where
  pub first : List ℕ
  pub rest : List ℕ
  pub is : positions ≡ first ++ position ∷ rest
  pub mid : Kernel
  pub ran : Ran before pid (calls_at_positions es first) mid
  pub fails : CannotRun mid pid (call_first (drop position es))

-- such a position of a transaction that an entry ends
abbrev pub StopsInside : Kernel → Transaction → List Entry → Entry → ℕ → Type 0
StopsInside before (Live flags positions) es e position =
    (is_end e.op ≡ true) × StopsIn before e.pid es positions position
StopsInside before (Doomed flags) es e position = ⊥

-- or an entry's own position, whose call cannot be made outside a transaction
abbrev pub StopsHere : Kernel → Option Transaction → List Entry → ℕ → Entry → ℕ → Type 0
StopsHere before None es at e position = (position ≡ at) × CannotRun before e.pid (call_of e)
StopsHere before (Some transaction) es at e position = StopsInside before transaction es e position

-- of the entry at a position, whose process lives
abbrev pub StopsNow : List Entry → ℕ → Option Transaction → Kernel → ℕ → Type 0
StopsNow es at kept before position = (e : Entry) → HoldsEntry es at e
    → (is_alive before e.pid ≡ true) × StopsHere before kept es at e position
