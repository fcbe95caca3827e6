-- Where a history fails for one root.
use Rattle.std.specs.List.{AllByRecursion}
use Rattle.std.specs.Prelude.{◌≡◌, ◌≢◌, ◌⊎◌, ℕ, suc, true, false, List, [], ◌∷◌, ◌++◌, take, drop, ⊤}
use Rattle.model.specs.State.{Kernel}
use Rattle.model.specs.Steps.{Run}
use Rattle.model.specs.Entries.{Entry, Executed}
use Rattle.model.specs.Moments.{Setup, run_by, status, after}
use Rattle.model.specs.Legal.{items}
use Rattle.renaming_laws.specs.Laws.{TellsRoot}
use Rattle.model.specs.Suits.{suits}
use Rattle.model.specs.Passing.{Passes}
use Rattle.replay.specs.Transactions.{call_first}
use Rattle.replay.specs.Faults.{HoldsEntry, calls_before, commits, IsCall}
use Rattle.replay.specs.declared.audit.Stop.{Stop}
use Rattle.replay.specs.declared.audit.Stop.TheVariants.{Wrong, NoMemory}

-- This call stands at a position; from a state some calls of its process can be run, but not it after them.
pub record StopsAt (k : Kernel) (pid : ℕ) (es : List Entry) (position : ℕ) (first : List Executed)
    (call : Executed) : Type 0 where
  pub here : call_first (drop position es) ≡ call ∷ []
  pub mid : Kernel
  pub runs : Run k (items pid first) mid
  pub fails : (after : Kernel) → Run k (items pid (first ++ call ∷ [])) after → ⊥

module _ (root : ℕ) (setup : Setup) (es : List Entry) (at position : ℕ) (e : Entry)
    (passes : Passes root setup (take at es)) where
  -- an entry that does not suit
  pub record IsUnsuited : Type 0 where
    pub same : position ≡ at
    pub unsuited : suits (status (after root setup (take at es)) e.pid) e.op e.reply ≡ false

  -- one that suits, and is a call that cannot be run
  pub record IsWrongCall : Type 0 where
    pub same : position ≡ at
    pub suits : suits (status (after root setup (take at es)) e.pid) e.op e.reply ≡ true
    pub commits_not : commits (after root setup (take at es)) e ≡ false
    pub call : Executed
    pub only : run_by (status (after root setup (take at es)) e.pid) e.op e.reply e.chosen
        ≡ call ∷ []
    pub stops : StopsAt passes.exists.committed e.pid es position [] call

  -- one that commits a transaction, of which a call cannot be run
  pub record IsWrongCommit : Type 0 where
    pub commits : commits (after root setup (take at es)) e ≡ true
    pub number : ℕ
    pub is_call : IsCall root setup es e.pid at number position
    pub call : Executed
    pub with_it : take (suc number) (calls_before root setup es e.pid at)
        ≡ take number (calls_before root setup es e.pid at) ++ call ∷ []
    pub stops : StopsAt passes.exists.committed e.pid es position
        (take number (calls_before root setup es e.pid at)) call

-- The entries before a position pass for a root, but with that one they do not.
pub record FailsAt (root : ℕ) (setup : Setup) (es : List Entry) (at position : ℕ) : Type 0 where
  pub entry : Entry
  pub here : HoldsEntry es at entry
  pub passes : Passes root setup (take at es)
  pub how : IsUnsuited root setup es at position entry passes
      ⊎ (IsWrongCall root setup es at position entry passes
      ⊎ IsWrongCommit root setup es at position entry passes)

-- the call at a position tells this root
pub record TellsAt (root : ℕ) (es : List Entry) (position : ℕ) : Type 0 where
  pub call : Executed
  pub here : call_first (drop position es) ≡ call ∷ []
  pub tells : TellsRoot root call.call call.answer

-- a number that no entry chose
abbrev pub IsUnchosen : ℕ → List Entry → Type 0
IsUnchosen n es = AllByRecursion (λ e. AllByRecursion (λ m. m ≢ n) e.chosen) es

-- A number fails there that no entry chose, and if the call there tells a root, it is this one.
pub record IsTold (setup : Setup) (es : List Entry) (root at position : ℕ) : Type 0 where
  pub guess : ℕ
  pub unchosen : IsUnchosen guess es
  pub fails : FailsAt guess setup es at position
  pub told : (r : ℕ) → TellsAt r es position → r ≡ root

-- what a stop of the checker says for one root
abbrev pub IsStop : ℕ → Setup → List Entry → Stop → Type 0
IsStop root setup es (Wrong at position) = FailsAt root setup es at position
IsStop root setup es NoMemory = ⊤
