-- What a checker of a stored history decides.
use Rattle.std.specs.Prelude.{ℕ, List}
use Rattle.model.specs.State.{Kernel}
use Rattle.model.specs.Steps.{Run}
use Rattle.model.specs.Entries.{Entry}
use Rattle.model.specs.Forgetting.{Limit}
use Rattle.model.specs.Moments.{Setup, at_start, start}
use Rattle.model.specs.Legal.{Legal, serial}
use Rattle.model.specs.Suits.{AllSuit}

-- The committed state exists: a plain kernel with this root runs the serial list, with the replies
-- and the new numbers that stand there.
pub record CommittedExists (root : ℕ) (setup : Setup) (es : List Entry) : Type 0 where
  pub committed : Kernel
  pub run : Run (start root setup) (serial root setup es) committed

-- The entries pass for a root: each suits, and the committed state exists.
pub record Passes (root : ℕ) (setup : Setup) (es : List Entry) : Type 0 where
  pub suit : AllSuit (at_start root setup) es
  pub exists : CommittedExists root setup es

-- They pass for some root.
abbrev pub PassesForSome : Setup → List Entry → Type 0
PassesForSome setup es = (root : ℕ) × Passes root setup es

-- A legal history passes for its root.
abbrev pub LegalHistoriesPass : Type 0
LegalHistoriesPass = (root : ℕ) (setup : Setup) (limit : Limit) (es : List Entry)
    → Legal root setup limit es → Passes root setup es
