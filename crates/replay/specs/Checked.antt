-- What a check of a history that comes in parts has come to.
use Rattle.std.specs.Prelude.{◌≡◌, ◌≢◌, ℕ, suc, List, Option, None, Some, length, ⊤}
use Rattle.std.specs.List.{AllByRecursion}
use Rattle.std.specs.Ordering.{nat_cmp}
use Rattle.model.specs.Entries.{Entry}
use Rattle.model.specs.FiniteMap.{FinMap, get}
use Rattle.model.specs.Moments.{Setup}
use Rattle.replay.specs.Failing.{FailsAt}
use Rattle.replay.specs.Faults.{HoldsEntry}
use Rattle.replay.specs.Ran.{Follows}
use Rattle.replay.specs.SoFar.{Checked}
use Rattle.replay.specs.declared.checker.Reached.{Reached}
use Rattle.replay.specs.declared.checking.CheckFault.{CheckFault}
use Rattle.replay.specs.declared.checking.CheckFault.TheVariants as fault
use Rattle.replay.specs.declared.transaction.Transaction.{Transaction}
use Rattle.replay.specs.declared.transaction.Transaction.TheVariants.{Live, Doomed}

-- the entries of these positions are kept
abbrev pub AreThere : FinMap nat_cmp Entry → Option Transaction → Type 0
AreThere kept (Some (Live flags positions)) = AllByRecursion (λ position. get kept position ≢ None) positions
AreThere kept (Some (Doomed flags)) = ⊤
AreThere kept None = ⊤

-- each entry that is kept stands at its position
abbrev pub AreHeld : List Entry → FinMap nat_cmp Entry → Type 0
AreHeld es kept = (position : ℕ) (e : Entry) → get kept position ≡ Some e → HoldsEntry es position e

-- All entries so far pass for the root: the check has come to the state that they commit, and has of
-- each live transaction the entries of its calls.
pub record HasChecked (reached : Reached) (so_far : Checked) : Type 0 where
  pub count : reached.count ≡ length so_far.entries
  pub follows : Follows so_far.root so_far.setup so_far.entries (length so_far.entries)
      reached.audit.kernel reached.audit.transactions
  pub held : AreHeld so_far.entries reached.kept
  pub there : (q : ℕ) → AreThere reached.kept (get reached.audit.transactions q)

-- what is kept stays, and more may come
abbrev pub Grows : FinMap nat_cmp Entry → FinMap nat_cmp Entry → Type 0
Grows old new = (position : ℕ) → get old position ≢ None → get new position ≢ None

-- What a fault says of a history for one root. Where memory was refused it says nothing.
abbrev pub IsFaultFor : ℕ → Setup → List Entry → CheckFault → Type 0
IsFaultFor root setup es (fault.Wrong position) =
    (at before : ℕ) × (position ≡ suc before) × FailsAt root setup es at before
IsFaultFor root setup es fault.NoMemory = ⊤
