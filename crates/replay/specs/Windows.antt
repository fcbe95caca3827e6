-- What of a history can be looked at.
use Rattle.std.specs.Prelude.{◌≡◌, ◌≢◌, ◌<◌, ◌≤◌, ◌⊎◌, ℕ, List, Option, None, Some, drop, length, ⊤}
use Rattle.std.specs.List.{AllByRecursion}
use Rattle.std.specs.Ordering.{nat_cmp}
use Rattle.model.specs.Entries.{Entry}
use Rattle.model.specs.FiniteMap.{FinMap, get}
use Rattle.replay.specs.Faults.{HoldsEntry}
use Rattle.replay.specs.declared.transaction.Transaction.{Transaction}
use Rattle.replay.specs.declared.transaction.Transaction.TheVariants.{Live, Doomed}
use Rattle.replay.specs.declared.window.Window.{Window}

-- The part stands in the history behind so many entries, and what is kept stands in it.
pub record Shows (es : List Entry) (w : Window) : Type 0 where
  pub part : drop w.offset es ≡ w.part.now
  pub within : w.offset ≤ length es
  pub kept : (position : ℕ) (e : Entry) → get w.kept.now position ≡ Some e → HoldsEntry es position e

-- the entry at a position can be looked at, if there is one
abbrev pub CanSee : Window → ℕ → Type 0
CanSee w position = (w.offset ≤ position) ⊎ (get w.kept.now position ≢ None)

-- the entry at a position is found: there is none only past the end
abbrev pub Finds : List Entry → ℕ → Option Entry → Type 0
Finds es position None = length es ≤ position
Finds es position (Some e) = HoldsEntry es position e

-- each of these can
abbrev pub CanSeeAll : Window → List ℕ → Type 0
CanSeeAll w positions = AllByRecursion (CanSee w) positions

-- each call of a transaction can
abbrev pub CanSeeEach : Window → Option Transaction → Type 0
CanSeeEach w (Some (Live flags positions)) = CanSeeAll w positions
CanSeeEach w (Some (Doomed flags)) = ⊤
CanSeeEach w None = ⊤

-- each call of each transaction can
abbrev pub CanSeeAny : Window → FinMap nat_cmp Transaction → Type 0
CanSeeAny w kept = (q : ℕ) → CanSeeEach w (get kept q)

-- each of these can, and stands in the history
abbrev pub CanKeepAll : List Entry → Window → List ℕ → Type 0
CanKeepAll es w positions = AllByRecursion (λ position. CanSee w position × (position < length es)) positions

-- each call of a transaction can, and does
abbrev pub CanKeep : List Entry → Window → Option Transaction → Type 0
CanKeep es w (Some (Live flags positions)) = CanKeepAll es w positions
CanKeep es w (Some (Doomed flags)) = ⊤
CanKeep es w None = ⊤
