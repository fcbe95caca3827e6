-- The processes of the first state.
use Rattle.std.specs.Prelude.{◌≡◌, ℕ, suc, ◌<◌, true, false, ◌⊎◌, length, get_or}
use Rattle.model.specs.Moments.{Setup, is_alive, start, at_start, priority_of}

-- The first processes live, with the priorities given; and no others.
pub record StartsWith (root : ℕ) (setup : Setup) : Type 0 where
  pub made : (start root setup).made ≡ length setup.priorities
  pub alive : (i : ℕ) → i < length setup.priorities → is_alive (start root setup) (suc i) ≡ true
  pub priority : (i : ℕ) → i < length setup.priorities
      → priority_of (at_start root setup) (suc i) ≡ get_or setup.priorities i 0
  pub none : (q : ℕ) → (q ≡ 0) ⊎ (length setup.priorities < q)
      → is_alive (start root setup) q ≡ false

abbrev pub FirstProcessesLive : Type 0
FirstProcessesLive = (root : ℕ) (setup : Setup) → StartsWith root setup
