-- A cell of a block as one number.
use Rattle.std.specs.Prelude.{◌≡◌, ℕ, zero, suc, refl, Option, Some, None}

-- what was written there: nothing at 0, and else the byte below this number
abbrev pub written_by : ℕ → Option ℕ
written_by zero = None
written_by (suc byte) = Some byte

abbrev pub state_of : Option ℕ → ℕ
state_of None = 0
state_of (Some byte) = suc byte

pub state_again : (state : ℕ) → state_of (written_by state) ≡ state
state_again zero = refl
state_again (suc byte) = refl
