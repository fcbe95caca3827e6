-- The lowest free descriptor of a process, which is the one that a call opens (POSIX.1-2017, 2.14 File
-- Descriptor Allocation), and the lowest one of which a patch notes something.
use Rattle.std.specs.Prelude.{◌≡◌, ◌≢◌, ℕ, ◌+◌, ◌<◌, ◌≤◌, Option, Some, None}
use Rattle.std.specs.Ordering.{nat_cmp}
use Rattle.model.specs.FiniteMap.{FinMap, get}
use Rattle.fdtable.specs.Patches.{Given}

-- a descriptor is free, and all from this one on below it are open
abbrev pub IsFree : FinMap nat_cmp ℕ → ℕ → ℕ → Type 0
IsFree table first f = (first ≤ f) × (get table f ≡ None)
    × ((g : ℕ) → first ≤ g → g < f → get table g ≢ None)

-- the lowest from this one on that is free, below a limit, or there is none
abbrev pub IsLowest : FinMap nat_cmp ℕ → ℕ → ℕ → Option ℕ → Type 0
IsLowest table first limit (Some f) = IsFree table first f × (f < limit)
IsLowest table first limit None = (g : ℕ) → first ≤ g → g < limit → get table g ≢ None

-- the lowest that is free, and the lowest behind it, or there are no two
abbrev pub AreTwoLowest : FinMap nat_cmp ℕ → ℕ → Option (ℕ × ℕ) → Type 0
AreTwoLowest table limit (Some (f, g)) =
    IsLowest table 0 limit (Some f) × IsLowest table (f + 1) limit (Some g)
AreTwoLowest table limit None =
    (f : ℕ) → IsLowest table 0 limit (Some f) → IsLowest table (f + 1) limit None

-- the lowest from this one on of which something is noted, or there is none
abbrev pub IsNotedFrom : Given → ℕ → Option ℕ → Type 0
IsNotedFrom patch first (Some f) = (first ≤ f) × (get patch f ≢ None)
    × ((g : ℕ) → first ≤ g → g < f → get patch g ≡ None)
IsNotedFrom patch first None = (g : ℕ) → first ≤ g → get patch g ≡ None

-- the lowest from this one on that is open, or there is none
abbrev pub IsOpenFrom : FinMap nat_cmp ℕ → ℕ → Option ℕ → Type 0
IsOpenFrom table first (Some f) = (first ≤ f) × (get table f ≢ None)
    × ((g : ℕ) → first ≤ g → g < f → get table g ≡ None)
IsOpenFrom table first None = (g : ℕ) → first ≤ g → get table g ≡ None
