-- What a process sees of itself without a touch.
use Rattle.std.specs.Prelude.{ℕ, ◌-◌, List, [], ◌∷◌, Option, Some, None}
use Rattle.model.specs.State.{Kernel}
use Rattle.model.specs.Calls.{Own, Slot, own, Exit}
use Rattle.model.specs.Plans.{free_from, open_limit}

-- in every call but fork
abbrev pub own_in : Kernel → ℕ → Own
own_in k pid = own k pid Exit

-- its open descriptors
abbrev pub table_of : Kernel → ℕ → List (ℕ × Slot)
table_of k pid = (own_in k pid).table

-- the lowest of those that are free, from a descriptor on
abbrev pub first_of : List ℕ → Option ℕ
first_of [] = None
first_of (f ∷ fs) = Some f

unfoldable pub first_free : Kernel → ℕ → ℕ → Option ℕ
first_free k pid first =
    first_of (free_from (table_of k pid) first (open_limit (own_in k pid) - first))
