-- How many processes have touched something.
use Rattle.std.specs.Prelude.{ℕ, List, [], ◌∷◌, Bool, true, false, count_by}
use Rattle.model.specs.Steps.{Touch}

abbrev pub is_active : List Touch → Bool
is_active [] = false
is_active (t ∷ ts) = true

abbrev pub active_in : List (List Touch) → ℕ
active_in lists = count_by is_active lists
