-- Words that name something.
use Rattle.std.specs.Prelude.{ℕ, List, [], ◌∷◌, Option, Some, None, if◌then◌else◌}
use Rattle.std.specs.Borrow.{Bor}
use Rattle.std.specs.Str.{bytes_eq}

-- what a word names in a table
abbrev pub lookup : {A : Type 0} → List (Bor (List ℕ) × A) → List ℕ → Option A
lookup [] word = None
lookup (e ∷ es) word = if bytes_eq word e.0.now then Some e.1 else lookup es word
