-- Processes that stand in a list, each once.
use Rattle.std.specs.Prelude.{◌≡◌, ℕ, List, [], ◌∷◌, ◌++◌, filter, Bool, true, false, not, ◌==◌, ⊤, if◌then◌else◌}
use Rattle.std.specs.List.{list_any}

-- whether a process is among these
abbrev pub among : ℕ → List ℕ → Bool
among q ps = list_any (λ p. p == q) ps

-- none stands there again
abbrev pub AreDistinct : List ℕ → Type 0
AreDistinct [] = ⊤
AreDistinct (p ∷ ps) = (among p ps ≡ false) × AreDistinct ps

-- one process more, unless it is there already
abbrev pub with_pid : ℕ → List ℕ → List ℕ
with_pid p ps = if among p ps then ps else ps ++ p ∷ []

-- a process less
abbrev pub without_pid : ℕ → List ℕ → List ℕ
without_pid p ps = filter (λ q. not (q == p)) ps

abbrev pub joined_if : Bool → ℕ → List ℕ → List ℕ
joined_if true p ps = with_pid p ps
joined_if false p ps = ps

abbrev pub left_if : Bool → ℕ → List ℕ → List ℕ
left_if true p ps = without_pid p ps
left_if false p ps = ps

-- whether both are writes or both are reads
abbrev pub alike : Bool → Bool → Bool
alike true v = v
alike false v = not v
