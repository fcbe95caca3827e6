-- An input, line by line. It is all that was read, in whatever pieces it came.
use Rattle.std.specs.Prelude.{◌≡◌, ◌++◌, ◌∷◌, ◌==◌, ℕ, not, List, [], Bool, true, flat_map}
use Rattle.std.specs.List.{list_all}
use Rattle.script.specs.Characters.{newline}

-- a line with its line feed
abbrev pub ended : List ℕ → List ℕ
ended line = line ++ newline ∷ []

-- no line feed is among the bytes
abbrev pub is_one_line : List ℕ → Bool
is_one_line bytes = list_all (λ b. not (b == newline)) bytes

-- The input is these lines, each ended by a line feed, and behind them a line that is not ended,
-- perhaps empty.
pub record AreLines (input : List ℕ) (lines : List (List ℕ)) (rest : List ℕ) : Type 0 where
  pub whole : input ≡ flat_map ended lines ++ rest
  pub each : list_all is_one_line lines ≡ true
  pub last : is_one_line rest ≡ true

-- The input begins with these lines, and goes on with this one, which may not be there whole.
pub record BeginsWith (input : List ℕ) (lines : List (List ℕ)) (next : List ℕ) : Type 0 where
  pub beyond : List ℕ
  pub whole : input ≡ flat_map ended lines ++ (next ++ beyond)
  pub each : list_all is_one_line lines ≡ true
  pub last : is_one_line next ≡ true
