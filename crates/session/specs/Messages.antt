-- Messages that were read or written.
use Rattle.std.specs.Prelude.{ℕ, List, [], ◌∷◌, ◌++◌, take, Option, option_map, Result, Ok, Err}

-- known messages, and further ones behind them
abbrev pub with_messages : Option (List (List ℕ)) → List (List ℕ) → Option (List (List ℕ))
with_messages known more = option_map (λ all. all ++ more) known

-- the message of a read that returned its length, or none
abbrev pub read_by : {E : Type 0} → Result ℕ E → List ℕ → List (List ℕ)
read_by (Ok n) buffer = take n buffer ∷ []
read_by (Err why) buffer = []
