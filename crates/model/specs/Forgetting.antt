-- How many entries there may be, where a kernel forgets entries to have their places again.
use Rattle.std.specs.Prelude.{ℕ, ◌+◌, ◌-◌, List, [], ◌∷◌, nat_le, if◌then◌else◌}

-- how many entries are kept at most, and how many were forgotten, each time, the first first
pub record Limit : Type 0 where
  pub capacity : ℕ
  pub forgotten : List ℕ

-- how many of the first n entries are forgotten before the one behind them is made
abbrev pub forgotten_by : List ℕ → ℕ → ℕ
forgotten_by [] n = 0
forgotten_by (count ∷ later) n =
    if nat_le count n then count + forgotten_by later (n - count) else 0

-- how many entries there may be, where there are n: those that are forgotten, and those that can
-- be kept
abbrev pub limit_at : Limit → ℕ → ℕ
limit_at limit n = limit.capacity + forgotten_by limit.forgotten n

-- the limit of a kernel that forgets nothing: it is the same always
abbrev pub whole : ℕ → Limit
whole capacity = record { capacity = capacity; forgotten = [] }
