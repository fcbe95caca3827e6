-- What forgetting entries leaves as it was.
use Rattle.std.specs.Prelude.{◌≡◌, ℕ, ◌+◌, ◌≤◌, List, [], ◌∷◌, ◌++◌, length, sum}
use Rattle.model.specs.Entries.{Entry}
use Rattle.model.specs.Forgetting.{Limit, limit_at}
use Rattle.model.specs.Moments.{Setup}
use Rattle.model.specs.Legal.{Legal}

-- some entries more are forgotten
abbrev pub forgetting : Limit → ℕ → Limit
forgetting limit count = record limit { forgotten = limit.forgotten ++ count ∷ [] }

-- The limit rises and never falls, and is that of the entries that can be kept where all that was
-- ever forgotten is. Where all entries are forgotten, the history stays legal, and as many places
-- are free as before the first.
pub record ForgettingIsLegal : Type 0 where
  pub rises : (limit : Limit) (n : ℕ) → limit_at limit n ≤ limit_at limit (n + 1)
  pub all : (limit : Limit) (n : ℕ) → sum limit.forgotten ≤ n
      → limit_at limit n ≡ limit.capacity + sum limit.forgotten
  pub legal : (root : ℕ) (setup : Setup) (limit : Limit) (es : List Entry) (count : ℕ)
      → sum limit.forgotten + count ≡ length es → Legal root setup limit es
      → Legal root setup (forgetting limit count) es
