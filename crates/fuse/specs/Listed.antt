-- What a list of entries is for its callers.
use Rattle.std.specs.Prelude.{ℕ, List}

-- how many bytes it may have, and those that it has
pub record Listed : Type 0 where
  pub size : ℕ
  pub bytes : List ℕ
