-- Blocks one behind the other in one list, and where each of them lies.
use Rattle.std.specs.Prelude.{◌≡◌, ◌≢◌, ℕ, ◌*◌, ◌<◌, List, [], Option, get_or, length, map, take}
use Rattle.std.specs.Prelude.{drop, set}
use Rattle.ids.specs.declared.limits.TheConstants.{BLOCK_LEN}

-- the blocks in their order, and for how many more there is room
pub record Arena : Type 0 where
  pub blocks : List (List (Option ℕ))
  pub room : ℕ

abbrev pub block_at : List (Option ℕ) → ℕ → List (Option ℕ)
block_at bytes index = take BLOCK_LEN (drop (index * BLOCK_LEN) bytes)

abbrev pub blocks_at : List (Option ℕ) → List ℕ → List (List (Option ℕ))
blocks_at bytes places = map (block_at bytes) places

-- each block lies at an index of its own
pub record AreApart (places : List ℕ) (bytes : List (Option ℕ)) : Type 0 where
  pub whole : length bytes ≡ length places * BLOCK_LEN
  pub within : (i : ℕ) → i < length places → get_or places i 0 < length places
  pub apart : (i j : ℕ) → i < j → j < length places → get_or places i 0 ≢ get_or places j 0

-- One block changes so, and all others stay.
pub record AtBlock (index : ℕ) (R : List (Option ℕ) → List (Option ℕ) → Type 0) (old new : Arena)
    : Type 0 where
  pub block : List (Option ℕ)
  pub here : R (get_or old.blocks index []) block
  pub blocks : new.blocks ≡ set old.blocks index block
  pub room : new.room ≡ old.room
