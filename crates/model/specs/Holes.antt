-- Holes of a file, which are told by its bytes alone: a block of zeros is one (POSIX.1-2024, lseek: a
-- hole is a row of bytes that are zero, and a system may tell fewer than there are).
use Rattle.std.specs.Prelude.{ℕ, suc, ◌+◌, ◌*◌, ◌/◌, List, Bool, true, false, not, ◌==◌, take, drop}
use Rattle.std.specs.Prelude.{if◌then◌else◌}
use Rattle.std.specs.List.{list_all}
use Rattle.model.specs.Limits.{block_length}

-- the bytes of a block that a file has
abbrev pub block_in : List ℕ → ℕ → List ℕ
block_in bytes block = take block_length (drop (block * block_length) bytes)

abbrev pub is_hole : List ℕ → ℕ → Bool
is_hole bytes block = list_all (λ b. b == 0) (block_in bytes block)

-- whether a block is a hole, or whether it is none
abbrev pub is_alike : Bool → List ℕ → ℕ → Bool
is_alike true bytes block = is_hole bytes block
is_alike false bytes block = not (is_hole bytes block)

-- how many blocks from one on, so many at most, are holes, or are none
abbrev pub alike_from : Bool → List ℕ → ℕ → ℕ → ℕ
alike_from holes bytes first ℕ.zero = 0
alike_from holes bytes first (suc more) =
    if is_alike holes bytes first then suc (alike_from holes bytes (suc first) more) else 0

-- from a place on, behind so many blocks: where none is passed that is the place itself
abbrev pub behind_blocks : ℕ → ℕ → ℕ
behind_blocks from ℕ.zero = from
behind_blocks from (suc more) = (from / block_length + suc more) * block_length
