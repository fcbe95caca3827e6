-- Bits in a row of words, 64 to a word; behind the last word they are 0.
use Rattle.std.specs.Prelude.{◌≡◌, ℕ, ◌/◌, ◌%◌, ◌<◌, List, get_or, Bool, true, false, Option, Some, None}
use Rattle.std.specs.Int.{bit_at}

abbrev pub bit_in : List ℕ → ℕ → ℕ
bit_in words i = bit_at (get_or words (i / 64) 0) (i % 64)

abbrev pub as_bit : Bool → ℕ
as_bit true = 1
as_bit false = 0

-- the lowest bit of a word of 64 that is 0, or there is none
abbrev pub IsLowestClear : ℕ → Option ℕ → Type 0
IsLowestClear word (Some b) = (b < 64) × (bit_at word b ≡ 0)
    × ((i : ℕ) → i < b → bit_at word i ≡ 1)
IsLowestClear word None = (i : ℕ) → i < 64 → bit_at word i ≡ 1

-- more words than any table of descriptors has
abbrev pub most_words : ℕ
most_words = 4294967296
