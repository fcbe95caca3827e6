-- Numbers in lists of bytes, the lowest byte first: the two ends of a mount are on one machine and
-- write numbers in its order, and every machine that this is built for has that one.
use Rattle.std.specs.Prelude.{ℕ, List, drop, flat_map}
use Rattle.byteorder.specs.Endian.{little_number, little_bytes}

-- the number in the four or eight bytes from an offset on
unfoldable pub u32_at : List ℕ → ℕ → ℕ
u32_at bytes offset = little_number 4 (drop offset bytes)

unfoldable pub u64_at : List ℕ → ℕ → ℕ
u64_at bytes offset = little_number 8 (drop offset bytes)

-- the two, four or eight bytes of a number
unfoldable pub u16_bytes : ℕ → List ℕ
u16_bytes n = little_bytes 2 n

unfoldable pub u32_bytes : ℕ → List ℕ
u32_bytes n = little_bytes 4 n

unfoldable pub u64_bytes : ℕ → List ℕ
u64_bytes n = little_bytes 8 n

-- numbers of one width, one after the other
unfoldable pub u16s : List ℕ → List ℕ
u16s ns = flat_map u16_bytes ns

unfoldable pub u32s : List ℕ → List ℕ
u32s ns = flat_map u32_bytes ns

unfoldable pub u64s : List ℕ → List ℕ
u64s ns = flat_map u64_bytes ns
