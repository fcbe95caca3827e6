-- The bytes of the fields of which all else is made. Numbers stand with the lowest byte first.
use Rattle.std.specs.Prelude.{ℕ, ℤ, ◌<◌, ◌^◌, nat_lt, List, [], ◌∷◌, ◌++◌, length, Bool, true, false}
use Rattle.std.specs.Prelude.{Option, Some, None, if◌then◌else◌}
use Rattle.std.specs.List.{flat_map, AllByRecursion}
use Rattle.std.specs.Int.{w16, w32, w64, to_le_bytes, cast_unsigned}

unfoldable pub u16_bytes : ℕ → List ℕ
u16_bytes n = to_le_bytes w16 n

unfoldable pub u32_bytes : ℕ → List ℕ
u32_bytes n = to_le_bytes w32 n

unfoldable pub u64_bytes : ℕ → List ℕ
u64_bytes n = to_le_bytes w64 n

-- as two's complement
unfoldable pub signed_bytes : ℤ → List ℕ
signed_bytes z = u64_bytes (cast_unsigned w64 z)

-- how many there are: one byte, but from 255 on that byte and eight more
unfoldable pub size_bytes : ℕ → List ℕ
size_bytes n = if nat_lt n 255 then n ∷ [] else 255 ∷ u64_bytes n

-- how many bytes there are, and they themselves
abbrev pub text_bytes : List ℕ → List ℕ
text_bytes text = size_bytes (length text) ++ text

abbrev pub IsText : List ℕ → Type 0
IsText text = length text < 2 ^ 64

unfoldable pub flag_bytes : Bool → List ℕ
flag_bytes false = 0 ∷ []
flag_bytes true = 1 ∷ []

-- a flag, and the number where there is one
unfoldable pub optional_bytes : Option ℕ → List ℕ
optional_bytes None = 0 ∷ []
optional_bytes (Some n) = 1 ∷ u32_bytes n

-- how many items there are, and each
abbrev pub list_bytes : {A : Type 0} → (A → List ℕ) → List A → List ℕ
list_bytes item_bytes items = size_bytes (length items) ++ flat_map item_bytes items

abbrev pub IsList : {A : Type 0} → (A → Type 0) → List A → Type 0
IsList Fits items = (length items < 2 ^ 64) × AllByRecursion Fits items
