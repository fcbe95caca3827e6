-- How bytes are spelled in scripts and transcripts.
use Rattle.std.specs.Prelude.{ℕ, ◌+◌, ◌/◌, ◌%◌, ◌==◌, nat_le, nat_lt, ◌&&◌}
use Rattle.std.specs.Prelude.{not, List, [], ◌∷◌, Bool, flat_map, if◌then◌else◌}

abbrev pub backslash : ℕ
backslash = 92

abbrev pub letter_x : ℕ
letter_x = 120

abbrev pub letter_e : ℕ
letter_e = 101

-- a byte that stands for itself: from `!` to `~`, and no backslash
abbrev pub is_plain : ℕ → Bool
is_plain byte = nat_le 33 byte && (nat_le byte 126 && not (byte == backslash))

-- the hexadecimal digit of a number below 16, in lower case: `0` to `9`, `a` to `f`
abbrev pub hex_digit : ℕ → ℕ
hex_digit n = if nat_lt n 10 then 48 + n else 87 + n

-- a byte as itself, or `\x` and two digits
abbrev pub byte_text : ℕ → List ℕ
byte_text byte =
    if is_plain byte then byte ∷ []
    else backslash ∷ letter_x ∷ hex_digit (byte / 16) ∷ hex_digit (byte % 16) ∷ []

-- `\e` for no bytes, else each byte
unfoldable pub text_of : List ℕ → List ℕ
text_of [] = backslash ∷ letter_e ∷ []
text_of (byte ∷ bytes) = flat_map byte_text (byte ∷ bytes)
