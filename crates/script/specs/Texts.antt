-- How bytes are spelled.
use Rattle.std.specs.Prelude.{ℕ, ◌==◌, ◌&&◌, nat_le, not, List, [], ◌∷◌, ◌++◌}
use Rattle.std.specs.Prelude.{Bool, Option, Some, None, codes, length, if◌then◌else◌}
use Rattle.std.specs.Str.{bytes_eq}
use Rattle.script.specs.Characters.{backslash, letter_x}
use Rattle.script.specs.Numbers.{hex_in, with_digits}

-- a byte that stands for itself: from `!` to `~`, and no backslash
abbrev pub is_plain : ℕ → Bool
is_plain byte = nat_le 33 byte && (nat_le byte 126 && not (byte == backslash))

abbrev pub before : List ℕ → Option ℕ → Option (ℕ × List ℕ)
before rest None = None
before rest (Some byte) = Some (byte, rest)

-- the byte that `\x` and two digits say, and what stands behind them
abbrev pub escape_of : List ℕ → Option (ℕ × List ℕ)
escape_of (slash ∷ x ∷ high ∷ low ∷ rest) =
    if slash == backslash && x == letter_x then before rest (with_digits (hex_in high) (hex_in low))
    else None
escape_of _ = None

-- the byte that a text begins with, and what stands behind it
abbrev pub first_of : List ℕ → Option (ℕ × List ℕ)
first_of [] = None
first_of (a ∷ rest) = if is_plain a then Some (a, rest) else escape_of (a ∷ rest)

abbrev pub bytes_behind : (ℕ → Option (List ℕ)) → Option (ℕ × List ℕ) → Option (List ℕ)
bytes_behind f None = None
bytes_behind f (Some p) = f p.0

-- The bytes that a word spells, behind those that are there already: a plain byte stands for
-- itself, and an escape of four bytes for one.
abbrev pub bytes_after : List ℕ → List ℕ → Option (List ℕ)
bytes_after done [] = Some done
bytes_after done (a ∷ []) = if is_plain a then Some (done ++ a ∷ []) else None
bytes_after done (a ∷ b ∷ []) =
    if is_plain a then bytes_after (done ++ a ∷ []) (b ∷ []) else None
bytes_after done (a ∷ b ∷ c ∷ []) =
    if is_plain a then bytes_after (done ++ a ∷ []) (b ∷ c ∷ []) else None
bytes_after done (a ∷ b ∷ c ∷ d ∷ rest) =
    if is_plain a then bytes_after (done ++ a ∷ []) (b ∷ c ∷ d ∷ rest)
    else bytes_behind (λ byte. bytes_after (done ++ byte ∷ []) rest)
    (escape_of (a ∷ b ∷ c ∷ d ∷ rest))

-- `\e` for no bytes, else one or more
abbrev pub text_in : List ℕ → Option (List ℕ)
text_in word =
    if bytes_eq word (codes "\\e") then Some []
    else if length word == 0 then None else bytes_after [] word
