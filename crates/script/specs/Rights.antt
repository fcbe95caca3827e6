-- How permissions and owners are spelled.
use Rattle.std.specs.Prelude.{ℕ, ◌+◌, ◌*◌, ◌-◌, ◌^◌, ◌&&◌, nat_le, List, [], ◌∷◌}
use Rattle.std.specs.Prelude.{Option, Some, None, codes, option_map, if◌then◌else◌}
use Rattle.std.specs.Str.{bytes_eq}
use Rattle.script.specs.Numbers.{decimal_in}

-- the value of an octal digit: of `0` to `7`
abbrev pub octal_in : ℕ → Option ℕ
octal_in digit = if nat_le 48 digit && nat_le digit 55 then Some (digit - 48) else None

-- one more octal digit behind those that give this number
abbrev pub octal_more : Option ℕ → ℕ → Option ℕ
octal_more None digit = None
octal_more (Some n) digit = option_map (λ d. n * 8 + d) (octal_in digit)

-- permissions: one to four octal digits, of which any may be zeros
abbrev pub permissions_in : List ℕ → Option ℕ
permissions_in (a ∷ []) = octal_in a
permissions_in (a ∷ b ∷ []) = octal_more (octal_in a) b
permissions_in (a ∷ b ∷ c ∷ []) = octal_more (octal_more (octal_in a) b) c
permissions_in (a ∷ b ∷ c ∷ d ∷ []) = octal_more (octal_more (octal_more (octal_in a) b) c) d
permissions_in _ = None

-- a new user or group: a number of 32 bits, or `-`, where it stays as it is
abbrev pub id_in : List ℕ → Option (Option ℕ)
id_in word =
    if bytes_eq word (codes "-") then Some None
    else option_map (λ n. Some n) (decimal_in (2 ^ 32 - 1) word)
