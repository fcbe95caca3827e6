-- Names in the bodies of requests.
use Rattle.std.specs.Prelude.{ℕ, ◌+◌, ◌<◌, ◌≢◌, ◌==◌, ◌&&◌, not, Bool, List, length, take, drop, position}
use Rattle.std.specs.Prelude.{Option, Some, None, option_map, option_and_then, if◌then◌else◌}
use Rattle.std.specs.List.{AllByRecursion, list_any}

-- a name has one byte or more, and no slash
abbrev pub is_name : List ℕ → Bool
is_name bytes = not (length bytes == 0) && not (list_any (λ b. b == 47) bytes)

-- the bytes up to this offset, where they are a name, and those behind the byte there
abbrev pub name_up_to : List ℕ → ℕ → Option (List ℕ × List ℕ)
name_up_to bytes end =
    if is_name (take end bytes) then Some (take end bytes, drop (end + 1) bytes) else None

-- the name that ends at the first zero byte, and the bytes behind that
unfoldable pub first_name_in : List ℕ → Option (List ℕ × List ℕ)
first_name_in bytes = option_and_then (name_up_to bytes) (position (λ b. b == 0) bytes)

-- the name alone, where nothing is behind it
abbrev pub alone : List ℕ × List ℕ → Option (List ℕ)
alone first = if length first.1 == 0 then Some first.0 else None

-- the name that the bytes are: its zero byte is the last one
unfoldable pub name_in : List ℕ → Option (List ℕ)
name_in bytes = option_and_then alone (first_name_in bytes)

-- the two names that the bytes are
unfoldable pub names_in : List ℕ → Option (List ℕ × List ℕ)
names_in bytes =
    option_and_then (λ first. option_map (λ second. (first.0, second)) (name_in first.1))
    (first_name_in bytes)

-- any text, which ends at the first zero byte, and that is the last one
abbrev pub text_up_to : List ℕ → ℕ → Option (List ℕ)
text_up_to bytes end = if end + 1 == length bytes then Some (take end bytes) else None

unfoldable pub text_in : List ℕ → Option (List ℕ)
text_in bytes = option_and_then (text_up_to bytes) (position (λ b. b == 0) bytes)

-- the name and the text behind it that the bytes are
unfoldable pub name_and_text_in : List ℕ → Option (List ℕ × List ℕ)
name_and_text_in bytes =
    option_and_then (λ first. option_map (λ text. (first.0, text)) (text_in first.1))
    (first_name_in bytes)

-- one byte or more, and none of them zero or a slash
abbrev pub IsName : List ℕ → Type 0
IsName name = (0 < length name) × AllByRecursion (λ b. (b ≢ 0) × (b ≢ 47)) name
