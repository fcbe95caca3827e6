-- The names of a path (POSIX.1-2017, 4.13 Pathname Resolution, in this kernel's narrower
-- spelling: a path is `/`, or one or more of `/name`; empty paths, relative ones, `.`, `..` and
-- repeated or trailing slashes are refused).
use Rattle.std.specs.Prelude.{ℕ, List, [], ◌∷◌, Bool, true, false, ◌&&◌, ◌||◌, ◌==◌, nat_lt}
use Rattle.std.specs.Prelude.{if◌then◌else◌, length, Result, Ok, Err}
use Rattle.std.specs.List.{list_any}
use Rattle.model.specs.Limits.{name_limit}
use Rattle.model.specs.State.{Name}
use Rattle.model.specs.Plan.{Errno, EINVAL, ENAMETOOLONG}

abbrev pub is_empty : {A : Type 0} → List A → Bool
is_empty [] = true
is_empty (x ∷ xs) = false

-- a byte in front of the first piece
abbrev pub in_front : ℕ → List Name → List Name
in_front b [] = (b ∷ []) ∷ []
in_front b (x ∷ xs) = (b ∷ x) ∷ xs

-- the pieces between slashes
abbrev pub pieces : List ℕ → List Name
pieces [] = [] ∷ []
pieces (b ∷ bytes) = if b == 47 then [] ∷ pieces bytes else in_front b (pieces bytes)

-- `.` and `..`
abbrev pub is_dots : Name → Bool
is_dots (b ∷ []) = b == 46
is_dots (b ∷ c ∷ []) = (b == 46) && (c == 46)
is_dots _ = false

-- a piece that is no name, whatever its length: empty, holding a zero byte, or dots
abbrev pub is_no_name : Name → Bool
is_no_name x = is_empty x || (list_any (λ b. b == 0) x || is_dots x)

-- a first name before what the others came to
abbrev pub with_first : Name → Result (List Name) Errno → Result (List Name) Errno
with_first x (Ok xs) = Ok (x ∷ xs)
with_first x (Err e) = Err e

-- each piece from the left: too long, or no name
abbrev pub names_in : List Name → Result (List Name) Errno
names_in [] = Ok []
names_in (x ∷ xs) =
    if nat_lt name_limit (length x) then Err ENAMETOOLONG
    else if is_no_name x then Err EINVAL
    else with_first x (names_in xs)

-- behind the first byte, which is a slash
abbrev pub names_behind : List ℕ → Result (List Name) Errno
names_behind [] = Ok []
names_behind (b ∷ bytes) = names_in (pieces (b ∷ bytes))

abbrev pub absolute_names : List ℕ → Result (List Name) Errno
absolute_names [] = Err EINVAL
absolute_names (b ∷ bytes) = if b == 47 then names_behind bytes else Err EINVAL

-- the names of a path of at most so many bytes, or why it is none
abbrev pub path_names : ℕ → List ℕ → Result (List Name) Errno
path_names most bytes =
    if nat_lt most (length bytes) then Err ENAMETOOLONG else absolute_names bytes

abbrev pub same_name : Name → Name → Bool
same_name [] [] = true
same_name (a ∷ rest) (b ∷ bs) = (a == b) && same_name rest bs
same_name _ _ = false

-- whether the second list begins with the first and goes on
abbrev pub is_below : List Name → List Name → Bool
is_below [] [] = false
is_below [] (y ∷ ys) = true
is_below (x ∷ xs) [] = false
is_below (x ∷ xs) (y ∷ ys) = same_name x y && is_below xs ys
