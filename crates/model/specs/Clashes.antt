-- When two touches clash (TxOS, section 4: conflicts are found when an object is
-- accessed; section 5: additions of different names to a directory do not conflict), and
-- the touch that a doomed process is told.
use Rattle.std.specs.Prelude.{ℕ, List, [], ◌∷◌, Bool, true, false, not, ◌&&◌, ◌||◌, ◌==◌, nat_lt}
use Rattle.std.specs.Prelude.{Option, Some, None, if◌then◌else◌}
use Rattle.std.specs.List.{list_any}
use Rattle.model.specs.State.{Name}
use Rattle.model.specs.Aspects.{Aspect, Entry, Names, Size, Block, Links, Ends, Offset, Front, Back}
use Rattle.model.specs.Aspects.{Target, Rights}
use Rattle.model.specs.Paths.{same_name}
use Rattle.model.specs.Steps.{Touch}

abbrev pub same_aspect : Aspect → Aspect → Bool
same_aspect (Entry d x) (Entry e y) = (d == e) && same_name x y
same_aspect (Names d) (Names e) = d == e
same_aspect (Size n) (Size m) = n == m
same_aspect (Block n i) (Block m j) = (n == m) && (i == j)
same_aspect (Links n) (Links m) = n == m
same_aspect (Ends p) (Ends q) = p == q
same_aspect (Offset d) (Offset e) = d == e
same_aspect (Front p) (Front q) = p == q
same_aspect (Back p) (Back q) = p == q
same_aspect (Target n) (Target m) = n == m
same_aspect (Rights n) (Rights m) = n == m
same_aspect _ _ = false

-- whether the first reads the names of a directory and the second writes an entry of it
abbrev pub names_against : Aspect → Bool → Aspect → Bool → Bool
names_against (Names d) false (Entry e x) true = d == e
names_against _ _ _ _ = false

-- Two touches of different processes clash on one aspect where one is a write, or where one reads a
-- directory's names and the other writes an entry of it.
abbrev pub clash : Touch → Touch → Bool
clash t u =
    (same_aspect t.aspect u.aspect && (t.write || u.write))
    || (names_against t.aspect t.write u.aspect u.write
    || names_against u.aspect u.write t.aspect t.write)

abbrev pub clashes : Touch → List Touch → Bool
clashes t us = list_any (clash t) us

abbrev pub any_clash : List Touch → List Touch → Bool
any_clash ts us = list_any (λ t. clashes t us) ts

-- whether the list has this very touch
abbrev pub has_touch : Aspect → Bool → List Touch → Bool
has_touch a write us =
    list_any (λ u. same_aspect u.aspect a && (if write then u.write else not u.write)) us

-- the order of names by their bytes
abbrev pub name_lt : Name → Name → Bool
name_lt [] [] = false
name_lt [] (b ∷ bs) = true
name_lt (a ∷ rest) [] = false
name_lt (a ∷ rest) (b ∷ bs) = nat_lt a b || ((a == b) && name_lt rest bs)

abbrev pub lesser : Name → Option Name → Name
lesser x None = x
lesser x (Some y) = if name_lt y x then y else x

abbrev pub written_name : ℕ → Aspect → Bool → Option Name
written_name d (Entry e x) true = if e == d then Some x else None
written_name d _ _ = None

abbrev pub with_name : Option Name → Option Name → Option Name
with_name (Some x) rest = Some (lesser x rest)
with_name None rest = rest

-- the least name among the written entries of a directory
abbrev pub least_written : ℕ → List Touch → Option Name
least_written d [] = None
least_written d (u ∷ us) = with_name (written_name d u.aspect u.write) (least_written d us)

abbrev pub entry_or : ℕ → Option Name → Touch
entry_or d (Some x) = record { aspect = Entry d x; write = true }
entry_or d None = record { aspect = Names d; write = false }

-- where none is on the same aspect: the names that were read, or the least entry that was written
abbrev pub by_names : Aspect → List Touch → Touch
by_names (Entry d x) us = record { aspect = Names d; write = false }
by_names (Names d) us = entry_or d (least_written d us)
by_names a us = record { aspect = a; write = false }

-- of the doomed one's touches, the one that clashes with t: on
-- the same aspect its write before its read
abbrev pub clashing_touch : Touch → List Touch → Touch
clashing_touch t us =
    if has_touch t.aspect true us then record { aspect = t.aspect; write = true }
    else if t.write && has_touch t.aspect false us then record { aspect = t.aspect; write = false }
    else by_names t.aspect us

-- by the first of the caller's touches that clashes
abbrev pub doomed_touch : List Touch → List Touch → Touch
doomed_touch [] us = record { aspect = Names 0; write = false }
doomed_touch (t ∷ ts) us = if clashes t us then clashing_touch t us else doomed_touch ts us
