-- The order of touches: by the object, the part of it, read or written, the block, the name.
use Rattle.std.specs.Prelude.{ℕ, List, ◌∷◌, Bool, true, false}
use Rattle.std.specs.Ordering.{nat_cmp, is_eq}
use Rattle.std.specs.declared.cmp.Ordering.{Ordering}
use Rattle.std.specs.Cmp.Lexicographic.{slice_cmp}
pub use Rattle.ids.specs.Order.{object_of, block_of, name_of}
use Rattle.model.specs.Aspects.{Aspect, Entry, Names, Size, Block, Links, Ends, Offset, Front, Back}
use Rattle.model.specs.Aspects.{Target, Rights}
use Rattle.model.specs.Steps.{Touch}

abbrev pub part_of : Aspect → Bool → ℕ
part_of (Entry d x) true = 0
part_of (Entry d x) false = 1
part_of (Names d) true = 2
part_of (Names d) false = 3
part_of (Size n) true = 4
part_of (Size n) false = 5
part_of (Block n i) true = 6
part_of (Block n i) false = 7
part_of (Links n) true = 8
part_of (Links n) false = 9
part_of (Ends p) true = 10
part_of (Ends p) false = 11
part_of (Offset d) true = 12
part_of (Offset d) false = 13
part_of (Front p) true = 14
part_of (Front p) false = 15
part_of (Back p) true = 16
part_of (Back p) false = 17
part_of (Target n) true = 18
part_of (Target n) false = 19
part_of (Rights n) true = 20
part_of (Rights n) false = 21

-- a touch as a list of numbers
abbrev pub code : Touch → List ℕ
code t = object_of t.aspect ∷ part_of t.aspect t.write ∷ block_of t.aspect ∷ name_of t.aspect

unfoldable pub touch_cmp : Touch → Touch → Ordering
touch_cmp t u = slice_cmp nat_cmp (code t) (code u)

-- whether they are the same touch
abbrev pub is_touch : Touch → Touch → Bool
is_touch t u = is_eq (touch_cmp t u)
