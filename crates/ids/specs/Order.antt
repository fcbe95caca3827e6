-- The order of aspects: by the object, the part of it, the block, the name.
use Rattle.std.specs.Prelude.{◌≡◌, refl, ℕ, List, [], ◌∷◌, ◌++◌, true}
use Rattle.std.specs.Hash as fed
use Rattle.std.specs.Ordering.{nat_cmp, is_eq, eq_by_cmp}
use Rattle.std.specs.declared.cmp.Ordering.{Ordering}
use Rattle.std.specs.declared.cmp.Ordering.TheVariants.{Less, Equal, Greater}
use Rattle.std.proofs.Common.{ap}
use Rattle.std.specs.Cmp.{IsTotalOrder}
use Rattle.std.specs.Cmp.Lexicographic.{slice_cmp}
use Rattle.std.proofs.lemmas.Cmp.{nat_list_cmp_total, on_total}
use Rattle.std.proofs.lemmas.Map.Lookups.{exact_bytes}
use Rattle.ids.specs.declared.aspect.Aspect.{Aspect}
use Rattle.ids.specs.declared.aspect.Aspect.TheVariants.{Entry, Names, Size, Block, Links, Ends}
use Rattle.ids.specs.declared.aspect.Aspect.TheVariants.{Offset, Front, Back, Target, Rights}

-- the number of the object
abbrev pub object_of : Aspect → ℕ
object_of (Entry d x) = d
object_of (Names d) = d
object_of (Size n) = n
object_of (Block n i) = n
object_of (Links n) = n
object_of (Ends p) = p
object_of (Offset d) = d
object_of (Front p) = p
object_of (Back p) = p
object_of (Target n) = n
object_of (Rights n) = n

-- which part of the object it is
abbrev pub kind_of : Aspect → ℕ
kind_of (Entry d x) = 0
kind_of (Names d) = 1
kind_of (Size n) = 2
kind_of (Block n i) = 3
kind_of (Links n) = 4
kind_of (Ends p) = 5
kind_of (Offset d) = 6
kind_of (Front p) = 7
kind_of (Back p) = 8
kind_of (Target n) = 9
kind_of (Rights n) = 10

-- the block, 0 for what has none
abbrev pub block_of : Aspect → ℕ
block_of (Block n i) = i
block_of (Entry d x) = 0
block_of (Names d) = 0
block_of (Size n) = 0
block_of (Links n) = 0
block_of (Ends p) = 0
block_of (Offset d) = 0
block_of (Front p) = 0
block_of (Back p) = 0
block_of (Target n) = 0
block_of (Rights n) = 0

-- the name of an entry, empty for what has none
abbrev pub name_of : Aspect → List ℕ
name_of (Entry d x) = x
name_of (Names d) = []
name_of (Size n) = []
name_of (Block n i) = []
name_of (Links n) = []
name_of (Ends p) = []
name_of (Offset d) = []
name_of (Front p) = []
name_of (Back p) = []
name_of (Target n) = []
name_of (Rights n) = []

-- an aspect as a list of numbers
abbrev pub aspect_code : Aspect → List ℕ
aspect_code a = object_of a ∷ kind_of a ∷ block_of a ∷ name_of a

unfoldable pub aspect_cmp : Aspect → Aspect → Ordering
aspect_cmp a b = slice_cmp nat_cmp (aspect_code a) (aspect_code b)

pub aspect_cmp_total : IsTotalOrder aspect_cmp
unfolding aspect_cmp
aspect_cmp_total = on_total aspect_code nat_list_cmp_total

-- what is fed to a hash: the object, the part of it, the block, the name
abbrev fed_of : List ℕ → List (List ℕ)
fed_of (o ∷ k ∷ b ∷ x) = fed.usize o ++ fed.u8 k ++ fed.u64 b ++ x ∷ []
fed_of _ = []

abbrev pub aspect_fed : Aspect → List (List ℕ)
aspect_fed a = fed_of (aspect_code a)

pub fed_alike : (a b : Aspect) → eq_by_cmp aspect_cmp a b ≡ true → aspect_fed a ≡ aspect_fed b
unfolding aspect_cmp
fed_alike a b h = ap fed_of (exact_bytes (aspect_code a) (aspect_code b) (equal_from _ h))
  where
    equal_from : (o : Ordering) → is_eq o ≡ true → o ≡ Equal
    equal_from Less h = cc
    equal_from Equal h = refl
    equal_from Greater h = cc
