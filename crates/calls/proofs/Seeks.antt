-- The offset that lseek comes to.
use Rattle.std.proofs.Common.{◌≡◌, ℕ, ℤ, pos, negsuc, List, [], ◌∷◌, Bool, true, false, Ok, Option, Some, None, if◌then◌else◌, nat_lt, refl, ap, arith}
use Rattle.model.specs.State.{Kernel}
use Rattle.model.specs.Plan.{Give, Refuse, EINVAL, refuse_if, ◌>>◌}
use Rattle.model.specs.Steps.{Touch}
use Rattle.model.specs.Calls.{Slot, New_place}
use Rattle.model.specs.Changes.{Set_offset}
use Rattle.model.specs.Plans.{changed, sought}
use Rattle.look.specs.Asked.{Comes}
use Rattle.walk.proofs.Laws.{gives, via}
use Rattle.calls.specs.Parts.{offset_in}

abbrev or_zero : Option ℕ → ℕ
or_zero (Some n) = n
or_zero None = 0

abbrev is_there : Option ℕ → Bool
is_there (Some n) = true
is_there None = false

some_by : (d n m : ℕ) (b : Bool) → (if b then None else Some n) ≡ Some m → (refuse_if b EINVAL >> changed (New_place n) (Set_offset d n ∷ [])) ≡ changed (New_place m) (Set_offset d m ∷ [])
some_by d n m true h = let e : false ≡ true = ap is_there h in absurd (grind (arith, e))
some_by d n m false h = ap (λ x. changed (New_place x) (Set_offset d x ∷ [])) (ap or_zero h)

none_by : (d n : ℕ) (b : Bool) → (if b then None else Some n) ≡ None → (refuse_if b EINVAL >> changed (New_place n) (Set_offset d n ∷ [])) ≡ Refuse EINVAL
none_by d n true h = refl
none_by d n false h = let e : true ≡ false = ap is_there h in absurd (grind (arith, e))

pub sought_some : (largest : ℕ) (it : Slot) (sum : ℤ) (m : ℕ) → offset_in largest sum ≡ Some m → sought largest it sum ≡ changed (New_place m) (Set_offset it.description m ∷ [])
sought_some largest it (pos n) m h = some_by it.description n m (nat_lt largest n) h
sought_some largest it (negsuc n) m h = let e : false ≡ true = ap is_there h in absurd (grind (arith, e))

pub sought_none : (largest : ℕ) (it : Slot) (sum : ℤ) → offset_in largest sum ≡ None → sought largest it sum ≡ Refuse EINVAL
sought_none largest it (pos n) h = none_by it.description n (nat_lt largest n) h
sought_none largest it (negsuc n) h = refl

-- a plan gives a number, in other words
pub gives_as : {k : Kernel} {x y : ℤ} {before : Option (List Touch)} → x ≡ y → Comes k (Give x) before (Ok y) before
gives_as e = via (ap Give e) gives
