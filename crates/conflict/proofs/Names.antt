-- The comparisons of names in the words of byte slices.
use Rattle.std.proofs.Common.{◌≡◌, ◌∙◌, refl, ap, ℕ, List, [], ◌∷◌, Bool, ◌&&◌, nat_eq, arith}
use Rattle.std.specs.Cmp.Lexicographic.{pointwise, slice_cmp}
use Rattle.std.specs.Ordering.{nat_cmp, is_lt}
use Rattle.std.proofs.lemmas.Cmp.{same_from_slice_cmp}
use Rattle.std.proofs.lemmas.Bool.Decides.{nat_tests}
use Rattle.model.specs.Paths.{same_name}
use Rattle.model.specs.Clashes.{name_lt}

pub same_name_is : (xs ys : List ℕ) → pointwise nat_eq xs ys ≡ same_name xs ys
same_name_is [] [] = refl
same_name_is [] (y ∷ ys) = refl
same_name_is (x ∷ xs) [] = refl
same_name_is (x ∷ xs) (y ∷ ys) = ap (λ b. nat_eq x y && b) (same_name_is xs ys)

-- what `==` told of two slices
pub same_name_from_eq : (r : Bool) (xs ys : List ℕ) → r ≡ pointwise nat_eq xs ys → r ≡ same_name xs ys
same_name_from_eq r xs ys e = e ∙ same_name_is xs ys

pub name_lt_is : (xs ys : List ℕ) → is_lt (slice_cmp nat_cmp xs ys) ≡ name_lt xs ys
name_lt_is xs ys = same_from_slice_cmp nat_cmp is_lt name_lt refl (λ _ _. refl) (λ _ _. refl) (λ x y xs ys o h. grind (arith, nat_tests)) xs ys (slice_cmp nat_cmp xs ys) refl
