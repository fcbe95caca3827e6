-- What the names from an index on decide.
use Rattle.std.proofs.Common.{◌≡◌, ℕ, zero, suc, ◌<◌, ◌≤◌, true, false, ◌&&◌, List, [], ◌∷◌, length, get_or, drop, refl, ap, arith, ◌==◌}
use lib.Pointwise.{pointwise}
use lib.Dec.{eqb}
use Rattle.model.specs.State.{Name}
use Rattle.model.specs.Paths.{is_below, same_name}

-- no name of the upper path is left, and one of the lower is
pub below_rest : (xs ys : List Name) (i : ℕ) → i ≡ length xs → i < length ys → is_below (drop i xs) (drop i ys) ≡ true
below_rest [] [] i e h = absurd (omega arith)
below_rest [] (y ∷ ys) zero e h = refl
below_rest [] (y ∷ ys) (suc i) e h = absurd (omega arith)
below_rest (x ∷ xs) [] i e h = absurd (omega arith)
below_rest (x ∷ xs) (y ∷ ys) zero e h = absurd (omega arith)
below_rest (x ∷ xs) (y ∷ ys) (suc i) e h = below_rest xs ys i (omega arith) (omega arith)

-- none of the lower is left
pub below_none : (xs ys : List Name) (i : ℕ) → i ≤ length xs → length ys ≤ i → is_below (drop i xs) (drop i ys) ≡ false
below_none [] [] zero w h = refl
below_none [] [] (suc i) w h = refl
below_none [] (y ∷ ys) i w h = absurd (omega arith)
below_none (x ∷ xs) [] zero w h = refl
below_none (x ∷ xs) [] (suc i) w h = none (drop i xs)
  where
    none : (zs : List Name) → is_below zs [] ≡ false
    none [] = refl
    none (z ∷ zs) = refl
below_none (x ∷ xs) (y ∷ ys) zero w h = absurd (omega arith)
below_none (x ∷ xs) (y ∷ ys) (suc i) w h = below_none xs ys i (omega arith) (omega arith)

-- one of each is left
pub below_next : (xs ys : List Name) (i : ℕ) (d e : Name) → i < length xs → i < length ys → is_below (drop i xs) (drop i ys) ≡ (same_name (get_or xs i d) (get_or ys i e) && is_below (drop (suc i) xs) (drop (suc i) ys))
below_next [] ys i d e w h = absurd (omega arith)
below_next (x ∷ xs) [] i d e w h = absurd (omega arith)
below_next (x ∷ xs) (y ∷ ys) zero d e w h = refl
below_next (x ∷ xs) (y ∷ ys) (suc i) d e w h = below_next xs ys i d e (omega arith) (omega arith)

-- names are compared byte by byte
pub same_name-same : (x y : Name) → same_name x y ≡ pointwise eqb x y
same_name-same [] [] = refl
same_name-same [] (b ∷ bs) = refl
same_name-same (a ∷ rest) [] = refl
same_name-same (a ∷ rest) (b ∷ bs) = ap (λ t. (a == b) && t) (same_name-same rest bs)
