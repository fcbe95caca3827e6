-- What is left of a list.
use Rattle.std.proofs.Common.{◌≡◌, ℕ, ◌+◌, ◌<◌, List, ◌∷◌, length, get_or, drop, ap, sym, drop-cons, add-one, suc}

pub next_of : {A : Type 0} (xs : List A) (i : ℕ) (x : A) → i < length xs → x ≡ get_or xs i x → drop i xs ≡ x ∷ drop (i + 1) xs
next_of {A} xs i x below is = rw (add-one, drop-cons xs i x) (ap (λ (y : A). y ∷ drop (suc i) xs) (sym is))
