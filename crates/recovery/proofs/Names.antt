-- The first item of a list, and the others.
use Rattle.std.proofs.Common.{◌≡◌, suc, ◌-◌, ◌<◌, ◌≤◌, ◌==◌, List, [], ◌∷◌, length, get_or, take, drop, refl, sym, ap, ap₂, ◌∙◌, Decides, arith}
use Rattle.std.proofs.lemmas.List.{take_all}
use Rattle.std.proofs.lemmas.Bool.Decides.{Decides-eqb, Decides-like}

-- what stands behind the first item
abbrev pub rest_of : {A : Type 0} → List A → List A
rest_of xs = take (length xs - 1) (drop 1 xs)

pub front : {A : Type 0} (xs : List A) (x : A) → 1 ≤ length xs → x ≡ get_or xs 0 x → x ∷ rest_of xs ≡ xs
front [] x some is = absurd (omega arith)
front (y ∷ ys) x some is =
    let all : length ys ≤ suc (length ys) - 1 = omega arith in
    ap₂ (λ z zs. z ∷ zs) is (take_all (suc (length ys) - 1) ys all)

pub same_first : {A : Type 0} (xs ys : List A) (x y : A) → 1 ≤ length xs → x ≡ get_or xs 0 x → 1 ≤ length ys → y ≡ get_or ys 0 y → xs ≡ ys → x ≡ y
same_first [] ys x y some is there are same = absurd (omega arith)
same_first (a ∷ xs) [] x y some is there are same = absurd (omega arith)
same_first (a ∷ xs) (b ∷ ys) x y some is there are same = let heads : a ≡ b = cc in is ∙ heads ∙ sym are

no_items : {A : Type 0} (xs : List A) → length xs ≡ 0 → xs ≡ []
no_items [] h = refl
no_items (x ∷ xs) h = absurd (omega arith)

-- of no items the others are none
pub none_are : {A : Type 0} (xs ys : List A) → length xs < 1 → Decides (length ys == 0) (xs ≡ ys)
none_are xs ys none =
    let no_more : length xs ≡ 0 = omega arith in
    Decides-like (length ys == 0) (λ (e : length ys ≡ 0). no_items xs no_more ∙ sym (no_items ys e)) (λ (e : xs ≡ ys). sym (ap length e) ∙ no_more) (Decides-eqb (length ys) 0)
