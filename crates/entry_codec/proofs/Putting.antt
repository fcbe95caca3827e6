-- Putting items one after the other, as a loop does.
use Rattle.std.proofs.Common.{◌≡◌, ℕ, ◌+◌, ◌<◌, ◌≤◌, ◌^◌, List, [], ◌∷◌, ◌++◌, length, get_or, take, sym, ap, subst, ◌∙◌}
use Rattle.std.specs.List.{flat_map, All}
use Rattle.std.proofs.lemmas.List.{flat_map_more, take_more, take_all}
use Rattle.std.proofs.lemmas.List.Elements.{All-more, All-same, recursion_from_All}
use Rattle.entry_codec.specs.Parts.{IsList}

-- the form of one more item is put
pub more_put : {A : Type 0} (form : A → List ℕ) (front : List ℕ) (xs : List A) (i : ℕ) (x : A) (before after : List ℕ) → i < length xs → x ≡ get_or xs i x
    → before ≡ front ++ flat_map form (take i xs) → after ≡ before ++ form x → after ≡ front ++ flat_map form (take (i + 1) xs)
more_put {A = A} form front xs i x before after lt is so_far put =
    put
    ∙ ap (λ (b : List ℕ). b ++ form x) so_far
    ∙ flat_map_more form front (take i xs) x
    ∙ ap (λ (ys : List A). front ++ flat_map form ys) (ap (λ (y : A). take i xs ++ y ∷ []) is ∙ sym (take_more xs i x lt))

-- one more item fits
pub more_fit : {A : Type 0} (Fits : A → Type 0) (xs : List A) (i : ℕ) (x : A) → i < length xs → x ≡ get_or xs i x → All Fits (take i xs) → Fits x → All Fits (take (i + 1) xs)
more_fit Fits xs i x lt is so_far fits = All-more Fits xs i x lt so_far (subst Fits is fits)

-- all of them fit
pub all_fit : {A : Type 0} (Fits : A → Type 0) (xs : List A) (i : ℕ) → length xs ≤ i → length xs < 2 ^ 64 → All Fits (take i xs) → IsList Fits xs
all_fit Fits xs i le short fit = (short, recursion_from_All Fits xs (All-same Fits xs (take i xs) (sym (take_all i xs le)) fit))
