-- Parts of bytes.
use Rattle.std.proofs.Common.{◌≡◌, ℕ, ◌-◌, List, length, take, drop, ap, ◌∙◌, arith, length-drop}
use Rattle.std.specs.Prelude.{min}
use Rattle.std.proofs.lemmas.List.{take_all, take_min, drop_min}

-- what stands before an end that is within the list
pub first_within : {A : Type 0} (xs : List A) (count end : ℕ) → end ≡ min count (length xs) → take end xs ≡ take count xs
first_within xs count end last = ap (λ n. take n xs) last ∙ take_min count xs

-- what stands behind a start that is
pub rest_within : {A : Type 0} (xs : List A) (skipped start : ℕ) → start ≡ min skipped (length xs) → take (length xs - start) (drop start xs) ≡ drop skipped xs
rest_within xs skipped start first =
    let left : length (drop start xs) ≡ length xs - start = length-drop start xs in
    take_all (length xs - start) (drop start xs) (omega arith) ∙ ap (λ n. drop n xs) first ∙ drop_min skipped xs
