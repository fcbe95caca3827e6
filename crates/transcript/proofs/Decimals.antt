-- How many digits numbers have, and digits that are put in their place.
use Rattle.std.proofs.Common.{◌≡◌, ℕ, ◌+◌, ◌<◌, ◌≤◌, ◌^◌, ◌/◌, List, ◌++◌, take, drop, length, ap, sym, ◌∙◌, arith}
use Rattle.std.specs.Fmt.{decimal}
use Rattle.std.proofs.lemmas.List.{length-take-le, take-append-drop}
use Rattle.std.proofs.Math.Seq.{take-append-add, take-append_seam}
use Rattle.std.proofs.lemmas.Fmt.{length-decimal-le}
use Rattle.itoa.proofs.Decimal.{length_one, length_two, length_pair}

pub length_three : (n : ℕ) → 100 ≤ n → n < 1000 → length (decimal n) ≡ 3
length_three n lo hi = omega (arith, length_pair n lo (omega arith), length_one (n / 100) (omega arith))

pub length_four_digits : (n : ℕ) → 1000 ≤ n → n < 10000 → length (decimal n) ≡ 4
length_four_digits n lo hi = omega (arith, length_pair n (omega arith) (omega arith), length_two (n / 100) (omega arith) (omega arith))

-- a number of 64 bits has at most twenty digits
pub at_most_twenty : (n : ℕ) → n < 2 ^ 64 → length (decimal n) ≤ 20
at_most_twenty n fits = length-decimal-le 20 n (omega arith) (omega arith) fits

-- digits that stand behind the first `len` bytes
pub put_in_place : (len end start : ℕ) (old new digits rest : List ℕ) → len ≤ length old → start + length digits ≡ end → end ≡ len + length digits
    → drop start new ≡ digits ++ rest → take start new ≡ take start old → take end new ≡ take len old ++ digits
put_in_place len end start old new digits rest within from to behind before =
    let here : start ≡ len = omega (arith, from, to) in
    let front : List ℕ = take start old in
    let at : end ≡ length front + length digits = omega (arith, from, here, within, length-take-le start old (omega (arith, here, within))) in
    ap (λ (n : ℕ). take n new) at
    ∙ ap (take (length front + length digits)) (sym (take-append-drop start new))
    ∙ ap (λ (xs : List ℕ). take (length front + length digits) (xs ++ drop start new)) before
    ∙ ap (λ (xs : List ℕ). take (length front + length digits) (front ++ xs)) behind
    ∙ take-append-add front (digits ++ rest) (length digits)
    ∙ ap (λ (xs : List ℕ). front ++ xs) (take-append_seam digits rest)
    ∙ ap (λ (n : ℕ). take n old ++ digits) here
