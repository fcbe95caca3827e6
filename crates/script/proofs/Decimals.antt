-- Which number a word is the decimal of.
use Rattle.std.proofs.Common.{◌≡◌, ℕ, ◌+◌, ◌-◌, ◌*◌, ◌<◌, ◌≤◌, ◌^◌, ◌&&◌, List, Option, Some, None, Bool, true, false, cond, zero, suc, length, get_or, take, refl, ap, ◌∙◌, sym, arith, Decides, decimal, nat_le, subst}
use Rattle.std.specs.Prelude.{IfSome, IfNone}
use Rattle.std.specs.Str.{bytes_eq}
use Rattle.std.specs.Char.{digit_value}
use Rattle.std.specs.Str.Parse.{AllDigits, digits_value}
use Rattle.std.proofs.lemmas.Bool.Decides.{Decides-and}
use Rattle.std.proofs.lemmas.Bool.{leb-true, le-leb}
use Rattle.std.proofs.lemmas.Fmt.{decimal_is_IsNumeral, decimal_digit, decimal_nonempty, first_decimal, decimal-digits_value}
use Rattle.std.proofs.lemmas.Int.Digits.{digits_more, digits_value_more}
use Rattle.std.proofs.lemmas.Slice.Eq.{bytes_eq-Decides}
use Rattle.std.proofs.lemmas.Str.{digit_value_digit}
use Rattle.std.proofs.lemmas.Str.Parse.{digit_at, digits_value-take-le, numerals_by_value, tells_digits}
use Rattle.script.specs.Numbers.{decimal_in}

tested : (n most : ℕ) (word : List ℕ) → Decides (nat_le n most && bytes_eq (decimal n) word) ((n ≤ most) × (decimal n ≡ word))
tested n most word = Decides-and _ _ (leb-true n most, le-leb n most) (bytes_eq-Decides (decimal n) word)

decimal_is : (n most : ℕ) (word : List ℕ) → n < 2 ^ 64 → n ≤ most → word ≡ decimal n → decimal_in most word ≡ Some n
unfolding decimal_in
decimal_is n most word small below spelled =
    let value : digits_value 10 word ≡ n = ap (digits_value 10) spelled ∙ (decimal_is_IsNumeral n small).1 in
    let yes = (tested n most word).1 (below, sym spelled) in
    rw value (ap (λ (t : Bool). cond t (Some n) None) yes)

none_at : (n most : ℕ) (word : List ℕ) (t : Bool) → Decides t ((n ≤ most) × (decimal n ≡ word)) → (n ≤ most → word ≡ decimal n → ⊥) → cond t (Some n) None ≡ None
none_at n most word true d other = let is = d.0 refl in absurd (other is.0 (sym is.1))
none_at n most word false d other = refl

decimal_none : (most : ℕ) (word : List ℕ) → ((n : ℕ) → n ≤ most → word ≡ decimal n → ⊥) → decimal_in most word ≡ None
unfolding decimal_in
decimal_none most word other = let n = digits_value 10 word in none_at n most word _ (tested n most word) (other n)

-- digits that are `0`, or do not begin with it, are the decimal of their value
pub decimal_read : (n most : ℕ) (word : List ℕ) → most < 2 ^ 64 → n ≤ most → AllDigits 10 word → n ≡ digits_value 10 word → 0 < length word → (get_or word 0 0 ≡ 48 → length word ≡ 1)
    → decimal_in most word ≡ Some n
decimal_read n most word fits below digits value some lead =
    let spelled = decimal-digits_value (numerals_by_value _ tells_digits) word digits some lead (omega arith) in
    decimal_is n most word (omega arith) below (sym spelled ∙ ap decimal (sym value))

-- a decimal has digits alone, and their value
pub decimal_unread : (most : ℕ) (word : List ℕ) → most < 2 ^ 64 → (AllDigits 10 word → most < digits_value 10 word) → decimal_in most word ≡ None
decimal_unread most word fits above = decimal_none most word (λ n below spelled.
    let is = decimal_is_IsNumeral n (omega arith) in
    let value : digits_value 10 word ≡ n = ap (digits_value 10) spelled ∙ is.1 in
    let more = above (subst (AllDigits 10) (sym spelled) is.0.1) in
    omega arith)

pub decimal_empty : (most : ℕ) (word : List ℕ) → most < 2 ^ 64 → length word ≡ 0 → decimal_in most word ≡ None
decimal_empty most word fits none = decimal_none most word (λ n below spelled.
    let some = decimal_nonempty n (omega arith) in
    let same : length word ≡ length (decimal n) = ap length spelled in
    omega arith)

begins_with_zero : (n : ℕ) (word : List ℕ) → n < 2 ^ 64 → word ≡ decimal n → 1 < length word → get_or word 0 0 ≡ 48 → ⊥
begins_with_zero zero word small spelled long lead =
    let one : length word ≡ 1 = ap length spelled ∙ ap length (decimal_digit 0 (omega arith)) in omega arith
begins_with_zero (suc n) word small spelled long lead =
    let more = first_decimal (suc n) (omega arith) small in
    let same : get_or word 0 0 ≡ get_or (decimal (suc n)) 0 0 = ap (λ (w : List ℕ). get_or w 0 0) spelled in
    omega arith

-- no decimal of two bytes or more begins with `0`
pub decimal_zero_first : (most : ℕ) (word : List ℕ) → most < 2 ^ 64 → 1 < length word → get_or word 0 0 ≡ 48 → decimal_in most word ≡ None
decimal_zero_first most word fits long lead = decimal_none most word (λ n below spelled. begins_with_zero n word (omega arith) spelled long lead)

-- what is read of digits is what the word is the decimal of
pub decimal_by : (r : Option ℕ) (most : ℕ) (word : List ℕ) → most < 2 ^ 64 → 0 < length word → (get_or word 0 0 ≡ 48 → length word ≡ 1)
    → IfSome r (λ n. AllDigits 10 word × (n ≡ digits_value 10 word)) → IfSome r (λ n. n ≤ most) → IfNone r (AllDigits 10 word → most < digits_value 10 word)
    → r ≡ decimal_in most word
decimal_by (Some n) most word fits some lead read small none = sym (decimal_read n most word fits small read.0 read.1 some lead)
decimal_by None most word fits some lead read small none = sym (decimal_unread most word fits none)

-- one more digit
pub one_digit_more : (word : List ℕ) (i n : ℕ) → i < length word → 48 ≤ get_or word i 0 → get_or word i 0 ≤ 57 → AllDigits 10 (take i word) → n ≡ digits_value 10 (take i word)
    → AllDigits 10 (take (i + 1) word) × (n * 10 + (get_or word i 0 - 48) ≡ digits_value 10 (take (i + 1) word))
one_digit_more word i n below low high digits value =
    let byte : ℕ = get_or word i 0 in
    let digit : digit_value byte + 48 ≡ byte = digit_value_digit byte (low, high) in
    let small : digit_value byte < 10 = omega arith in
    let more : digits_value 10 (take (i + 1) word) ≡ digits_value 10 (take i word) * 10 + digit_value byte = digits_value_more 10 word i below in
    let grown : n * 10 + (byte - 48) ≡ digits_value 10 (take (i + 1) word) = omega arith in
    (digits_more 10 word i below digits small, grown)

-- a byte that is no digit
pub no_digit : (word : List ℕ) (i : ℕ) → i < length word → (48 ≤ get_or word i 0 → get_or word i 0 ≤ 57 → ⊥) → AllDigits 10 word → ⊥
no_digit word i below other digits =
    let range = digit_at word i digits below in
    other range.0 range.1

-- a value that is too large stays so
pub grows : (most n i : ℕ) (word : List ℕ) → most < n → n ≡ digits_value 10 (take (i + 1) word) → most < digits_value 10 word
grows most n i word above value = omega (arith, digits_value-take-le 10 word (i + 1) (omega arith))
