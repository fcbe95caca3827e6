-- Bits of a word, and of words in a row; and the lowest of a row that is clear, which is looked for word
-- by word.
use Rattle.std.proofs.Common.{◌≡◌, ℕ, ◌+◌, ◌-◌, ◌*◌, ◌/◌, ◌%◌, ◌^◌, ◌<◌, ◌≤◌, List, [], ◌∷◌, ◌++◌, length, get_or, drop, nat_eq, suc, ◌≢◌, bit_and, Some, None, refl, sym, ap, ◌∙◌, arith, inl, inr, length-append, length-drop}
use Rattle.std.specs.Int.{bit_at}
use Rattle.std.specs.Int.RustNames.{bit_or}
use Rattle.std.proofs.Math.ListN.{set}
use Rattle.std.proofs.lemmas.Bool.{cases_eq, cases_lt}
use Rattle.std.proofs.lemmas.Grind.{get_or-set_at, one_shifted}
use Rattle.std.proofs.lemmas.Nat.Bits.{bit_at-lt, bit_at-zero, bit_at_ones, bit_at_ones_above, bit_at_or, shr_and_one}
use mir.Syntax.{w64}
use mir.Val.{bits}
use Rattle.std.proofs.lemmas.List.{get_or-set_other, get_or-set_same, get_or_past}
use Rattle.fdtable.specs.Words.{IsLowestClear, as_bit, bit_in}

-- a mask of the bits below one
mask_below : (k : ℕ) → k < 64 → 1 * 2 ^ k % 2 ^ bits w64 - 1 ≡ 2 ^ k - 1
mask_below k small = ap (λ m. m - 1) (one_shifted k 18446744073709551615 refl small).0

-- a word in which the bits below one are set as well
pub filled_set : (word k i : ℕ) → k < 64 → i < k → bit_at (bit_or word (1 * 2 ^ k % 2 ^ bits w64 - 1)) i ≡ 1
filled_set word k i small low =
    ap (λ m. bit_at (bit_or word m) i) (mask_below k small) ∙ bit_at_or word (2 ^ k - 1) i
    ∙ (let one : bit_at (2 ^ k - 1) i ≡ 1 = bit_at_ones k i low in let few = bit_at-lt word i in omega (arith, one, few))

pub filled_kept : (word k i : ℕ) → k < 64 → k ≤ i → bit_at (bit_or word (1 * 2 ^ k % 2 ^ bits w64 - 1)) i ≡ bit_at word i
filled_kept word k i small high =
    ap (λ m. bit_at (bit_or word m) i) (mask_below k small) ∙ bit_at_or word (2 ^ k - 1) i
    ∙ (let none : bit_at (2 ^ k - 1) i ≡ 0 = bit_at_ones_above k i high in omega (arith, none))

-- a bit of a word, as it is read
bit_one : (b : ℕ) → b < 2 → as_bit (nat_eq b 1) ≡ b
bit_one ℕ.zero low = refl
bit_one (suc ℕ.zero) low = refl
bit_one (suc (suc b)) low = absurd (omega (arith, low))

pub bit_read : (word n : ℕ) → as_bit (nat_eq (bit_and (word / 2 ^ n) 1) 1) ≡ bit_at word n
bit_read word n = ap (λ b. as_bit (nat_eq b 1)) (shr_and_one word n) ∙ bit_one (bit_at word n) (bit_at-lt word n)

-- a word of a row has another bit now
pub marked_here : (words : List ℕ) (bit word b : ℕ) → bit / 64 < length words → bit_at word (bit % 64) ≡ b → bit_in (set words (bit / 64) word) bit ≡ b
marked_here words bit word b low is = ap (λ w. bit_at w (bit % 64)) (get_or-set_same words (bit / 64) word 0 low) ∙ is

pub marked_other : (words : List ℕ) (bit word i : ℕ) → bit / 64 < length words → ((j : ℕ) → j < 64 → j ≢ bit % 64 → bit_at word j ≡ bit_at (get_or words (bit / 64) 0) j) → i ≢ bit → bit_in (set words (bit / 64) word) i ≡ bit_in words i
marked_other words bit word i low others away = elim (cases_eq (i / 64) (bit / 64)) [
  | inl is ↦
      ap (λ w. bit_at w (i % 64)) (get_or-set_at words (bit / 64) (i / 64) word 0 is low)
      ∙ others (i % 64) (omega arith) (λ e. away (whole i is e))
      ∙ ap (λ k. bit_at (get_or words k 0) (i % 64)) (sym is)
  | inr apart ↦ ap (λ w. bit_at w (i % 64)) (get_or-set_other words (bit / 64) (i / 64) word 0 apart)
]
  where
    whole : (i : ℕ) → i / 64 ≡ bit / 64 → i % 64 ≡ bit % 64 → i ≡ bit
    whole i is e = omega (arith, is, e)

-- one word more, in which no bit is set
pub bit_push : (words : List ℕ) (i : ℕ) → bit_in (words ++ 0 ∷ []) i ≡ bit_in words i
bit_push words i = ap (λ w. bit_at w (i % 64)) (same words (i / 64))
  where
    same : (ws : List ℕ) (k : ℕ) → get_or (ws ++ 0 ∷ []) k 0 ≡ get_or ws k 0
    same [] ℕ.zero = refl
    same [] (suc k) = refl
    same (w ∷ ws) ℕ.zero = refl
    same (w ∷ ws) (suc k) = same ws k

-- behind the last word no bit is set
pub bit_past : (words : List ℕ) (i : ℕ) → 64 * length words ≤ i → bit_in words i ≡ 0
bit_past words i past = ap (λ w. bit_at w (i % 64)) (get_or_past words (i / 64) 0 (omega (arith, past))) ∙ bit_at-zero (i % 64)

-- a word has the bits of a row at this index
abbrev pub Shows : (ℕ → ℕ) → ℕ → ℕ → Type 0
Shows bit index word = (i : ℕ) → i < 64 → bit_at word i ≡ bit (64 * index + i)

-- all bits of a row from the first on are set below this one
abbrev pub AreSet : (ℕ → ℕ) → ℕ → ℕ → Type 0
AreSet bit first end = (i : ℕ) → first ≤ i → i < end → bit i ≡ 1

-- the lowest bit of a row from the first on that is clear
pub record IsFound (bit : ℕ → ℕ) (first place : ℕ) : Type 0 where
  pub from : first ≤ place
  pub clear : bit place ≡ 0
  pub below : AreSet bit first place

-- a word of a row of words
pub shows_words : (words : List ℕ) (n : ℕ) → Shows (bit_in words) n (get_or words n 0)
shows_words words n i low =
    let word : (64 * n + i) / 64 ≡ n = omega (arith, low) in
    let place : (64 * n + i) % 64 ≡ i = omega (arith, low) in
    sym (ap (λ k. bit_at (get_or words k 0) ((64 * n + i) % 64)) word ∙ ap (bit_at (get_or words n 0)) place)

pub word_shows : (words : List ℕ) (n word : ℕ) → word ≡ get_or words n 0 → Shows (bit_in words) n word
word_shows words n word is i low = ap (λ w. bit_at w i) is ∙ shows_words words n i low

-- a bit of a row is one of the word at its index
of_word : (bit : ℕ → ℕ) (index word i : ℕ) → Shows bit index word → i / 64 ≡ index → bit i ≡ bit_at word (i % 64)
of_word bit index word i shows is =
    let whole : i ≡ 64 * index + i % 64 = omega (arith, is) in
    ap bit whole ∙ sym (shows (i % 64) (omega arith))

-- the first word, in which the bits below the first one are set as well
module _ (bit : ℕ → ℕ) (first word filled : ℕ) (shows : Shows bit (first / 64) word) (below : (i : ℕ) → i < first % 64 → bit_at filled i ≡ 1) (others : (i : ℕ) → first % 64 ≤ i → bit_at filled i ≡ bit_at word i) where
  at_first : (i : ℕ) → first ≤ i → i / 64 ≡ first / 64 → bit i ≡ bit_at filled (i % 64)
  at_first i from is = of_word bit (first / 64) word i shows is ∙ sym (others (i % 64) (omega (arith, from, is)))

  pub found_first : (b place : ℕ) → IsLowestClear filled (Some b) → place ≡ first / 64 * 64 + b → IsFound bit first place
  found_first b place lowest is =
      let small : b < 64 = lowest.0 in
      let high : first % 64 ≤ b = elim (cases_lt b (first % 64)) [
        | inl low ↦ absurd (omega (arith, below b low, lowest.1))
        | inr high ↦ high
      ] in
      let its_bit : place % 64 ≡ b = omega (arith, is, small) in
      let its_word : place / 64 ≡ first / 64 = omega (arith, is, small) in
      let from : first ≤ place = omega (arith, is, high) in
      record {
        from = from;
        clear = at_first place from its_word ∙ ap (bit_at filled) its_bit ∙ lowest.1;
        below = λ i from low.
            let here : i / 64 ≡ first / 64 = omega (arith, from, low, is, small) in
            at_first i from here ∙ lowest.2 (i % 64) (omega (arith, from, low, is, small));
      }

  pub none_first : IsLowestClear filled None → AreSet bit first (64 * (first / 64 + 1))
  none_first lowest i from low = at_first i from (omega (arith, from, low)) ∙ lowest (i % 64) (omega arith)

-- a word behind it
module _ (bit : ℕ → ℕ) (first index word : ℕ) (shows : Shows bit index word) (so_far : AreSet bit first (64 * index)) where
  pub found_next : (b place : ℕ) → first ≤ 64 * index → IsLowestClear word (Some b) → place ≡ index * 64 + b → IsFound bit first place
  found_next b place behind lowest is =
      let small : b < 64 = lowest.0 in
      let its_bit : place % 64 ≡ b = omega (arith, is, small) in
      record {
        from = omega (arith, is, behind);
        clear = of_word bit index word place shows (omega (arith, is, small)) ∙ ap (bit_at word) its_bit ∙ lowest.1;
        below = λ i from low. elim (cases_lt i (64 * index)) [
          | inl before ↦ so_far i from before
          | inr here ↦ of_word bit index word i shows (omega (arith, here, low, is, small)) ∙ lowest.2 (i % 64) (omega (arith, here, low, is, small))
        ];
      }

  pub none_next : IsLowestClear word None → AreSet bit first (64 * (index + 1))
  none_next lowest i from low = elim (cases_lt i (64 * index)) [
    | inl before ↦ so_far i from before
    | inr here ↦ of_word bit index word i shows (omega (arith, here, low)) ∙ lowest (i % 64) (omega arith)
  ]

-- words over the first of a row in which no bit is set
in_front : (words others : List ℕ) (k j : ℕ) → length words ≤ length others → ((n : ℕ) → bit_at (get_or others n 0) j ≡ 0) → bit_at (get_or (words ++ drop (length words) others) k 0) j ≡ bit_at (get_or words k 0) j
in_front [] others k j long none = none k ∙ sym (bit_at-zero j)
in_front (w ∷ ws) [] k j long none = absurd (omega (arith, long))
in_front (w ∷ ws) (o ∷ os) ℕ.zero j long none = refl
in_front (w ∷ ws) (o ∷ os) (suc k) j long none = in_front ws os k j (omega (arith, long)) (λ n. none (suc n))

-- have the bits of the words
pub front_bits : (words others : List ℕ) → length words ≤ length others → ((i : ℕ) → bit_in others i ≡ 0) → (i : ℕ) → bit_in (words ++ drop (length words) others) i ≡ bit_in words i
front_bits words others long none i = in_front words others (i / 64) (i % 64) long (λ n. shows_words others n (i % 64) (omega arith) ∙ none (64 * n + i % 64))

-- and the length of the row
pub front_long : (words others : List ℕ) → length words ≤ length others → length (words ++ drop (length words) others) ≡ length others
front_long words others long =
    let count : length (words ++ drop (length words) others) ≡ length words + length (drop (length words) others) = length-append words (drop (length words) others) in
    let rest : length (drop (length words) others) ≡ length others - length words = length-drop (length words) others in
    omega (arith, count, rest, long)
