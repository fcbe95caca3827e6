-- A block is a hole by its bytes, those past the end counted as zero; so two files pass as many blocks where these have the same bytes.
use Rattle.std.proofs.Common.{◌≡◌, ℕ, zero, suc, ◌+◌, ◌-◌, ◌*◌, ◌/◌, ◌<◌, ◌≤◌, Bool, true, false, List, length, get_or, drop, min, ◌==◌, if◌then◌else◌, not, refl, sym, ap, subst, ◌∙◌, arith, inl, inr, length-take, length-drop, get_or-take, get_or-drop, eq-eqb, eqb-true}
use Rattle.std.proofs.lemmas.Bool.{cases_lt}
use Rattle.std.proofs.lemmas.List.{get_or_default, get_or_past}
use Rattle.std.proofs.lemmas.List.Sums.{AllPass-from_list_all, list_all-from_AllPass}
use Rattle.std.specs.List.{AllByRecursion}
use Rattle.model.specs.Aspects.{SameBlock}
use Rattle.model.specs.Holes.{block_in, is_hole, is_alike, alike_from}
use Rattle.model.specs.Plan.{rising}

-- a byte of a block, by its place in the file
pub byte_in : (bytes : List ℕ) (block k : ℕ) → k < 1024 → get_or (block_in bytes block) k 0 ≡ get_or bytes (block * 1024 + k) 0
byte_in bytes block k low = get_or-take 1024 (drop (block * 1024) bytes) k 0 low ∙ get_or-drop (block * 1024) bytes k 0

-- each byte of a hole is zero, those past the end too
pub hole_zero : (bytes : List ℕ) (block : ℕ) → is_hole bytes block ≡ true → (i : ℕ) → i / 1024 ≡ block → get_or bytes i 0 ≡ 0
hole_zero bytes block e i is = elim (cases_lt i (length bytes)) [
  | inl low ↦
      let k : i - block * 1024 < 1024 = omega arith in
      let at : block * 1024 + (i - block * 1024) ≡ i = omega arith in
      let inside : i - block * 1024 < length (block_in bytes block) = omega (arith, length-take 1024 (drop (block * 1024) bytes), length-drop (block * 1024) bytes) in
      ap (λ n. get_or bytes n 0) (sym at) ∙ sym (byte_in bytes block (i - block * 1024) k)
      ∙ eqb-true _ 0 (AllPass-from_list_all (λ b. b == 0) (block_in bytes block) e (i - block * 1024) 0 inside)
  | inr past ↦ get_or_past bytes i 0 past
]

-- a block of which each byte is zero is a hole
pub zero_hole : (bytes : List ℕ) (block : ℕ) → ((i : ℕ) → i / 1024 ≡ block → get_or bytes i 0 ≡ 0) → is_hole bytes block ≡ true
zero_hole bytes block zeros = list_all-from_AllPass (λ b. b == 0) (block_in bytes block) (λ k d low.
    let short : k < 1024 = omega (arith, length-take 1024 (drop (block * 1024) bytes)) in
    let is : (block * 1024 + k) / 1024 ≡ block = omega arith in
    eq-eqb _ 0 (get_or_default (block_in bytes block) k d 0 low ∙ byte_in bytes block k short ∙ zeros (block * 1024 + k) is))

-- a fact that follows both ways
pub alike : (a b : Bool) → (a ≡ true → b ≡ true) → (b ≡ true → a ≡ true) → a ≡ b
alike true b f g = sym (f refl)
alike false true f g = g refl
alike false false f g = refl

-- two blocks of the same bytes are both holes, or neither is
pub same_hole : (now later : List ℕ) (block : ℕ) → SameBlock block later now → is_hole later block ≡ is_hole now block
same_hole now later block same = alike (is_hole later block) (is_hole now block)
    (λ e. zero_hole now block (λ i is. sym (same i is) ∙ hole_zero later block e i is))
    (λ e. zero_hole later block (λ i is. same i is ∙ hole_zero now block e i is))

-- and so one is passed where the other is
same_alike : (holes : Bool) (now later : List ℕ) (block : ℕ) → SameBlock block later now → is_alike holes later block ≡ is_alike holes now block
same_alike true now later block same = same_hole now later block same
same_alike false now later block same = ap not (same_hole now later block same)

-- each of these blocks has the same bytes in two files
abbrev AllSame : List ℕ → List ℕ → List ℕ → Type 0
AllSame now later blocks = AllByRecursion (λ block. SameBlock block later now) blocks

-- as many are passed where those that are passed have the same bytes, and the one behind them has
pub same_passed : (holes : Bool) (now later : List ℕ) (first count : ℕ) → AllSame now later (rising first (min count (suc (alike_from holes now first count)))) → alike_from holes later first count ≡ alike_from holes now first count
same_passed holes now later first zero h = refl
same_passed holes now later first (suc more) h = by (is_alike holes now first) refl h (same_passed holes now later (suc first) more)
  where
    by : (b : Bool) → is_alike holes now first ≡ b → AllSame now later (rising first (min (suc more) (suc (if b then suc (alike_from holes now (suc first) more) else 0))))
        → (AllSame now later (rising (suc first) (min more (suc (alike_from holes now (suc first) more)))) → alike_from holes later (suc first) more ≡ alike_from holes now (suc first) more)
        → alike_from holes later first (suc more) ≡ (if b then suc (alike_from holes now (suc first) more) else 0)
    by true e h rest =
        let long : min (suc more) (suc (suc (alike_from holes now (suc first) more))) ≡ suc (min more (suc (alike_from holes now (suc first) more))) = omega arith in
        let each : AllSame now later (rising first (suc (min more (suc (alike_from holes now (suc first) more))))) = subst (λ n. AllSame now later (rising first n)) long h in
        ap (λ b. if b then suc (alike_from holes later (suc first) more) else 0) (same_alike holes now later first each.0 ∙ e) ∙ ap suc (rest each.1)
    by false e h rest =
        let one : min (suc more) (suc 0) ≡ suc 0 = omega arith in
        let each : AllSame now later (rising first (suc 0)) = subst (λ n. AllSame now later (rising first n)) one h in
        ap (λ b. if b then suc (alike_from holes later (suc first) more) else 0) (same_alike holes now later first each.0 ∙ e)

-- A row of blocks, one after the other: `passed` of them are alike, and what comes behind these is told from there on.
module _ (holes : Bool) (bytes : List ℕ) (first count : ℕ) where
  abbrev whole : ℕ
  whole = alike_from holes bytes first count

  pub row_begins : whole ≡ 0 + alike_from holes bytes (first + 0) (count - 0)
  row_begins =
      let at : first + 0 ≡ first = omega arith in
      let all : count - 0 ≡ count = omega arith in
      let same : whole ≡ alike_from holes bytes (first + 0) (count - 0) = λ i. alike_from holes bytes (sym at i) (sym all i) in
      let sum : alike_from holes bytes (first + 0) (count - 0) ≡ 0 + alike_from holes bytes (first + 0) (count - 0) = omega arith in
      same ∙ sum

  module _ (passed : ℕ) (was : whole ≡ passed + alike_from holes bytes (first + passed) (count - passed)) where
    abbrev rest : ℕ
    rest = alike_from holes bytes (suc (first + passed)) (count - (passed + 1))

    next : passed < count → (b : Bool) → is_alike holes bytes (first + passed) ≡ b → whole ≡ passed + (if b then suc rest else 0)
    next low b is =
        let left : count - passed ≡ suc (count - (passed + 1)) = omega (arith, low) in
        was ∙ ap (λ n. passed + alike_from holes bytes (first + passed) n) left ∙ ap (λ t. passed + (if t then suc rest else 0)) is

    -- one more is alike
    pub row_more : passed < count → is_alike holes bytes (first + passed) ≡ true → whole ≡ passed + 1 + alike_from holes bytes (first + (passed + 1)) (count - (passed + 1))
    row_more low is =
        let at : suc (first + passed) ≡ first + (passed + 1) = omega arith in
        let sum : passed + suc rest ≡ passed + 1 + rest = omega arith in
        next low true is ∙ sum ∙ ap (λ f. passed + 1 + alike_from holes bytes f (count - (passed + 1))) at

    -- the next is not
    pub row_stops : passed < count → is_alike holes bytes (first + passed) ≡ false → whole ≡ passed
    row_stops low is = let none : passed + 0 ≡ passed = omega arith in next low false is ∙ none

    -- none is left
    pub row_done : count ≤ passed → whole ≡ passed
    row_done past =
        let none : count - passed ≡ 0 = omega (arith, past) in
        let same : passed + 0 ≡ passed = omega arith in
        was ∙ ap (λ n. passed + alike_from holes bytes (first + passed) n) none ∙ same
