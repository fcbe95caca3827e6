-- An input that grows by a byte.
use Rattle.std.proofs.Common.{◌≡◌, ℕ, ◌+◌, ◌<◌, ◌≤◌, ◌==◌, List, [], ◌∷◌, ◌++◌, true, false, not, cond, length, take, nat_lt, refl, ap, sym, ◌∙◌, append_assoc, append-nil, arith, inl, inr}
use Rattle.std.specs.Prelude.{flat_map}
use Rattle.std.specs.List.{list_all}
use Rattle.std.proofs.lemmas.Bool.{and_from, cases_lt, cond-true, lt-ltb}
use Rattle.std.proofs.lemmas.List.{length-append, length-take, take_all, take-append-le}
use Rattle.std.proofs.lemmas.List.Concat.{flat_map-append}
use Rattle.std.proofs.lemmas.List.Folds.{list_all-append}
use Rattle.script.specs.Characters.{newline}
use Rattle.stream.specs.Input.{ended, is_one_line}

-- a byte more of the line that has not ended
pub input-byte : (lines : List (List ℕ)) (rest : List ℕ) (b : ℕ) → flat_map ended lines ++ (rest ++ b ∷ []) ≡ (flat_map ended lines ++ rest) ++ b ∷ []
input-byte lines rest b = sym (append_assoc (flat_map ended lines) rest (b ∷ []))

-- the line has ended
pub input-ended : (lines : List (List ℕ)) (rest : List ℕ) → flat_map ended (lines ++ rest ∷ []) ++ [] ≡ (flat_map ended lines ++ rest) ++ newline ∷ []
input-ended lines rest =
    append-nil (flat_map ended (lines ++ rest ∷ []))
    ∙ flat_map-append ended lines (rest ∷ [])
    ∙ ap (λ (t : List ℕ). flat_map ended lines ++ t) (append-nil (ended rest))
    ∙ sym (append_assoc (flat_map ended lines) rest (newline ∷ []))

pub one_line-byte : (rest : List ℕ) (b : ℕ) → is_one_line rest ≡ true → (b == newline) ≡ false → is_one_line (rest ++ b ∷ []) ≡ true
one_line-byte rest b h e =
    list_all-append (λ (x : ℕ). not (x == newline)) rest (b ∷ [])
    ∙ and_from (is_one_line rest) (is_one_line (b ∷ [])) h (and_from (not (b == newline)) true (ap not e) refl)

pub each-line : (lines : List (List ℕ)) (rest : List ℕ) → list_all is_one_line lines ≡ true → is_one_line rest ≡ true → list_all is_one_line (lines ++ rest ∷ []) ≡ true
each-line lines rest h e =
    list_all-append is_one_line lines (rest ∷ [])
    ∙ and_from (list_all is_one_line lines) (list_all is_one_line (rest ∷ [])) h (and_from (is_one_line rest) true e refl)

-- the beginning that is kept, by a byte more
pub kept-byte : (kept rest : List ℕ) (b m : ℕ) → kept ≡ take m rest → length kept < m → kept ++ b ∷ [] ≡ take m (rest ++ b ∷ [])
kept-byte kept rest b m e h =
    let same : length kept ≡ length (take m rest) = ap length e in
    let cut = length-take m rest in
    let short : length rest < m = omega arith in
    ap (λ (xs : List ℕ). xs ++ b ∷ []) (e ∙ take_all m rest (omega arith))
    ∙ sym (take_all m (rest ++ b ∷ []) (omega (arith, length-append rest (b ∷ []))))

-- where as much is kept as ever
pub kept-full : (kept rest : List ℕ) (b m : ℕ) → kept ≡ take m rest → m ≤ length kept → kept ≡ take m (rest ++ b ∷ [])
kept-full kept rest b m e h =
    let same : length kept ≡ length (take m rest) = ap length e in
    let cut = length-take m rest in
    let long : m ≤ length rest = omega arith in
    e ∙ sym (take-append-le m rest (b ∷ []) long)

-- what is said of a line that is not too long is said of its beginning of one byte more than it may have
pub long_line : {A : Type 0} (f : List ℕ → A) (e : A) (m : ℕ) (rest : List ℕ)
    → cond (nat_lt m (length (take (m + 1) rest))) e (f (take (m + 1) rest)) ≡ cond (nat_lt m (length rest)) e (f rest)
long_line {A} f e m rest = elim (cases_lt m (length rest)) [
  | inl h ↦
      let cut = length-take (m + 1) rest in
      let more : m < length (take (m + 1) rest) = omega arith in
      cond-true _ e (f (take (m + 1) rest)) (lt-ltb m (length (take (m + 1) rest)) more)
      ∙ sym (cond-true _ e (f rest) (lt-ltb m (length rest) h))
  | inr h ↦ ap (λ (xs : List ℕ). cond (nat_lt m (length xs)) e (f xs)) (take_all (m + 1) rest (omega arith))
]
