-- How many processes pass a test, when one of them changes; and whether any does.
use Rattle.std.proofs.Common.{◌≡◌, ◌≢◌, ℕ, zero, suc, ◌+◌, ◌<◌, ◌≤◌, refl, sym, ◌∙◌, ap, true, false, Bool, inl, inr, arith, [], ◌∷◌}
use Rattle.std.specs.Prelude.{◌||◌, nat_lt}
use Rattle.std.proofs.lemmas.Bool.{cases_eq, cases_lt, lt-ltb}
use Rattle.std.proofs.lemmas.List.Folds.{list_any-append}
use Rattle.model.specs.Moments.{all_below, count_below}
use Rattle.model.specs.Modes.{any_below}
use Rattle.list_modes.specs.Counted.{one}

count_beyond : (f g : ℕ → Bool) (p n : ℕ) → ((q : ℕ) → q ≢ p → g q ≡ f q) → n ≤ p → count_below g n ≡ count_below f n
count_beyond f g p zero same h = refl
count_beyond f g p (suc n) same h =
    let here : g n ≡ f n = same n (let lt : n < p = omega arith in λ e. absurd (omega arith)) in
    let rest : count_below g n ≡ count_below f n = count_beyond f g p n same (omega arith) in
    ap (λ b. one b + count_below g n) here ∙ ap (λ c. one (f n) + c) rest

pub count_changed : (f g : ℕ → Bool) (p n : ℕ) → ((q : ℕ) → q ≢ p → g q ≡ f q) → p < n → count_below g n + one (f p) ≡ count_below f n + one (g p)
count_changed f g p zero same h = absurd (omega arith)
count_changed f g p (suc n) same h = elim (cases_eq n p) [
  | inl e ↦
      let rest : count_below g n ≡ count_below f n = count_beyond f g p n same (omega arith) in
      let a : one (f p) ≡ one (f n) = ap (λ x. one (f x)) (sym e) in
      let b : one (g p) ≡ one (g n) = ap (λ x. one (g x)) (sym e) in
      omega arith
  | inr ne ↦
      let rest : count_below g n + one (f p) ≡ count_below f n + one (g p) = count_changed f g p n same (omega arith) in
      let here : one (g n) ≡ one (f n) = ap one (same n ne) in
      omega arith
]

one_small : (b : Bool) → one b ≤ 1
one_small true = omega arith
one_small false = omega arith

pub count_small : (f : ℕ → Bool) (n : ℕ) → count_below f n ≤ n
count_small f zero = omega arith
count_small f (suc n) =
    let here = one_small (f n) in
    let rest = count_small f n in
    omega arith

pub counted_there : (f : ℕ → Bool) (p n : ℕ) → p < n → one (f p) ≤ count_below f n
counted_there f p zero h = absurd (omega arith)
counted_there f p (suc n) h = elim (cases_eq n p) [
  | inl e ↦ (let a : one (f p) ≡ one (f n) = ap (λ x. one (f x)) (sym e) in omega arith)
  | inr ne ↦ (let rest : one (f p) ≤ count_below f n = counted_there f p n (omega arith) in omega arith)
]

abbrev pub everyone : ℕ → Bool
everyone q = true

pub any_last : (f : ℕ → Bool) (n : ℕ) → any_below f (suc n) ≡ (any_below f n || f n)
any_last f n = list_any-append f (all_below everyone n) (n ∷ []) ∙ ap (λ b. any_below f n || b) (or_false (f n)) where
  or_false : (b : Bool) → (b || false) ≡ b
  or_false true = refl
  or_false false = refl

-- some process passes where the count is not zero
pub any_counted : (f : ℕ → Bool) (n : ℕ) → any_below f n ≡ nat_lt 0 (count_below f n)
any_counted f zero = refl
any_counted f (suc n) = any_last f n ∙ by (f n) refl (any_counted f n) where
  by : (b : Bool) → f n ≡ b → any_below f n ≡ nat_lt 0 (count_below f n) → (any_below f n || f n) ≡ nat_lt 0 (one (f n) + count_below f n)
  by true is earlier = ap (λ b. any_below f n || b) is ∙ or_true (any_below f n) ∙ sym (lt-ltb 0 (one (f n) + count_below f n) (let here : one (f n) ≡ 1 = ap one is in omega arith)) where
    or_true : (b : Bool) → (b || true) ≡ true
    or_true true = refl
    or_true false = refl
  by false is earlier = ap (λ b. any_below f n || b) is ∙ or_false (any_below f n) ∙ earlier ∙ ap (nat_lt 0) (let here : one (f n) ≡ 0 = ap one is in let e : count_below f n ≡ one (f n) + count_below f n = omega arith in e) where
    or_false : (b : Bool) → (b || false) ≡ b
    or_false true = refl
    or_false false = refl

-- a larger number of processes has no more that pass, where none does from the smaller on
pub any_limit : (f : ℕ → Bool) (b n : ℕ) → ((q : ℕ) → b ≤ q → f q ≡ false) → b ≤ n → any_below f n ≡ any_below f b
any_limit f b zero none h = (let e : zero ≡ b = omega arith in ap (any_below f) e)
any_limit f b (suc n) none h = elim (cases_lt n b) [
  | inl below ↦ (let e : suc n ≡ b = omega arith in ap (any_below f) e)
  | inr above ↦ any_last f n ∙ ap (λ c. any_below f n || c) (none n above) ∙ or_false (any_below f n) ∙ any_limit f b n none above
] where
  or_false : (b : Bool) → (b || false) ≡ b
  or_false true = refl
  or_false false = refl

-- so where none passes from either on, both have the same
pub any_same : (f : ℕ → Bool) (a b : ℕ) → ((q : ℕ) → a ≤ q → f q ≡ false) → ((q : ℕ) → b ≤ q → f q ≡ false) → any_below f a ≡ any_below f b
any_same f a b from_a from_b = elim (cases_lt a b) [
  | inl below ↦ sym (any_limit f a b from_a (omega arith))
  | inr above ↦ any_limit f b a from_b above
]
