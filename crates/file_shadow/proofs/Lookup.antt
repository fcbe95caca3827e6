-- Which block a list of numbers and a list of blocks hold, after each change of the lists.
use Rattle.std.proofs.Common.{◌≡◌, ◌≢◌, ℕ, zero, suc, ◌+◌, ◌-◌, ◌<◌, ◌≤◌, Bool, true, List, [], ◌∷◌, ◌++◌, length, get_or, take, Option, Some, None, refl, sym, ap, ◌∙◌, arith, inl, inr, ◌⊎◌}
use Rattle.std.specs.Bool.{if◌then◌else◌}
use Rattle.std.specs.Option.{is_some}
use Rattle.std.specs.List.{insert, Contains}
use Rattle.std.proofs.Math.ListN.{set}
use Rattle.std.proofs.lemmas.Bool.{cases_eq, cases_lt, eq-eqb, ne_eqb}
use Rattle.std.proofs.lemmas.List.{length-set, get_or-set_same, take_more, get_or-take, length-take-le}
use Rattle.std.proofs.lemmas.List.Edits.{length-insert, get_or-insert_below, get_or-insert_at, get_or-insert_above}
use Rattle.file_shadow.specs.View.{lookup, IsRising}

abbrev Blocks : Type 0
Blocks = List (List (Option ℕ))

pub lookup_head : (k n : ℕ) (ns : List ℕ) (b : List (Option ℕ)) (bs : Blocks) → n ≡ k → lookup k (n ∷ ns) (b ∷ bs) ≡ Some b
lookup_head k n ns b bs e = ap (λ (t : Bool). if t then Some b else lookup k ns bs) (eq-eqb n k e)

pub lookup_tail : (k n : ℕ) (ns : List ℕ) (b : List (Option ℕ)) (bs : Blocks) → n ≢ k → lookup k (n ∷ ns) (b ∷ bs) ≡ lookup k ns bs
lookup_tail k n ns b bs e = ap (λ (t : Bool). if t then Some b else lookup k ns bs) (ne_eqb n k e)

rising_tail : (n : ℕ) (ns : List ℕ) → IsRising (n ∷ ns) → IsRising ns
rising_tail n ns r i j low high = r (suc i) (suc j) (omega arith) (omega arith)

pub lookup_at : (ns : List ℕ) (bs : Blocks) (i : ℕ) → IsRising ns → length ns ≡ length bs → i < length ns → lookup (get_or ns i 0) ns bs ≡ Some (get_or bs i [])
lookup_at [] bs i r e h = absurd (omega arith)
lookup_at (n ∷ ns) [] i r e h = absurd (omega arith)
lookup_at (n ∷ ns) (b ∷ bs) zero r e h = lookup_head n n ns b bs refl
lookup_at (n ∷ ns) (b ∷ bs) (suc i) r e h =
    let above : n < get_or ns i 0 = r 0 (suc i) (omega arith) h in
    lookup_tail (get_or ns i 0) n ns b bs (omega arith) ∙ lookup_at ns bs i (rising_tail n ns r) (omega arith) (omega arith)

pub lookup_none : (k : ℕ) (ns : List ℕ) (bs : Blocks) → ((i : ℕ) → i < length ns → get_or ns i 0 ≢ k) → lookup k ns bs ≡ None
lookup_none k [] bs h = refl
lookup_none k (n ∷ ns) [] h = refl
lookup_none k (n ∷ ns) (b ∷ bs) h = lookup_tail k n ns b bs (h 0 (omega arith)) ∙ lookup_none k ns bs (λ i low. h (suc i) (omega arith))

-- a block under another number comes in between
pub lookup_insert_other : (q k : ℕ) (b : List (Option ℕ)) (i : ℕ) (ns : List ℕ) (bs : Blocks) → q ≢ k → length ns ≡ length bs → lookup q (insert ns i k) (insert bs i b) ≡ lookup q ns bs
lookup_insert_other q k b zero ns bs h e = lookup_tail q k ns b bs (λ s. h (sym s))
lookup_insert_other q k b (suc i) [] [] h e = lookup_tail q k [] b [] (λ s. h (sym s))
lookup_insert_other q k b (suc i) [] (c ∷ bs) h e = absurd (omega arith)
lookup_insert_other q k b (suc i) (n ∷ ns) [] h e = absurd (omega arith)
lookup_insert_other q k b (suc i) (n ∷ ns) (c ∷ bs) h e =
    elim (cases_eq n q) [
      | inl is ↦ lookup_head q n (insert ns i k) c (insert bs i b) is ∙ sym (lookup_head q n ns c bs is)
      | inr not ↦ lookup_tail q n (insert ns i k) c (insert bs i b) not ∙ lookup_insert_other q k b i ns bs h (omega arith) ∙ sym (lookup_tail q n ns c bs not)
    ]

pub rising_insert : (ns : List ℕ) (i k : ℕ) → IsRising ns → i ≤ length ns → ((j : ℕ) → j < i → get_or ns j 0 < k) → ((j : ℕ) → i ≤ j → j < length ns → k < get_or ns j 0) → IsRising (insert ns i k)
rising_insert ns i k r within below above a b low high = elim (cases_lt a i) [
  | inl a_below ↦ elim (cases_lt b i) [
    | inl b_below ↦ both (get_or-insert_below ns i k 0 a a_below within) (get_or-insert_below ns i k 0 b b_below within) (r a b low (omega (arith, length-insert ns i k within)))
    | inr b_from ↦ elim (cases_eq b i) [
      | inl b_is ↦ both (get_or-insert_below ns i k 0 a a_below within) (ap (λ n. get_or (insert ns i k) n 0) b_is ∙ get_or-insert_at ns i k 0 within) (below a a_below)
      | inr b_above ↦ both (get_or-insert_below ns i k 0 a a_below within) (after b (omega arith)) (r a (b - 1) (omega arith) (omega (arith, length-insert ns i k within)))
    ]
  ]
  | inr a_from ↦ elim (cases_eq a i) [
    | inl a_is ↦ both (ap (λ n. get_or (insert ns i k) n 0) a_is ∙ get_or-insert_at ns i k 0 within) (after b (omega arith)) (above (b - 1) (omega arith) (omega (arith, length-insert ns i k within)))
    | inr a_above ↦ both (after a (omega arith)) (after b (omega arith)) (r (a - 1) (b - 1) (omega arith) (omega (arith, length-insert ns i k within)))
  ]
]
  where
    both : {x y x' y' : ℕ} → x ≡ x' → y ≡ y' → x' < y' → x < y
    both e f h = omega arith

    after : (b : ℕ) → i < b → get_or (insert ns i k) b 0 ≡ get_or ns (b - 1) 0
    after b h = let e : b - 1 + 1 ≡ b = omega arith in ap (λ n. get_or (insert ns i k) n 0) (sym e) ∙ get_or-insert_above ns i k 0 (b - 1) (omega arith) within

-- one block is replaced
pub lookup_set_other : (q : ℕ) (ns : List ℕ) (bs : Blocks) (i : ℕ) (b : List (Option ℕ)) → q ≢ get_or ns i 0 → i < length ns → lookup q ns (set bs i b) ≡ lookup q ns bs
lookup_set_other q [] bs i b h low = absurd (omega arith)
lookup_set_other q (n ∷ ns) [] i b h low = refl
lookup_set_other q (n ∷ ns) (c ∷ bs) zero b h low = lookup_tail q n ns b bs (λ s. h (sym s)) ∙ sym (lookup_tail q n ns c bs (λ s. h (sym s)))
lookup_set_other q (n ∷ ns) (c ∷ bs) (suc i) b h low = elim (cases_eq n q) [
  | inl is ↦ lookup_head q n ns c (set bs i b) is ∙ sym (lookup_head q n ns c bs is)
  | inr not ↦ lookup_tail q n ns c (set bs i b) not ∙ lookup_set_other q ns bs i b h (omega arith) ∙ sym (lookup_tail q n ns c bs not)
]

pub lookup_set : (ns : List ℕ) (bs : Blocks) (i : ℕ) (b : List (Option ℕ)) → IsRising ns → length ns ≡ length bs → i < length ns → lookup (get_or ns i 0) ns (set bs i b) ≡ Some b
lookup_set ns bs i b r e low = lookup_at ns (set bs i b) i r (e ∙ sym (length-set bs i b)) low ∙ ap Some (get_or-set_same bs i b [] (omega arith))

-- one more block behind
pub lookup_push_other : (q : ℕ) (ns : List ℕ) (bs : Blocks) (n : ℕ) (b : List (Option ℕ)) → length ns ≡ length bs → n ≢ q → lookup q (ns ++ n ∷ []) (bs ++ b ∷ []) ≡ lookup q ns bs
lookup_push_other q [] [] n b e h = lookup_tail q n [] b [] h
lookup_push_other q [] (c ∷ bs) n b e h = absurd (omega arith)
lookup_push_other q (m ∷ ns) [] n b e h = absurd (omega arith)
lookup_push_other q (m ∷ ns) (c ∷ bs) n b e h = elim (cases_eq m q) [
  | inl is ↦ lookup_head q m (ns ++ n ∷ []) c (bs ++ b ∷ []) is ∙ sym (lookup_head q m ns c bs is)
  | inr not ↦ lookup_tail q m (ns ++ n ∷ []) c (bs ++ b ∷ []) not ∙ lookup_push_other q ns bs n b (omega arith) h ∙ sym (lookup_tail q m ns c bs not)
]

pub lookup_push : (ns : List ℕ) (bs : Blocks) (n : ℕ) (b : List (Option ℕ)) → length ns ≡ length bs → ((i : ℕ) → i < length ns → get_or ns i 0 ≢ n) → lookup n (ns ++ n ∷ []) (bs ++ b ∷ []) ≡ Some b
lookup_push [] [] n b e h = lookup_head n n [] b [] refl
lookup_push [] (c ∷ bs) n b e h = absurd (omega arith)
lookup_push (m ∷ ns) [] n b e h = absurd (omega arith)
lookup_push (m ∷ ns) (c ∷ bs) n b e h = lookup_tail n m (ns ++ n ∷ []) c (bs ++ b ∷ []) (h 0 (omega arith)) ∙ lookup_push ns bs n b (omega arith) (λ i low. h (suc i) (omega arith))

module _ (ns : List ℕ) (bs : Blocks) (i : ℕ) (r : IsRising ns) (e : length ns ≡ length bs) (low : i < length ns) where
  more : lookup (get_or ns i 0) (take (i + 1) ns) (take (i + 1) bs) ≡ lookup (get_or ns i 0) (take i ns ++ get_or ns i 0 ∷ []) (take i bs ++ get_or bs i [] ∷ [])
  more = let a = take_more ns i 0 low in let b = take_more bs i [] (omega arith) in cc

  pub lookup_more : lookup (get_or ns i 0) (take (i + 1) ns) (take (i + 1) bs) ≡ Some (get_or bs i [])
  lookup_more = more ∙ lookup_push (take i ns) (take i bs) (get_or ns i 0) (get_or bs i []) (omega (arith, length-take-le i ns (omega arith), length-take-le i bs (omega arith)))
      (λ j short. let before : j < i = omega (arith, length-take-le i ns (omega arith)) in let less : get_or ns j 0 < get_or ns i 0 = r j i before low in let at : get_or (take i ns) j 0 ≡ get_or ns j 0 = get_or-take i ns j 0 before in omega arith)

  pub lookup_more_other : (q : ℕ) → get_or ns i 0 ≢ q → lookup q (take (i + 1) ns) (take (i + 1) bs) ≡ lookup q (take i ns) (take i bs)
  lookup_more_other q h = ap (λ (x : List ℕ). lookup q x (take (i + 1) bs)) (take_more ns i 0 low) ∙ ap (lookup q (take i ns ++ get_or ns i 0 ∷ [])) (take_more bs i [] (omega arith))
      ∙ lookup_push_other q (take i ns) (take i bs) (get_or ns i 0) (get_or bs i []) (omega (arith, length-take-le i ns (omega arith), length-take-le i bs (omega arith))) h

  pub lookup_more_none : (q : ℕ) → get_or ns i 0 ≡ q → lookup q (take i ns) (take i bs) ≡ None
  lookup_more_none q is = lookup_none q (take i ns) (take i bs) (λ j short. let before : j < i = omega (arith, length-take-le i ns (omega arith)) in let less : get_or ns j 0 < get_or ns i 0 = r j i before low in let at : get_or (take i ns) j 0 ≡ get_or ns j 0 = get_or-take i ns j 0 before in omega arith)

pub rising_weak : (ns : List ℕ) → IsRising ns → (i j : ℕ) → i ≤ j → j < length ns → get_or ns i 0 ≤ get_or ns j 0
rising_weak ns r i j le low = elim (cases_eq i j) [
  | inl is ↦ let e : get_or ns i 0 ≡ get_or ns j 0 = ap (λ k. get_or ns k 0) is in omega arith
  | inr not ↦ let less : get_or ns i 0 < get_or ns j 0 = r i j (omega arith) low in omega arith
]

-- what stands behind has no part in a block whose number does not stand there
pub lookup_first : (n q : ℕ) (ns : List ℕ) (bs : Blocks) → ((j : ℕ) → n ≤ j → j < length ns → get_or ns j 0 ≢ q) → lookup q (take n ns) (take n bs) ≡ lookup q ns bs
lookup_first zero q ns bs behind = sym (lookup_none q ns bs (λ j low. behind j (omega arith) low))
lookup_first (suc n) q [] bs behind = refl
lookup_first (suc n) q (x ∷ ns) [] behind = refl
lookup_first (suc n) q (x ∷ ns) (b ∷ bs) behind = elim (cases_eq x q) [
  | inl is ↦ lookup_head q x (take n ns) b (take n bs) is ∙ sym (lookup_head q x ns b bs is)
  | inr not ↦ lookup_tail q x (take n ns) b (take n bs) not ∙ lookup_first n q ns bs (λ j from low. behind (suc j) (omega arith) (omega arith)) ∙ sym (lookup_tail q x ns b bs not)
]

pub contains_more : (k x : ℕ) (ns : List ℕ) → Contains ns k → Contains (x ∷ ns) k
contains_more k x ns (j, low, e) = (suc j, omega arith, e)

-- a number whose block is there is one of the numbers
pub lookup_contains : (k : ℕ) (ns : List ℕ) (bs : Blocks) → is_some (lookup k ns bs) ≡ true → Contains ns k
lookup_contains k [] bs there = absurd cc
lookup_contains k (x ∷ ns) [] there = absurd cc
lookup_contains k (x ∷ ns) (b ∷ bs) there = elim (cases_eq x k) [
  | inl is ↦ (0, omega arith, is)
  | inr not ↦ contains_more k x ns (lookup_contains k ns bs (ap is_some (sym (lookup_tail k x ns b bs not)) ∙ there))
]

-- a number is one of the numbers, or it has no block
pub lookup_or : (k : ℕ) (ns : List ℕ) (bs : Blocks) → Contains ns k ⊎ (lookup k ns bs ≡ None)
lookup_or k [] bs = inr refl
lookup_or k (x ∷ ns) [] = inr refl
lookup_or k (x ∷ ns) (b ∷ bs) = elim (cases_eq x k) [
  | inl is ↦ inl (0, omega arith, is)
  | inr not ↦ elim (lookup_or k ns bs) [
    | inl there ↦ inl (contains_more k x ns there)
    | inr none ↦ inr (lookup_tail k x ns b bs not ∙ none)
  ]
]

in_tail : (x k : ℕ) (ns : List ℕ) → x ≢ k → Contains (x ∷ ns) k → Contains ns k
in_tail x k ns away (zero, low, e) = absurd (away e)
in_tail x k ns away (suc j, low, e) = (j, omega arith, e)

pub contains_lookup : (k : ℕ) (ns : List ℕ) (bs : Blocks) → length ns ≡ length bs → Contains ns k → is_some (lookup k ns bs) ≡ true
contains_lookup k [] bs e in' = absurd (omega (arith, in'.1))
contains_lookup k (x ∷ ns) [] e in' = absurd (omega arith)
contains_lookup k (x ∷ ns) (b ∷ bs) e in' = elim (cases_eq x k) [
  | inl is ↦ ap is_some (lookup_head k x ns b bs is)
  | inr not ↦ ap is_some (lookup_tail k x ns b bs not) ∙ contains_lookup k ns bs (omega arith) (in_tail x k ns not in')
]
