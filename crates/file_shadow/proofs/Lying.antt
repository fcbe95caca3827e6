-- Blocks that lie one behind the other: one of them changes, or one more comes.
use Rattle.std.proofs.Common.{◌≡◌, ◌≢◌, ℕ, ◌+◌, ◌-◌, ◌*◌, ◌<◌, ◌≤◌, ◌⊎◌, min, List, [], ◌++◌, Option, Some, None, length, get_or, take, drop, set, replicate, refl, sym, ap, subst, ◌∙◌, arith, inl, inr, length-take, length-drop, get_or-take, get_or-drop}
use Rattle.std.specs.List.{insert}
use Rattle.std.proofs.Math.ListN.{get_or-append}
use Rattle.std.proofs.Math.Seq.{take-append_seam}
use Rattle.std.proofs.lemmas.Bool.{cases_eq, cases_lt}
use Rattle.std.proofs.lemmas.List.{ext_get_or, get_or-append_right, get_or_past, get_or-map, get_or-replicate, get_or-set_other, get_or-set_same, length-append, length-map, length-replicate, length-set, take_all}
use Rattle.std.proofs.lemmas.List.Edits.{get_or-insert_above, get_or-insert_at, get_or-insert_below, length-insert}
use Rattle.ids.specs.declared.limits.TheConstants.{BLOCK_LEN}
use Rattle.file_shadow.specs.Arena.{AreApart, block_at, blocks_at}
use Rattle.file_shadow.specs.Steps.{Kept, Pasted, Wiped}

abbrev pub Bytes : Type 0
Bytes = List (Option ℕ)

at_block : (bytes : Bytes) (p i : ℕ) → i < BLOCK_LEN → get_or (block_at bytes p) i None ≡ get_or bytes (p * BLOCK_LEN + i) None
at_block bytes p i low = get_or-take BLOCK_LEN (drop (p * BLOCK_LEN) bytes) i None low ∙ get_or-drop (p * BLOCK_LEN) bytes i None

pub long_block : (bytes : Bytes) (p : ℕ) → p * BLOCK_LEN + BLOCK_LEN ≤ length bytes → length (block_at bytes p) ≡ BLOCK_LEN
long_block bytes p low = length-take BLOCK_LEN (drop (p * BLOCK_LEN) bytes) ∙ omega (arith, length-drop (p * BLOCK_LEN) bytes)

-- a block whose bytes stay
same_block : (old new : Bytes) (q : ℕ) → q * BLOCK_LEN + BLOCK_LEN ≤ length old → q * BLOCK_LEN + BLOCK_LEN ≤ length new
    → ((p : ℕ) → q * BLOCK_LEN ≤ p → p < q * BLOCK_LEN + BLOCK_LEN → get_or new p None ≡ get_or old p None) → block_at new q ≡ block_at old q
same_block old new q was is same =
    let m : length (block_at old q) ≡ BLOCK_LEN = long_block old q was in
    let n : length (block_at new q) ≡ BLOCK_LEN = long_block new q is in
    ext_get_or None (block_at new q) (block_at old q) (n ∙ sym m) (λ i low.
    let short : i < BLOCK_LEN = omega arith in
    at_block new q i short ∙ same (q * BLOCK_LEN + i) (omega arith) (omega arith) ∙ sym (at_block old q i short))

-- what was written through the slice of a list is the list
pub written : (n : ℕ) (ws xs : Bytes) → n ≡ length ws → take n (ws ++ drop (length ws) xs) ≡ ws
written n ws xs is = ap (λ n. take n (ws ++ drop (length ws) xs)) is ∙ take-append_seam ws (drop (length ws) xs)

-- a block by where it lies
pub block_is : (bytes : Bytes) (places : List ℕ) (i : ℕ) → i < length places → get_or (blocks_at bytes places) i [] ≡ block_at bytes (get_or places i 0)
block_is bytes places i low = get_or-map (block_at bytes) places i 0 [] low

module _ (places : List ℕ) (old new : Bytes) (apart : AreApart places old) (index : ℕ) (low : index < length places) (same : length new ≡ length old)
    (outside : (p : ℕ) → (p < get_or places index 0 * BLOCK_LEN) ⊎ (get_or places index 0 * BLOCK_LEN + BLOCK_LEN ≤ p) → get_or new p None ≡ get_or old p None) where
  away : (j : ℕ) → j < length places → j ≢ index → get_or places j 0 ≢ get_or places index 0
  away j short not = elim (cases_lt j index) [
    | inl before ↦ apart.apart j index before low
    | inr from ↦ λ e. apart.apart index j (omega arith) short (sym e)
  ]

  within : (q : ℕ) → q < length places → q * BLOCK_LEN + BLOCK_LEN ≤ length old
  within q short = let whole : length old ≡ length places * BLOCK_LEN = apart.whole in omega arith

  stays : (q : ℕ) → q < length places → q ≢ get_or places index 0 → block_at new q ≡ block_at old q
  stays q short not =
      let w : q * BLOCK_LEN + BLOCK_LEN ≤ length old = within q short in
      same_block old new q w (omega arith) (λ p from to. outside p (elim (cases_lt q (get_or places index 0)) [
        | inl before ↦ inl (omega arith)
        | inr after ↦ let more : get_or places index 0 < q = omega arith in inr (omega arith)
      ]))

  -- only this block changes
  pub one_changes : blocks_at new places ≡ set (blocks_at old places) index (block_at new (get_or places index 0))
  one_changes =
      ext_get_or [] (blocks_at new places) (set (blocks_at old places) index (block_at new (get_or places index 0)))
      (length-map places (block_at new) ∙ sym (length-set (blocks_at old places) index (block_at new (get_or places index 0)) ∙ length-map places (block_at old)))
      (λ j short. let inside : j < length places = omega (arith, length-map places (block_at new)) in elim (cases_eq j index) [
        | inl is ↦ ap (λ j. get_or (blocks_at new places) j []) is ∙ block_is new places index low
            ∙ sym (ap (λ j. get_or (set (blocks_at old places) index (block_at new (get_or places index 0))) j []) is
            ∙ get_or-set_same (blocks_at old places) index (block_at new (get_or places index 0)) [] (omega (arith, length-map places (block_at old))))
        | inr not ↦ block_is new places j inside ∙ stays (get_or places j 0) (apart.within j inside) (away j inside not)
            ∙ sym (get_or-set_other (blocks_at old places) index j (block_at new (get_or places index 0)) [] not ∙ block_is old places j inside)
      ])

-- what is pasted into the bytes of one block is pasted into that block
pub pasted_in : (old new : Bytes) (p n offset : ℕ) (bytes : List ℕ) → p * BLOCK_LEN + BLOCK_LEN ≤ length old → offset + n ≤ BLOCK_LEN → Pasted n (p * BLOCK_LEN + offset) bytes old new → Pasted n offset bytes (block_at old p) (block_at new p)
pasted_in old new p n offset bytes whole fits pasted = record {
  len = long_block new p (omega (arith, pasted.len)) ∙ sym (long_block old p whole);
  inside = λ i from to.
      let less : p * BLOCK_LEN + i - (p * BLOCK_LEN + offset) ≡ i - offset = omega arith in
      at_block new p i (omega arith) ∙ pasted.inside (p * BLOCK_LEN + i) (omega arith) (omega arith) ∙ ap (λ m. Some (get_or bytes m 0)) less;
  outside = λ i out. elim (cases_lt i BLOCK_LEN) [
    | inl low ↦ at_block new p i low ∙ pasted.outside (p * BLOCK_LEN + i) (elim out [ inl a ↦ inl (omega arith) | inr b ↦ inr (omega arith) ]) ∙ sym (at_block old p i low)
    | inr past ↦
        let m : length (block_at old p) ≡ BLOCK_LEN = long_block old p whole in
        let k : length (block_at new p) ≡ BLOCK_LEN = long_block new p (omega (arith, pasted.len)) in
        get_or_past (block_at new p) i None (omega arith) ∙ sym (get_or_past (block_at old p) i None (omega arith))
  ];
}

-- and what is wiped from an offset on
pub kept_in : (old new : Bytes) (p offset : ℕ) → p * BLOCK_LEN + BLOCK_LEN ≤ length old → Wiped (p * BLOCK_LEN + min offset BLOCK_LEN) (p * BLOCK_LEN + BLOCK_LEN) old new → Kept offset (block_at old p) (block_at new p)
kept_in old new p offset whole wiped = record {
  below = λ i low. elim (cases_lt i BLOCK_LEN) [
    | inl short ↦ at_block new p i short ∙ wiped.outside (p * BLOCK_LEN + i) (inl (omega arith)) ∙ sym (at_block old p i short)
    | inr past ↦
        let m : length (block_at old p) ≡ BLOCK_LEN = long_block old p whole in
        get_or_past (block_at new p) i None (omega (arith, long_new)) ∙ sym (get_or_past (block_at old p) i None (omega arith))
  ];
  past = λ i from. elim (cases_lt i BLOCK_LEN) [
    | inl short ↦ at_block new p i short ∙ wiped.inside (p * BLOCK_LEN + i) (omega arith) (omega arith)
    | inr far ↦ get_or_past (block_at new p) i None (omega (arith, long_new))
  ];
}
  where
    long_new : length (block_at new p) ≡ BLOCK_LEN
    long_new = long_block new p (omega (arith, wiped.len))

-- one more is wiped, and all are
pub wiped_none : (from : ℕ) (old : Bytes) → Wiped from from old old
wiped_none from old = record { len = refl; inside = λ p a b. absurd (omega arith); outside = λ p out. refl }

pub wiped_more : (from i : ℕ) (old now : Bytes) → from ≤ i → i < length now → Wiped from i old now → Wiped from (i + 1) old (set now i None)
wiped_more from i old now above low wiped = record {
  len = length-set now i None ∙ wiped.len;
  inside = λ p a b. elim (cases_eq p i) [
    | inl is ↦ ap (λ p. get_or (set now i None) p None) is ∙ get_or-set_same now i None None low
    | inr not ↦ get_or-set_other now i p None None not ∙ wiped.inside p a (omega arith)
  ];
  outside = λ p out.
      let not : p ≢ i = elim out [ inl a ↦ omega arith | inr b ↦ omega arith ] in
      get_or-set_other now i p None None not ∙ wiped.outside p (elim out [ inl a ↦ inl a | inr b ↦ inr (omega arith) ]);
}

pub wiped_all : (from i to : ℕ) (old now : Bytes) → i ≡ to → Wiped from i old now → Wiped from to old now
wiped_all from i to old now is wiped = subst (λ n. Wiped from n old now) is wiped

-- a block without bytes
pub none_in : (n p : ℕ) → get_or (replicate {A = Option ℕ} n None) p None ≡ None
none_in n p = elim (cases_lt p n) [
  | inl low ↦ get_or-replicate n p None None low
  | inr past ↦ get_or_past (replicate {A = Option ℕ} n None) p None (omega (arith, length-replicate {A = Option ℕ} n None))
]

-- a list that is filled up by a block is one block longer
pub grown_by : (old new : Bytes) (n m : ℕ) → n ≡ length old → m ≡ length old → new ≡ take (n + BLOCK_LEN) old ++ replicate (n + BLOCK_LEN - m) None → new ≡ old ++ replicate BLOCK_LEN None
grown_by old new n m is same filled =
    let more : n + BLOCK_LEN - m ≡ BLOCK_LEN = omega arith in
    filled ∙ ap (λ (xs : Bytes). xs ++ replicate (n + BLOCK_LEN - m) None) (take_all (n + BLOCK_LEN) old (omega arith)) ∙ ap (λ m. old ++ replicate m None) more

-- one more block, behind the others, comes at this index
module _ (places : List ℕ) (old new : Bytes) (index : ℕ) (low : index ≤ length places) (apart : AreApart places old) (grown : new ≡ old ++ replicate BLOCK_LEN None) where
  abbrev pub ps : List ℕ
  ps = insert places index (length places)

  long : length new ≡ length old + BLOCK_LEN
  long = ap length grown ∙ length-append old (replicate BLOCK_LEN None) ∙ ap (λ n. length old + n) (length-replicate {A = Option ℕ} BLOCK_LEN None)

  more : length ps ≡ length places + 1
  more = length-insert places index (length places) low

  here : get_or ps index 0 ≡ length places
  here = get_or-insert_at places index (length places) 0 low

  before : (j : ℕ) → j < index → get_or ps j 0 ≡ get_or places j 0
  before j less = get_or-insert_below places index (length places) 0 j less low

  behind : (j : ℕ) → index < j → get_or ps j 0 ≡ get_or places (j - 1) 0
  behind j far = let e : j - 1 + 1 ≡ j = omega arith in ap (λ n. get_or ps n 0) (sym e) ∙ get_or-insert_above places index (length places) 0 (j - 1) (omega arith) low

  -- of another block than the new one, where it stood
  pub stood : (j : ℕ) → j < length ps → j ≢ index → (k : ℕ) × (k < length places) × (get_or ps j 0 ≡ get_or places k 0)
  stood j short not = elim (cases_lt j index) [
    | inl less ↦ (j, omega arith, before j less)
    | inr from ↦ let far : index < j = omega arith in (j - 1, omega (arith, more), behind j far)
  ]

  old_is_low : (j : ℕ) → j < length ps → j ≢ index → get_or ps j 0 < length places
  old_is_low j short not = let it = stood j short not in let small : get_or places it.0 0 < length places = apart.within it.0 it.1 in let is : get_or ps j 0 ≡ get_or places it.0 0 = it.2 in omega arith

  two : (i j : ℕ) → i < j → j < length ps → get_or ps i 0 ≢ get_or ps j 0
  two i j less short = elim (cases_eq i index) [
    | inl is ↦
        let low_j : get_or ps j 0 < length places = old_is_low j short (omega arith) in
        let top : get_or ps i 0 ≡ length places = ap (λ n. get_or ps n 0) is ∙ here in
        omega arith
    | inr not ↦ elim (cases_eq j index) [
      | inl is ↦
          let low_i : get_or ps i 0 < length places = old_is_low i (omega arith) not in
          let top : get_or ps j 0 ≡ length places = ap (λ n. get_or ps n 0) is ∙ here in
          omega arith
      | inr nor ↦ both i j less short not nor
    ]
  ]
    where
      both : (i j : ℕ) → i < j → j < length ps → i ≢ index → j ≢ index → get_or ps i 0 ≢ get_or ps j 0
      both i j less short not nor = elim (cases_lt j index) [
        | inl b ↦ λ e. apart.apart i j less (omega arith) (sym (before i (omega arith)) ∙ e ∙ before j b)
        | inr c ↦ let far : index < j = omega arith in elim (cases_lt i index) [
          | inl a ↦ λ e. apart.apart i (j - 1) (omega arith) (omega (arith, more)) (sym (before i a) ∙ e ∙ behind j far)
          | inr d ↦ let off : index < i = omega arith in λ e. apart.apart (i - 1) (j - 1) (omega arith) (omega (arith, more)) (sym (behind i off) ∙ e ∙ behind j far)
        ]
      ]

  pub apart_more : AreApart ps new
  apart_more = record {
    whole = let whole : length old ≡ length places * BLOCK_LEN = apart.whole in omega (arith, long, more);
    within = λ j short. elim (cases_eq j index) [
      | inl is ↦ let top : get_or ps j 0 ≡ length places = ap (λ n. get_or ps n 0) is ∙ here in omega (arith, more)
      | inr not ↦ let less : get_or ps j 0 < length places = old_is_low j short not in omega (arith, more)
    ];
    apart = two;
  }

  at_end : (d : Option ℕ) (i : ℕ) → i < BLOCK_LEN → get_or new (length old + i) None ≡ None
  at_end d i short =
      let gone : length old + i - length old ≡ i = omega arith in
      ap (λ (xs : Bytes). get_or xs (length old + i) None) grown ∙ get_or-append_right old (replicate BLOCK_LEN None) (length old) (length old + i) None refl (omega arith)
      ∙ ap (λ n. get_or (replicate {A = Option ℕ} BLOCK_LEN None) n None) gone ∙ get_or-replicate BLOCK_LEN i None None short

  as_before : (p : ℕ) → p < length old → get_or new p None ≡ get_or old p None
  as_before p short = ap (λ (xs : Bytes). get_or xs p None) grown ∙ get_or-append old (replicate BLOCK_LEN None) None p short

  whole_new : block_at new (length places) ≡ replicate BLOCK_LEN None
  whole_new =
      let whole : length old ≡ length places * BLOCK_LEN = apart.whole in
      let n : length (block_at new (length places)) ≡ BLOCK_LEN = long_block new (length places) (omega (arith, long)) in
      ext_get_or None (block_at new (length places)) (replicate BLOCK_LEN None) (n ∙ sym (length-replicate {A = Option ℕ} BLOCK_LEN None)) (λ i low.
      let short : i < BLOCK_LEN = omega arith in
      at_block new (length places) i short ∙ ap (λ n. get_or new (n + i) None) (sym whole) ∙ at_end None i short ∙ sym (get_or-replicate BLOCK_LEN i None None short))

  whole_old : (q : ℕ) → q < length places → block_at new q ≡ block_at old q
  whole_old q short =
      let whole : length old ≡ length places * BLOCK_LEN = apart.whole in
      let w : q * BLOCK_LEN + BLOCK_LEN ≤ length old = omega arith in
      same_block old new q w (omega (arith, long)) (λ p from to. as_before p (omega arith))

  abbrev pub bs : List (List (Option ℕ))
  bs = blocks_at old places

  many : length bs ≡ length places
  many = length-map places (block_at old)

  old_block : (k : ℕ) → k < length places → block_at new (get_or places k 0) ≡ get_or bs k []
  old_block k short = whole_old (get_or places k 0) (apart.within k short) ∙ sym (block_is old places k short)

  pub one_more : blocks_at new ps ≡ insert bs index (replicate BLOCK_LEN None)
  one_more =
      ext_get_or [] (blocks_at new ps) (insert bs index (replicate BLOCK_LEN None)) (length-map ps (block_at new) ∙ more ∙ sym (length-insert bs index (replicate BLOCK_LEN None) (omega (arith, many)) ∙ ap (λ n. n + 1) many)) (λ j short.
      let inside : j < length ps = omega (arith, length-map ps (block_at new)) in
      block_is new ps j inside ∙ elim (cases_eq j index) [
        | inl is ↦ ap (λ n. block_at new (get_or ps n 0)) is ∙ ap (block_at new) here ∙ whole_new ∙ sym (ap (λ n. get_or (insert bs index (replicate BLOCK_LEN None)) n []) is ∙ get_or-insert_at bs index (replicate BLOCK_LEN None) [] (omega (arith, many)))
        | inr not ↦ elim (cases_lt j index) [
          | inl less ↦ ap (block_at new) (before j less) ∙ old_block j (omega arith) ∙ sym (get_or-insert_below bs index (replicate BLOCK_LEN None) [] j less (omega (arith, many)))
          | inr from ↦
              let far : index < j = omega arith in
              let e : j - 1 + 1 ≡ j = omega arith in
              ap (block_at new) (behind j far) ∙ old_block (j - 1) (omega (arith, more))
              ∙ sym (ap (λ n. get_or (insert bs index (replicate BLOCK_LEN None)) n []) (sym e) ∙ get_or-insert_above bs index (replicate BLOCK_LEN None) [] (j - 1) (omega arith) (omega (arith, many)))
        ]
      ])
