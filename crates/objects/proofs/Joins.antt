-- Pieces that come from two places, one more at a time, from the last on.
use Rattle.std.proofs.Common.{◌≡◌, ◌≢◌, ℕ, suc, ◌+◌, ◌*◌, ◌/◌, ◌%◌, ◌<◌, ◌≤◌, List, [], ◌∷◌, ◌++◌, length, get_or, refl, sym, ap, subst, subst₂, ◌∙◌, arith, inl, inr, append_assoc, length-append}
use Rattle.std.proofs.Math.ListN.{set}
use Rattle.std.proofs.Math.Seq.{get_or-append_seam}
use Rattle.std.proofs.lemmas.Bool.{cases_eq}
use Rattle.std.proofs.lemmas.Grind.{get_or-set_at}
use Rattle.std.proofs.lemmas.List.{get_or-set_other, get_or_past}
use Rattle.objects.specs.Contents.{Content}
use Rattle.objects.specs.Pieces.{JoinedFrom, no_piece, piece_in, piece_of}
use Rattle.objects.specs.declared.group.TheConstants.{GROUP_LEN}

-- the last of the pieces that are left stands at its index
pub popped : {X : Type 0} (all left new rest : List X) (last d : X) → all ≡ left ++ rest → left ≡ new ++ last ∷ [] → get_or all (length new) d ≡ last
popped all left new rest last d is end = ap (λ xs. get_or xs (length new) d) (is ∙ ap (λ xs. xs ++ rest) end ∙ append_assoc new (last ∷ []) rest) ∙ get_or-append_seam new last rest d

pub left_less : {X : Type 0} (all left new rest : List X) (last : X) → all ≡ left ++ rest → left ≡ new ++ last ∷ [] → all ≡ new ++ (last ∷ rest)
left_less all left new rest last is end = is ∙ ap (λ xs. xs ++ rest) end ∙ append_assoc new (last ∷ []) rest

pub left_long : {X : Type 0} (left new : List X) (last : X) → left ≡ new ++ last ∷ [] → length left ≡ length new + 1
left_long left new last end = ap length end ∙ length-append new (last ∷ [])

-- the index of the last that is left is one of the longer list
pub low_place : {X : Type 0} (one other now left new rest : List X) (last : X) → one ≡ left ++ rest → left ≡ new ++ last ∷ [] → length now ≡ length other → length one ≤ length other → length new < length now
low_place one other now left new rest last is end count fits = (let all = left_less one left new rest last is end in let long : length one ≡ length new + suc (length rest) = ap length all ∙ length-append new (last ∷ rest) in omega (arith, long))

pub low_in : {X : Type 0} (one left new rest : List X) (last : X) → one ≡ left ++ rest → left ≡ new ++ last ∷ [] → length new < length one
low_in one left new rest last is end = low_place one one one left new rest last is end refl (omega arith)

-- where none has come yet, and where all have
pub at_start : (one other : List Content) (k : ℕ) → length one ≡ k → JoinedFrom piece_in k one other other
at_start one other k all = record {
  below = λ n low. refl;
  first = λ n from none. none ∙ sym (ap (λ (p : Content). p.bytes) (get_or_past one n no_piece (omega (arith, all))));
  second = λ n from none. refl;
  mine = λ n from. (let none : (piece_in one n).room ≡ 0 = ap (λ (p : Content). p.room) (get_or_past one n no_piece (omega (arith, all))) in omega arith);
  theirs = λ n from. omega arith;
}

-- one more piece
module _ (one other now : List Content) (k : ℕ) (joined : Content) (low : k < length now) (so_far : JoinedFrom piece_in (k + 1) one other now)
    (first : (piece_in now k).bytes ≡ [] → joined.bytes ≡ (piece_in one k).bytes) (second : (piece_in one k).bytes ≡ [] → joined.bytes ≡ (piece_in now k).bytes)
    (mine : (piece_in one k).room ≤ joined.room) (theirs : (piece_in now k).room ≤ joined.room) where
  at : (n : ℕ) → n ≡ k → piece_in (set now k joined) n ≡ joined
  at n is = get_or-set_at now k n joined no_piece is low

  away : (n : ℕ) → n ≢ k → piece_in (set now k joined) n ≡ piece_in now n
  away n not = get_or-set_other now k n joined no_piece not

  other_here : (n : ℕ) → n ≡ k → piece_in now n ≡ piece_in other n
  other_here n is = so_far.below n (omega arith)

  pub joined_more : JoinedFrom piece_in k one other (set now k joined)
  joined_more = record {
    below = λ n lower. away n (omega arith) ∙ so_far.below n (omega arith);
    first = λ n from none. elim (cases_eq n k) [
      | inl is ↦ ap (λ (p : Content). p.bytes) (at n is) ∙ first (ap (λ m. (piece_in now m).bytes) (sym is) ∙ ap (λ (p : Content). p.bytes) (other_here n is) ∙ none) ∙ ap (λ m. (piece_in one m).bytes) (sym is)
      | inr not ↦ ap (λ (p : Content). p.bytes) (away n not) ∙ so_far.first n (omega arith) none
    ];
    second = λ n from none. elim (cases_eq n k) [
      | inl is ↦ ap (λ (p : Content). p.bytes) (at n is) ∙ second (ap (λ m. (piece_in one m).bytes) (sym is) ∙ none) ∙ ap (λ m. (piece_in now m).bytes) (sym is) ∙ ap (λ (p : Content). p.bytes) (other_here n is)
      | inr not ↦ ap (λ (p : Content). p.bytes) (away n not) ∙ so_far.second n (omega arith) none
    ];
    mine = λ n from. elim (cases_eq n k) [
      | inl is ↦ (let room : (piece_in (set now k joined) n).room ≡ joined.room = ap (λ (p : Content). p.room) (at n is) in let same : (piece_in one n).room ≡ (piece_in one k).room = ap (λ m. (piece_in one m).room) is in omega (arith, mine))
      | inr not ↦ (let room : (piece_in (set now k joined) n).room ≡ (piece_in now n).room = ap (λ (p : Content). p.room) (away n not) in let before = so_far.mine n (omega arith) in omega arith)
    ];
    theirs = λ n from. elim (cases_eq n k) [
      | inl is ↦ (let room : (piece_in (set now k joined) n).room ≡ joined.room = ap (λ (p : Content). p.room) (at n is) in let same : (piece_in other n).room ≡ (piece_in now k).room = ap (λ (p : Content). p.room) (sym (other_here n is)) ∙ ap (λ m. (piece_in now m).room) is in omega (arith, theirs))
      | inr not ↦ (let room : (piece_in (set now k joined) n).room ≡ (piece_in now n).room = ap (λ (p : Content). p.room) (away n not) in let before = so_far.theirs n (omega arith) in omega arith)
    ];
  }

-- one more group
module _ (one other now : List (List Content)) (k : ℕ) (joined : List Content) (low : k < length now) (so_far : JoinedFrom piece_of ((k + 1) * GROUP_LEN) one other now)
    (first : (i : ℕ) → (piece_in (get_or now k []) i).bytes ≡ [] → (piece_in joined i).bytes ≡ (piece_in (get_or one k []) i).bytes)
    (second : (i : ℕ) → (piece_in (get_or one k []) i).bytes ≡ [] → (piece_in joined i).bytes ≡ (piece_in (get_or now k []) i).bytes)
    (rooms : (i : ℕ) → ((piece_in (get_or one k []) i).room ≤ (piece_in joined i).room) × ((piece_in (get_or now k []) i).room ≤ (piece_in joined i).room)) where
  in_it : (n : ℕ) → n / GROUP_LEN ≡ k → piece_of (set now k joined) n ≡ piece_in joined (n % GROUP_LEN)
  in_it n is = ap (λ (g : List Content). piece_in g (n % GROUP_LEN)) (get_or-set_at now k (n / GROUP_LEN) joined [] is low)

  out_of_it : (n : ℕ) → n / GROUP_LEN ≢ k → piece_of (set now k joined) n ≡ piece_of now n
  out_of_it n not = ap (λ (g : List Content). piece_in g (n % GROUP_LEN)) (get_or-set_other now k (n / GROUP_LEN) joined [] not)

  one_at : (n : ℕ) → n / GROUP_LEN ≡ k → piece_of one n ≡ piece_in (get_or one k []) (n % GROUP_LEN)
  one_at n is = ap (λ m. piece_in (get_or one m []) (n % GROUP_LEN)) is

  now_at : (n : ℕ) → n / GROUP_LEN ≡ k → piece_of other n ≡ piece_in (get_or now k []) (n % GROUP_LEN)
  now_at n is = sym (so_far.below n (omega arith)) ∙ ap (λ m. piece_in (get_or now m []) (n % GROUP_LEN)) is

  pub joined_group : JoinedFrom piece_of (k * GROUP_LEN) one other (set now k joined)
  joined_group = record {
    below = λ n lower. out_of_it n (omega arith) ∙ so_far.below n (omega arith);
    first = λ n from none. elim (cases_eq (n / GROUP_LEN) k) [
      | inl is ↦ ap (λ (p : Content). p.bytes) (in_it n is) ∙ first (n % GROUP_LEN) (ap (λ (p : Content). p.bytes) (sym (now_at n is)) ∙ none) ∙ ap (λ (p : Content). p.bytes) (sym (one_at n is))
      | inr not ↦ ap (λ (p : Content). p.bytes) (out_of_it n not) ∙ so_far.first n (omega arith) none
    ];
    second = λ n from none. elim (cases_eq (n / GROUP_LEN) k) [
      | inl is ↦ ap (λ (p : Content). p.bytes) (in_it n is) ∙ second (n % GROUP_LEN) (ap (λ (p : Content). p.bytes) (sym (one_at n is)) ∙ none) ∙ ap (λ (p : Content). p.bytes) (sym (now_at n is))
      | inr not ↦ ap (λ (p : Content). p.bytes) (out_of_it n not) ∙ so_far.second n (omega arith) none
    ];
    mine = λ n from. elim (cases_eq (n / GROUP_LEN) k) [
      | inl is ↦ subst₂ (λ (a b : Content). a.room ≤ b.room) (sym (one_at n is)) (sym (in_it n is)) (rooms (n % GROUP_LEN)).0
      | inr not ↦ subst (λ (b : Content). (piece_of one n).room ≤ b.room) (sym (out_of_it n not)) (so_far.mine n (omega arith))
    ];
    theirs = λ n from. elim (cases_eq (n / GROUP_LEN) k) [
      | inl is ↦ subst₂ (λ (a b : Content). a.room ≤ b.room) (sym (now_at n is)) (sym (in_it n is)) (rooms (n % GROUP_LEN)).1
      | inr not ↦ subst (λ (b : Content). (piece_of other n).room ≤ b.room) (sym (out_of_it n not)) (so_far.theirs n (omega arith))
    ];
  }

pub groups_at_start : (one other : List (List Content)) (k : ℕ) → length one ≡ k → JoinedFrom piece_of (k * GROUP_LEN) one other other
groups_at_start one other k all = record {
  below = λ n low. refl;
  first = λ n from none. none ∙ sym (ap (λ (p : Content). p.bytes) (none_there n from));
  second = λ n from none. refl;
  mine = λ n from. (let none : (piece_of one n).room ≡ 0 = ap (λ (p : Content). p.room) (none_there n from) in omega arith);
  theirs = λ n from. omega arith;
} where
  none_there : (n : ℕ) → k * GROUP_LEN ≤ n → piece_of one n ≡ no_piece
  none_there n from = ap (λ (g : List Content). piece_in g (n % GROUP_LEN)) (get_or_past one (n / GROUP_LEN) [] (omega (arith, all))) ∙ get_or_past [] (n % GROUP_LEN) no_piece (omega arith)
