-- What a call claims is what its edits claim, one after the other, and so the second finds its
-- claims kept.
use Rattle.std.proofs.Common.{◌≡◌, ℕ, ◌+◌, ◌≤◌, ◌==◌, ◌&&◌, Bool, true, false, not, cond, sum_by, length}
use Rattle.std.proofs.Common.{List, [], ◌∷◌, ◌++◌, append-nil, refl, sym, ap, ap₂, subst, ◌∙◌}
use Rattle.std.proofs.Common.{arith, inl, inr, ◌⊎◌}
use Rattle.std.proofs.lemmas.List.Sums.{sum_by-cons}
use Rattle.ids.specs.declared.edit.Mode.{Mode}
use Rattle.model.specs.State.{Fixed_content, Kernel, Name, Rights}
use Rattle.model.specs.Changes.{Append, Clear_slot, Cut, Edit, Make_directory, Make_file, Make_fixed, Make_pipe, Open_inode, Take}
use Rattle.model.specs.Changes.{Move, Name_file, Replaced, Share_slot, Swap, Unname_file, Wipe}
use Rattle.model.specs.Changes.{Put_bytes, Set_offset, Set_rights, Unname_directory, Which, all_applied}
use Rattle.model.specs.Changes.{applied, news, tidy}
use Rattle.call_laws.specs.Fits.{Fits, FitsAll}
use Rattle.freeing_laws.specs.Sweep.{IsTidied}
use Rattle.shadow.specs.Claims.{Claim, Covers, KeepsMore, New_directory, Number, Room, claimed}
use Rattle.shadow.specs.Claims.{claimed_by, claimed_by_one, claimed_in, kinds_in, reserved}
use Rattle.shadow.specs.Claims.{as_count, with_kinds}
use Rattle.freeing_laws.specs.Counts.{times}
use Rattle.shadow.specs.Committed.{Committed}
use Rattle.notes.specs.Log.{effect}
use Rattle.notes.specs.Steps.{CanEdit, IsFirst, IsLast, IsOne, new_in, parents_in}
use Rattle.notes.proofs.Laws.{by_one, news_of_two}
use Rattle.shadow.proofs.claims.EditClaims.{claimed_append, kinds_first, kinds_last, kinds_two, mine}
use Rattle.shadow.proofs.claims.EditClaims.{no_more, none_claimed}
use Rattle.shadow.proofs.edits.UnusedNumbers.{none_goes}

abbrev ClaimsAlone : List ℕ → Edit → Type 0
ClaimsAlone chosen e = (c : Claim)
    → claimed_in c (mine chosen e) (parents_in e) ≡ claimed_by_one c chosen e

and_true : (b : Bool) → 0 + cond {A = ℕ} (b && true) 1 0 ≡ 0 + cond {A = ℕ} b 1 0
and_true true = refl
and_true false = refl

and_false : (b : Bool) → 0 + cond {A = ℕ} (b && false) 1 0 ≡ 0
and_false true = refl
and_false false = refl

-- numbers that are of no directory
abbrev others : List ℕ → List (ℕ × Bool)
others [] = []
others (m ∷ ms) = (m, false) ∷ others ms

no_directory : (ms : List ℕ) (n : ℕ) → claimed_in (New_directory n) (others ms) [] ≡ 0
no_directory [] n = refl
no_directory (m ∷ ms) n =
    let more : claimed_in (New_directory n) (others (m ∷ ms)) [] ≡ as_count ((m == n) && false) + claimed_in (New_directory n) (others ms) [] = sum_by-cons (λ (z : ℕ × Bool). as_count ((z.0 == n) && z.1)) (m, false) (others ms) in
    let never : 0 + as_count ((m == n) && false) ≡ 0 = and_false (m == n) in
    let rest : claimed_in (New_directory n) (others ms) [] ≡ 0 = no_directory ms n in
    omega arith

all_others : (ms : List ℕ) (n : ℕ) → claimed_in (Number n) (others ms) [] ≡ times n ms
all_others [] n = refl
all_others (m ∷ ms) n =
    let more : claimed_in (Number n) (others (m ∷ ms)) [] ≡ as_count ((m == n) && not false) + claimed_in (Number n) (others ms) [] = sum_by-cons (λ (z : ℕ × Bool). as_count ((z.0 == n) && not z.1)) (m, false) (others ms) in
    let count : times n (m ∷ ms) ≡ as_count (m == n) + times n ms = sum_by-cons (λ v. as_count (v == n)) m ms in
    let always : 0 + as_count ((m == n) && true) ≡ 0 + as_count (m == n) = and_true (m == n) in
    let rest : claimed_in (Number n) (others ms) [] ≡ times n ms = all_others ms n in
    omega arith

-- the claims of one edit
claimed_alone : (chosen : List ℕ) (e : Edit) → IsOne e → ClaimsAlone chosen e
claimed_alone chosen e one =
    by_one (ClaimsAlone chosen) directory file never_changing unnaming linking unlinking renaming put cut opening
    moving clearing sharing taking appending piping setting exchanging wiping e one
  where
    unnaming : (d : ℕ) (x : Name) (m : ℕ) → ClaimsAlone chosen (Unname_directory d x m)
    unnaming d x m (Room r) = refl
    unnaming d x m (New_directory n) = refl
    unnaming d x m (Number n) = refl

    linking : (d : ℕ) (x : Name) (m : ℕ) → ClaimsAlone chosen (Name_file d x m)
    linking d x m (Room r) = refl
    linking d x m (New_directory n) = refl
    linking d x m (Number n) = refl

    unlinking : (d : ℕ) (x : Name) (m : ℕ) → ClaimsAlone chosen (Unname_file d x m)
    unlinking d x m (Room r) = refl
    unlinking d x m (New_directory n) = refl
    unlinking d x m (Number n) = refl

    renaming : (d : ℕ) (x : Name) (e : ℕ) (y : Name) (m : ℕ) (replaced : Replaced)
        → ClaimsAlone chosen (Move d x e y m replaced)
    renaming d x e y m replaced (Room r) = refl
    renaming d x e y m replaced (New_directory n) = refl
    renaming d x e y m replaced (Number n) = refl

    exchanging : (d : ℕ) (x : Name) (n e : ℕ) (y : Name) (m : ℕ)
        → ClaimsAlone chosen (Swap d x n e y m)
    exchanging d x n e y m (Room r) = refl
    exchanging d x n e y m (New_directory q) = refl
    exchanging d x n e y m (Number q) = refl

    wiping : (m place count : ℕ) → ClaimsAlone chosen (Wipe m place count)
    wiping m place count (Room r) = refl
    wiping m place count (New_directory n) = refl
    wiping m place count (Number n) = refl

    put : (m place : ℕ) (bytes : List ℕ) (before : ℕ)
        → ClaimsAlone chosen (Put_bytes m place bytes before)
    put m place bytes before (Room r) = refl
    put m place bytes before (New_directory n) = refl
    put m place bytes before (Number n) = refl

    cut : (m before after : ℕ) → ClaimsAlone chosen (Cut m before after)
    cut m before after (Room r) = refl
    cut m before after (New_directory n) = refl
    cut m before after (Number n) = refl

    moving : (d place : ℕ) → ClaimsAlone chosen (Set_offset d place)
    moving d place (Room r) = refl
    moving d place (New_directory n) = refl
    moving d place (Number n) = refl

    clearing : (pid f : ℕ) (pipes : List ℕ) → ClaimsAlone chosen (Clear_slot pid f pipes)
    clearing pid f pipes (Room r) = refl
    clearing pid f pipes (New_directory n) = refl
    clearing pid f pipes (Number n) = refl

    sharing : (pid f d : ℕ) (pipes : List ℕ) → ClaimsAlone chosen (Share_slot pid f d pipes)
    sharing pid f d pipes (Room r) = refl
    sharing pid f d pipes (New_directory n) = refl
    sharing pid f d pipes (Number n) = refl

    taking : (p count : ℕ) → ClaimsAlone chosen (Take p count)
    taking p count (Room r) = refl
    taking p count (New_directory n) = refl
    taking p count (Number n) = refl

    appending : (p : ℕ) (bytes : List ℕ) → ClaimsAlone chosen (Append p bytes)
    appending p bytes (Room r) = refl
    appending p bytes (New_directory n) = refl
    appending p bytes (Number n) = refl

    piping : (i pid f g : ℕ) → ClaimsAlone chosen (Make_pipe i pid f g)
    piping i pid f g (Room r) = refl
    piping i pid f g (New_directory n) = no_directory (new_in chosen i ∷ new_in chosen (i + 1) ∷ new_in chosen (i + 2) ∷ []) n
    piping i pid f g (Number n) = all_others (new_in chosen i ∷ new_in chosen (i + 1) ∷ new_in chosen (i + 2) ∷ []) n

    setting : (m : ℕ) (rights : Rights) → ClaimsAlone chosen (Set_rights m rights)
    setting m rights (Room r) = refl
    setting m rights (New_directory n) = refl
    setting m rights (Number n) = refl

    directory : (d : ℕ) (x : Name) (i : ℕ) → ClaimsAlone chosen (Make_directory d x i)
    directory d x i (Room r) = refl
    directory d x i (New_directory n) = and_true (new_in chosen i == n)
    directory d x i (Number n) = and_false (new_in chosen i == n)

    file : (d : ℕ) (x : Name) (i : ℕ) → ClaimsAlone chosen (Make_file d x i)
    file d x i (Room r) = refl
    file d x i (New_directory n) = and_false (new_in chosen i == n)
    file d x i (Number n) = and_true (new_in chosen i == n)

    never_changing : (d : ℕ) (x : Name) (fixed : Fixed_content) (i : ℕ)
        → ClaimsAlone chosen (Make_fixed d x fixed i)
    never_changing d x fixed i (Room r) = refl
    never_changing d x fixed i (New_directory n) = and_false (new_in chosen i == n)
    never_changing d x fixed i (Number n) = and_true (new_in chosen i == n)

    opening : (i : ℕ) (inode : Which) (mode : Mode) (pid f : ℕ)
        → ClaimsAlone chosen (Open_inode i inode mode pid f)
    opening i inode mode pid f (Room r) = refl
    opening i inode mode pid f (New_directory n) = and_false (new_in chosen i == n)
    opening i inode mode pid f (Number n) = and_true (new_in chosen i == n)

-- those of a call with one edit
module _ (chosen : List ℕ) (e : Edit) (can : IsFirst e ⊎ IsLast 0 e) (long : length chosen ≡ news e)
  where
    kinds : IsFirst e ⊎ IsLast 0 e → with_kinds chosen (kinds_in e ++ []) ≡ mine chosen e ++ []
    kinds (inl first) = kinds_first chosen e first long
    kinds (inr last) = kinds_last 0 chosen chosen refl e last long

    is_one : IsFirst e ⊎ IsLast 0 e → IsOne e
    is_one (inl first) = inl first
    is_one (inr last) = inr (0, last)

    pub claimed_of_one : (c : Claim)
        → claimed_by c (effect chosen (e ∷ [])) ≡ claimed_by_one c chosen e
    claimed_of_one c = ap₂ (λ ms ps. claimed_in c ms ps) (kinds can ∙ append-nil (mine chosen e))
        (append-nil (parents_in e)) ∙ claimed_alone chosen e (is_one can) c

-- of a call with none
pub claimed_of_none : (chosen : List ℕ) → length chosen ≡ 0 → (c : Claim)
    → claimed_by c (effect chosen []) ≡ 0
claimed_of_none chosen long c = ap (λ ns. claimed_in c (with_kinds ns []) []) (no_more chosen long)
    ∙ none_claimed c

-- and of a call with two
module _ (v : Committed) (chosen : List ℕ) (e f : Edit) (can : CanEdit (e ∷ f ∷ []))
    (long : length chosen ≡ sum_by news (e ∷ f ∷ []))
    (fits : FitsAll chosen v.state (e ∷ f ∷ []))
    (covers : Covers v (effect chosen (e ∷ f ∷ []) ∷ [])) where
  count : length chosen ≡ news e + news f
  count = long ∙ news_of_two e f

  claimed_of_two : (c : Claim)
      → claimed_by c (effect chosen (e ∷ f ∷ []))
      ≡ claimed_by_one c chosen e + claimed_by_one c chosen f
  claimed_of_two c =
      ap₂ (λ ms ps. claimed_in c ms ps)
      (kinds_two chosen e f can.0 can.2 count
      ∙ ap (λ ms. mine chosen e ++ ms) (append-nil (mine chosen f)))
      (ap (λ ps. parents_in e ++ ps) (append-nil (parents_in f)))
      ∙ claimed_append c (mine chosen e) (mine chosen f) (parents_in e) (parents_in f)
      ∙ ap₂ (λ a b. a + b) (claimed_alone chosen e (inl can.0) c)
      (claimed_alone chosen f (inr (news e, can.2)) c)

  covered : (c : Claim) → claimed_by_one c chosen e + claimed_by_one c chosen f ≤ reserved v c
  covered c =
      let all : claimed c (effect chosen (e ∷ f ∷ []) ∷ []) ≤ reserved v c = covers c in
      let sum : claimed c (effect chosen (e ∷ f ∷ []) ∷ [])
      ≡ claimed_by c (effect chosen (e ∷ f ∷ [])) + claimed c [] =
      sum_by-cons (claimed_by c) (effect chosen (e ∷ f ∷ [])) [] in
      let two : claimed_by c (effect chosen (e ∷ f ∷ []))
      ≡ claimed_by_one c chosen e + claimed_by_one c chosen f = claimed_of_two c in
      omega arith

  pub first_covers : (c : Claim) → claimed_by_one c chosen e ≤ reserved v c
  first_covers c = (let both : claimed_by_one c chosen e + claimed_by_one c chosen f
      ≤ reserved v c = covered c in omega arith)

  pub last_is : (m : ℕ) × IsLast m f × (m + news f ≤ length chosen)
  last_is = (news e, can.2, omega (arith, count))

  module _ (mid : Committed) (tidied : IsTidied v.state)
      (state : mid.state ≡ tidy (applied chosen e v.state))
      (kept : KeepsMore mid v (λ c. claimed_by_one c chosen e)) where
    mid_is : mid.state ≡ applied chosen e v.state
    mid_is = state ∙ sym (none_goes chosen v.state e tidied fits.0 can.1)

    pub last_fits : Fits chosen mid.state f
    last_fits = subst (λ (k : Kernel). Fits chosen k f) (sym mid_is) fits.1.0

    pub last_covers : (c : Claim) → claimed_by_one c chosen f ≤ reserved mid c
    last_covers c =
        let both : claimed_by_one c chosen e + claimed_by_one c chosen f ≤ reserved v c = covered c
        in
        let less : reserved v c ≡ reserved mid c + claimed_by_one c chosen e = kept c in
        omega arith

    module _ (new : Committed) where
      pub both_made : new.state ≡ tidy (applied chosen f mid.state)
          → new.state ≡ tidy (all_applied chosen (e ∷ f ∷ []) v.state)
      both_made is = is ∙ ap (λ (k : Kernel). tidy (applied chosen f k)) mid_is

      pub both_kept : KeepsMore new mid (λ c. claimed_by_one c chosen f)
          → KeepsMore new v (λ c. claimed_by c (effect chosen (e ∷ f ∷ [])))
      both_kept later c =
          let less : reserved v c ≡ reserved mid c + claimed_by_one c chosen e = kept c in
          let more : reserved mid c ≡ reserved new c + claimed_by_one c chosen f = later c in
          let two : claimed_by c (effect chosen (e ∷ f ∷ []))
          ≡ claimed_by_one c chosen e + claimed_by_one c chosen f = claimed_of_two c in
          omega arith

-- what is asked where a call's edits are performed
pub record CanPerform (v : Committed) (chosen : List ℕ) (edits : List Edit) : Type 0 where
  pub kinds : CanEdit edits
  pub count : length chosen ≡ sum_by news edits
  pub fits : FitsAll chosen v.state edits
  pub covers : Covers v (effect chosen edits ∷ [])
