-- How often the transactions make a claim, and how that changes with them.
use Rattle.std.proofs.Common.{◌≡◌, ◌≢◌, ℕ, zero, suc, ◌+◌, ◌≤◌, List, [], ◌∷◌, ◌++◌, length, get_or, refl, sym, ◌∙◌, ap, true, false, Bool, eqb, cond, inl, inr, arith}
use Rattle.std.specs.Prelude.{◌||◌, ◌&&◌, not}
use Rattle.std.specs.List.{AllByRecursion, count_by, flat_map, sum_by}
use Rattle.std.proofs.lemmas.Bool.{false≢true, eqb-true, eq-eqb, ne_eqb, cases_Bool}
use Rattle.std.proofs.lemmas.List.Sums.{sum_by-cons, sum_by_push}
use Rattle.model.specs.Changes.{Edit}
use Rattle.model.specs.Moments.{is_in}
use Rattle.model.specs.Effects.{Effect}
use Rattle.shadow.specs.Committed.{Committed}
use Rattle.shadow.specs.Claims.{AreUnused, Claim, New_directory, Number, Covers, KeepsMore, KeepsNothing, KeepsSame, claimed_by, claimed_in, claimed, kinds_in, reserved, with_kinds}
use Rattle.commit.specs.Claims.{total, AreCovered}
use Rattle.commit.specs.Edits.{AreNew, with_change, made_by}
use Rattle.commit.specs.Views.{View, SameViews, Shows, gone_slot, view_at, changes_in}

-- sums over views
sum_same : (f : View → ℕ) (old new : List View) → length new ≡ length old → ((q : ℕ) → f (get_or new q gone_slot) ≡ f (get_or old q gone_slot)) → sum_by f new ≡ sum_by f old
sum_same f [] [] count same = refl
sum_same f [] (y ∷ ys) count same = absurd (omega (arith, count))
sum_same f (x ∷ xs) [] count same = absurd (omega (arith, count))
sum_same f (x ∷ xs) (y ∷ ys) count same =
    sum_by-cons f y ys ∙ ap (λ n. n + sum_by f ys) (same 0) ∙ ap (λ n. f x + n) (sum_same f xs ys (omega (arith, count)) (λ q. same (suc q))) ∙ sym (sum_by-cons f x xs)

pub sum_changed : (f : View → ℕ) (old new : List View) (p : ℕ) → length new ≡ length old → ((q : ℕ) → q ≢ p → f (get_or new q gone_slot) ≡ f (get_or old q gone_slot))
    → sum_by f new + f (get_or old p gone_slot) ≡ sum_by f old + f (get_or new p gone_slot)
sum_changed f [] [] p count same = refl
sum_changed f [] (y ∷ ys) p count same = absurd (omega (arith, count))
sum_changed f (x ∷ xs) [] p count same = absurd (omega (arith, count))
sum_changed f (x ∷ xs) (y ∷ ys) zero count same =
    let rest : sum_by f ys ≡ sum_by f xs = sum_same f xs ys (omega (arith, count)) (λ q. same (suc q) (λ h. absurd (omega arith))) in
    let first : sum_by f (y ∷ ys) ≡ f y + sum_by f ys = sum_by-cons f y ys in
    let second : sum_by f (x ∷ xs) ≡ f x + sum_by f xs = sum_by-cons f x xs in
    omega (arith, first, second, rest)
sum_changed f (x ∷ xs) (y ∷ ys) (suc p) count same =
    let rest : sum_by f ys + f (get_or xs p gone_slot) ≡ sum_by f xs + f (get_or ys p gone_slot) = sum_changed f xs ys p (omega (arith, count)) (λ q differs. same (suc q) (λ h. differs (omega arith))) in
    let here : f y ≡ f x = same 0 (λ h. absurd (omega arith)) in
    let first : sum_by f (y ∷ ys) ≡ f y + sum_by f ys = sum_by-cons f y ys in
    let second : sum_by f (x ∷ xs) ≡ f x + sum_by f xs = sum_by-cons f x xs in
    omega (arith, first, second, rest, here)

pub one_of_sum : (f : View → ℕ) (xs : List View) (q : ℕ) → f gone_slot ≡ 0 → f (get_or xs q gone_slot) ≤ sum_by f xs
one_of_sum f [] q none = omega (arith, none)
one_of_sum f (x ∷ xs) zero none = let first : sum_by f (x ∷ xs) ≡ f x + sum_by f xs = sum_by-cons f x xs in omega (arith, first)
one_of_sum f (x ∷ xs) (suc q) none =
    let first : sum_by f (x ∷ xs) ≡ f x + sum_by f xs = sum_by-cons f x xs in
    let rest : f (get_or xs q gone_slot) ≤ sum_by f xs = one_of_sum f xs q none in
    omega (arith, first, rest)

pub sum_none : (f : View → ℕ) (xs : List View) → ((q : ℕ) → f (get_or xs q gone_slot) ≡ 0) → sum_by f xs ≡ 0
sum_none f [] none = refl
sum_none f (x ∷ xs) none = sum_by-cons f x xs ∙ ap (λ n. n + sum_by f xs) (none 0) ∙ ap (λ n. 0 + n) (sum_none f xs (λ q. none (suc q)))

abbrev of_view : Claim → View → ℕ
of_view c v = claimed c (changes_in v)

-- one slot claims no more than all
pub one_of_total : (c : Claim) (views : List View) (q : ℕ) → claimed c (changes_in (view_at views q)) ≤ total c views
one_of_total c views q = one_of_sum (of_view c) views q refl

pub total_same : (c : Claim) (old new : List View) → length new ≡ length old → ((q : ℕ) → view_at new q ≡ view_at old q) → total c new ≡ total c old
total_same c old new count same = sum_same (of_view c) old new count (λ q. ap (λ v. claimed c (changes_in v)) (same q))

-- where nothing is kept, views without changes are covered
pub covers_none : (views : List View) (s : Committed) → KeepsNothing s → ((q : ℕ) → changes_in (view_at views q) ≡ []) → AreCovered views s
covers_none views s nothing none c = sum_none (of_view c) views (λ q. ap (claimed c) (none q)) ∙ sym (nothing c)

-- a slot changes
pub total_changed : (c : Claim) (old new : List View) (p : ℕ) (v : View) → Shows old new p v → total c new + claimed c (changes_in (view_at old p)) ≡ total c old + claimed c (changes_in v)
total_changed c old new p v shows =
    sum_changed (of_view c) old new p shows.count (λ q differs. ap (λ w. claimed c (changes_in w)) (shows.others q differs)) ∙ ap (λ w. total c old + claimed c (changes_in w)) shows.own

-- what is claimed by one slot is there
pub covers_one : (views : List View) (s : Committed) → AreCovered views s → (q : ℕ) → Covers s (changes_in (view_at views q))
covers_one views s covered q c =
    let one : claimed c (changes_in (view_at views q)) ≤ total c views = one_of_total c views q in
    let all : total c views ≡ reserved s c = covered c in
    omega (arith, one, all)

-- a transaction's changes are forgotten or committed, and what was kept for them is given back
pub gives_back : (old new : List View) (p : ℕ) (v : View) (s t : Committed) → Shows old new p v → changes_in v ≡ [] → KeepsMore t s (λ c. claimed c (changes_in (view_at old p))) → AreCovered old s → AreCovered new t
gives_back old new p v s t shows empty kept covered c =
    let changed : total c new + claimed c (changes_in (view_at old p)) ≡ total c old + 0 = total_changed c old new p v shows ∙ ap (λ ds. total c old + claimed c ds) empty in
    let less : reserved s c ≡ reserved t c + claimed c (changes_in (view_at old p)) = kept c in
    let all : total c old ≡ reserved s c = covered c in
    omega (arith, changed, less, all)

-- a slot without changes is taken
pub covered_without : (old new : List View) (p : ℕ) (v : View) (s : Committed) → Shows old new p v → changes_in v ≡ [] → changes_in (view_at old p) ≡ [] → AreCovered old s → AreCovered new s
covered_without old new p v s shows empty before covered = gives_back old new p v s s shows empty (λ c. let none : claimed c (changes_in (view_at old p)) ≡ 0 = ap (claimed c) before in omega (arith, none)) covered

-- a live transaction changes one thing more, and what that claims is kept
pub covered_with : (old new : List View) (p : ℕ) (d : Effect) (s t : Committed) → Shows old new p (with_change d (view_at old p)) → changes_in (with_change d (view_at old p)) ≡ changes_in (view_at old p) ++ d ∷ []
    → KeepsMore s t (λ c. claimed_by c d) → AreCovered old s → AreCovered new t
covered_with old new p d s t shows after kept covered c =
    let changed : total c new + claimed c (changes_in (view_at old p)) ≡ total c old + claimed c (changes_in (with_change d (view_at old p))) = total_changed c old new p (with_change d (view_at old p)) shows in
    let more : claimed c (changes_in (with_change d (view_at old p))) ≡ claimed c (changes_in (view_at old p)) + claimed_by c d = ap (claimed c) after ∙ sum_by_push (claimed_by c) (changes_in (view_at old p)) d in
    let came : reserved t c ≡ reserved s c + claimed_by c d = kept c in
    let all : total c old ≡ reserved s c = covered c in
    omega (arith, changed, more, came, all)

-- all is as it was
pub covered_same : (old new : List View) (s t : Committed) → SameViews old new → KeepsSame s t → AreCovered old s → AreCovered new t
covered_same old new s t same kept covered c = total_same c old new same.count same.each ∙ covered c ∙ sym (kept c)

-- what no slot can claim
pub unclaimed : (views : List View) (s : Committed) → AreCovered views s → (c : Claim) → reserved s c ≡ 0 → (q : ℕ) → claimed c (changes_in (view_at views q)) ≡ 0
unclaimed views s covered c none q =
    let one : claimed c (changes_in (view_at views q)) ≤ total c views = one_of_total c views q in
    let all : total c views ≡ reserved s c = covered c in
    omega (arith, one, all, none)

-- members of a list of numbers
either : (a b : Bool) → b ≡ true → (a || b) ≡ true
either true b h = refl
either false b h = h

pub all_in : (P : ℕ → Type 0) (ns : List ℕ) → ((n : ℕ) → is_in n ns ≡ true → P n) → AllByRecursion P ns
all_in P [] h = tt
all_in P (n ∷ ns) h = (h n (ap (λ b. b || is_in n ns) (eq-eqb n n refl)), all_in P ns (λ m among. h m (either (eqb m n) (is_in m ns) among)))

abbrev times : ℕ → List ℕ → ℕ
times n ns = count_by (λ m. eqb m n) ns

times_cons : (n m : ℕ) (ns : List ℕ) → times n (m ∷ ns) ≡ cond (eqb m n) 1 0 + times n ns
times_cons n m ns = sum_by-cons (λ x. cond (eqb x n) 1 0) m ns

turned : (n m : ℕ) → eqb m n ≡ eqb n m
turned n m = elim (cases_Bool (eqb n m)) [
  | inl same ↦ let e : n ≡ m = eqb-true n m same in ap (eqb m) e ∙ eq-eqb m m refl ∙ sym same
  | inr differs ↦ ne_eqb m n (λ h. absurd (false≢true (sym differs ∙ ap (eqb n) h ∙ eq-eqb n n refl))) ∙ sym differs
]

-- a number is counted where it stands
counted_where : (n : ℕ) (ns : List ℕ) → times n ns ≡ 0 → is_in n ns ≡ false
counted_where n [] h = refl
counted_where n (m ∷ ns) h = by (eqb n m) refl (counted_where n ns) where
  by : (b : Bool) → eqb n m ≡ b → (times n ns ≡ 0 → is_in n ns ≡ false) → (eqb n m || is_in n ns) ≡ false
  by true is rest =
      let count : times n (m ∷ ns) ≡ 1 + times n ns = times_cons n m ns ∙ ap (λ b. cond b 1 0 + times n ns) (turned n m ∙ is) in
      absurd (omega (arith, count, h))
  by false is rest =
      let count : times n (m ∷ ns) ≡ 0 + times n ns = times_cons n m ns ∙ ap (λ b. cond b 1 0 + times n ns) (turned n m ∙ is) in
      ap (λ b. b || is_in n ns) is ∙ rest (omega (arith, count, h))

-- a new number is one of a directory or of another object
abbrev of_both : ℕ → List (ℕ × Bool) → ℕ
of_both n ms = claimed_in (New_directory n) ms [] + claimed_in (Number n) ms []

one_kind : (n m : ℕ) (b : Bool) (ns : List ℕ) (rest : List (ℕ × Bool)) → of_both n rest ≡ times n ns → of_both n ((m, b) ∷ rest) ≡ times n (m ∷ ns)
one_kind n m b ns rest is =
    let first : claimed_in (New_directory n) ((m, b) ∷ rest) [] ≡ cond (eqb m n && b) 1 0 + claimed_in (New_directory n) rest [] = sum_by-cons (λ (x : ℕ × Bool). cond (eqb x.0 n && x.1) 1 0) (m, b) rest in
    let second : claimed_in (Number n) ((m, b) ∷ rest) [] ≡ cond (eqb m n && not b) 1 0 + claimed_in (Number n) rest [] = sum_by-cons (λ (x : ℕ × Bool). cond (eqb x.0 n && not x.1) 1 0) (m, b) rest in
    let all : times n (m ∷ ns) ≡ cond (eqb m n) 1 0 + times n ns = times_cons n m ns in
    let one : cond (eqb m n && b) 1 0 + cond (eqb m n && not b) 1 0 ≡ cond (eqb m n) 1 0 = by (eqb m n) b in
    omega (arith, first, second, all, one, is)
  where
    by : (t b : Bool) → cond (t && b) 1 0 + cond (t && not b) 1 0 ≡ cond t 1 0
    by true true = refl
    by true false = refl
    by false true = refl
    by false false = refl

both_kinds : (n : ℕ) (ns : List ℕ) (bs : List Bool) → of_both n (with_kinds ns bs) ≡ times n ns
both_kinds n [] bs = refl
both_kinds n (m ∷ ns) [] = one_kind n m false ns (with_kinds ns []) (both_kinds n ns [])
both_kinds n (m ∷ ns) (b ∷ bs) = one_kind n m b ns (with_kinds ns bs) (both_kinds n ns bs)

pub stands_in : (n : ℕ) (d : Effect) → claimed_by (New_directory n) d ≡ 0 → claimed_by (Number n) d ≡ 0 → is_in n d.chosen ≡ false
stands_in n d h i = counted_where n d.chosen (
    let all : claimed_by (New_directory n) d + claimed_by (Number n) d ≡ times n d.chosen = both_kinds n d.chosen (flat_map kinds_in d.edits) in
    omega (arith, h, i, all))

-- new numbers are made by no transaction
in_neither : (n : ℕ) (ms ns : List ℕ) → is_in n ms ≡ false → is_in n ns ≡ false → is_in n (ms ++ ns) ≡ false
in_neither n [] ns a b = b
in_neither n (m ∷ ms) ns a b = by (eqb n m) a (in_neither n ms ns) where
  by : (t : Bool) → (t || is_in n ms) ≡ false → (is_in n ms ≡ false → is_in n ns ≡ false → is_in n (ms ++ ns) ≡ false) → (t || is_in n (ms ++ ns)) ≡ false
  by true h rest = absurd (false≢true (sym h))
  by false h rest = rest h b

unmade : (n : ℕ) (ds : List Effect) → claimed (New_directory n) ds ≡ 0 → claimed (Number n) ds ≡ 0 → is_in n (made_by ds) ≡ false
unmade n [] h i = refl
unmade n (d ∷ ds) h i =
    let first : claimed (New_directory n) (d ∷ ds) ≡ claimed_by (New_directory n) d + claimed (New_directory n) ds = sum_by-cons (claimed_by (New_directory n)) d ds in
    let second : claimed (Number n) (d ∷ ds) ≡ claimed_by (Number n) d + claimed (Number n) ds = sum_by-cons (claimed_by (Number n)) d ds in
    in_neither n d.chosen (made_by ds) (stands_in n d (omega (arith, first, h)) (omega (arith, second, i))) (unmade n ds (omega (arith, first, h)) (omega (arith, second, i)))

pub are_new : (views : List View) (s : Committed) (made : List Edit) (chosen : List ℕ) → AreCovered views s → AreUnused s made chosen → AreNew (record { slots = views; stable = s }) made chosen
are_new views s made chosen covered new = record {
  count = new.count;
  unmade = all_in (λ n. (q : ℕ) → is_in n (made_by (changes_in (view_at views q))) ≡ false) chosen (λ n among q. unmade n (changes_in (view_at views q)) (unclaimed views s covered (New_directory n) (new.unused (New_directory n) among) q) (unclaimed views s covered (Number n) (new.unused (Number n) among) q));
  different = new.different;
  nowhere = new.nowhere;
}
