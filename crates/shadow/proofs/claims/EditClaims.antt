-- What a call's edits claim is what a transaction keeps of their claims.
use Rattle.std.specs.Prelude.{⊤}
use Rattle.std.proofs.Common.{◌≡◌, ◌≢◌, ℕ, zero, suc, ◌+◌, ◌<◌, ◌≤◌, ◌==◌, ◌&&◌, ◌||◌, not, Bool, true, false, cond, count_by, sum_by, get_or, length, List, [], ◌∷◌, ◌++◌, append-nil, Option, Some, refl, sym, ap, ap₂, subst, ◌∙◌, arith, eq-eqb, eqb-true, ne_eqb, inl, inr, ◌⊎◌}
use Rattle.std.specs.List.{AllByRecursion, flat_map}
use Rattle.std.proofs.lemmas.Bool.{cases_eq, or_right}
use Rattle.std.proofs.lemmas.List.Sums.{sum_by-append, sum_by-cons}
use Rattle.model.specs.Changes.{Edit, Make_directory, Make_file, Make_fixed, Make_pipe, Open_inode, news}
use Rattle.model.specs.Moments.{is_in}
use Rattle.model.specs.Steps.{AllDifferent}
use Rattle.notes.specs.declared.change.Made.{Made as What}
use Rattle.notes.specs.declared.change.Made.TheVariants.{Directory as Dir_made, File as File_made, Pipe as Pipe_made, Fixed as Fixed_made}
use Rattle.shadow.specs.Claims.{Claim, Room, New_directory, Number, as_count, claim_in, claimed_in, is_directory_made, is_file_made, kinds_in, with_kinds}
use Rattle.notes.specs.Patches.{Patches, is_new, net_at, opening_at}
use Rattle.notes.specs.Steps.{CanEdit, IsFirst, IsLast, IsOne, TakesAll, TakesIn, made_after, new_in, opened_in, parents_in}
use Rattle.notes.proofs.Laws.{by_one, first_cases, last_cases}

-- the new numbers of an edit with their kinds
abbrev pub mine : List ℕ → Edit → List (ℕ × Bool)
mine chosen (Make_directory d x i) = (new_in chosen i, true) ∷ []
mine chosen (Make_file d x i) = (new_in chosen i, false) ∷ []
mine chosen (Make_fixed d x fixed i) = (new_in chosen i, false) ∷ []
mine chosen (Open_inode i inode mode pid f) = (new_in chosen i, false) ∷ []
mine chosen (Make_pipe i pid f g) = (new_in chosen i, false) ∷ (new_in chosen (i + 1), false) ∷ (new_in chosen (i + 2), false) ∷ []
mine chosen _ = []

-- a number that a transaction has not made
abbrev pub IsUnclaimed : Patches → ℕ → Type 0
IsUnclaimed p n = (claim_in p (New_directory n) ≡ 0) × (claim_in p (Number n) ≡ 0)

turned : (n m : ℕ) → (m == n) ≡ (n == m)
turned n m = elim (cases_eq n m) [
  | inl same ↦ eq-eqb m n (sym same) ∙ sym (eq-eqb n m same)
  | inr away ↦ ne_eqb m n (λ e. away (sym e)) ∙ sym (ne_eqb n m away)
]

one_directory : (directory : Bool) (n m : ℕ) → count_by (λ (z : ℕ × Bool). (z.0 == n) && z.1) ((m, directory) ∷ []) ≡ as_count ((n == m) && directory)
one_directory directory n m = ap (λ b. 0 + cond (b && directory) 1 0) (turned n m) ∙ omega arith

one_other : (directory : Bool) (n m : ℕ) → count_by (λ (z : ℕ × Bool). (z.0 == n) && not z.1) ((m, directory) ∷ []) ≡ as_count ((n == m) && not directory)
one_other directory n m = ap (λ b. 0 + cond (b && not directory) 1 0) (turned n m) ∙ omega arith

-- a new directory's claims
abbrev DirectoryClaim : List ℕ → Edit → Type 0
DirectoryClaim chosen e = (n : ℕ) (made : Option What) → AllByRecursion (λ (z : ℕ × Bool). z.0 ≡ n → as_count (is_directory_made made) ≡ 0) (mine chosen e)
    → as_count (is_directory_made (made_after chosen e n made)) ≡ as_count (is_directory_made made) + count_by (λ (z : ℕ × Bool). (z.0 == n) && z.1) (mine chosen e)

made_directory : (what : What) (m n : ℕ) (made : Option What) → (m ≡ n → as_count (is_directory_made made) ≡ 0)
    → as_count (is_directory_made (cond (n == m) (Some what) made)) ≡ as_count (is_directory_made made) + count_by (λ (z : ℕ × Bool). (z.0 == n) && z.1) ((m, is_directory_made (Some what)) ∷ [])
made_directory what m n made unused =
    by_test (n == m) refl ∙ ap (λ c. as_count (is_directory_made made) + c) (sym (one_directory (is_directory_made (Some what)) n m))
  where
    by_test : (b : Bool) → (n == m) ≡ b → as_count (is_directory_made (cond b (Some what) made)) ≡ as_count (is_directory_made made) + as_count (b && is_directory_made (Some what))
    by_test true h = (let none : as_count (is_directory_made made) ≡ 0 = unused (sym (eqb-true n m h)) in omega arith)
    by_test false h = omega arith

pipe_directory : (m r w n : ℕ) (made : Option What) → (m ≡ n → as_count (is_directory_made made) ≡ 0)
    → as_count (is_directory_made (cond (n == m) (Some Pipe_made) made)) ≡ as_count (is_directory_made made) + count_by (λ (z : ℕ × Bool). (z.0 == n) && z.1) ((m, false) ∷ (r, false) ∷ (w, false) ∷ [])
pipe_directory m r w n made unused = by_test (n == m) refl ∙ sym (none_counted (as_count (is_directory_made made)))
  where
    never : (b : Bool) → as_count (b && false) ≡ 0
    never true = refl
    never false = refl

    no_one : (x : ℕ) (ms : List (ℕ × Bool)) → count_by (λ (z : ℕ × Bool). (z.0 == n) && z.1) ((x, false) ∷ ms) ≡ count_by (λ (z : ℕ × Bool). (z.0 == n) && z.1) ms
    no_one x ms =
        let more : count_by (λ (z : ℕ × Bool). (z.0 == n) && z.1) ((x, false) ∷ ms) ≡ as_count ((x == n) && false) + count_by (λ (z : ℕ × Bool). (z.0 == n) && z.1) ms = sum_by-cons (λ (z : ℕ × Bool). as_count ((z.0 == n) && z.1)) (x, false) ms in
        let none : as_count ((x == n) && false) ≡ 0 = never (x == n) in omega arith

    none_counted : (a : ℕ) → a + count_by (λ (z : ℕ × Bool). (z.0 == n) && z.1) ((m, false) ∷ (r, false) ∷ (w, false) ∷ []) ≡ a
    none_counted a =
        let none : count_by (λ (z : ℕ × Bool). (z.0 == n) && z.1) ((m, false) ∷ (r, false) ∷ (w, false) ∷ []) ≡ 0 =
        no_one m ((r, false) ∷ (w, false) ∷ []) ∙ no_one r ((w, false) ∷ []) ∙ no_one w [] in omega arith

    by_test : (b : Bool) → (n == m) ≡ b → as_count (is_directory_made (cond b (Some Pipe_made) made)) ≡ as_count (is_directory_made made)
    by_test true h = sym (unused (sym (eqb-true n m h)))
    by_test false h = refl

no_directory : (m n : ℕ) (made : Option What) → as_count (is_directory_made made) ≡ as_count (is_directory_made made) + count_by (λ (z : ℕ × Bool). (z.0 == n) && z.1) ((m, false) ∷ [])
no_directory m n made = (let none : count_by (λ (z : ℕ × Bool). (z.0 == n) && z.1) ((m, false) ∷ []) ≡ 0 = one_directory false n m ∙ by_test (n == m) in omega arith)
  where
    by_test : (b : Bool) → as_count (b && false) ≡ 0
    by_test true = refl
    by_test false = refl

directory_claim : (chosen : List ℕ) (e : Edit) → IsOne e → DirectoryClaim chosen e
directory_claim chosen e one = by_one (DirectoryClaim chosen)
    (λ d x i n made unused. made_directory Dir_made (new_in chosen i) n made unused.0)
    (λ d x i n made unused. made_directory File_made (new_in chosen i) n made unused.0)
    (λ d x fixed i n made unused. made_directory Fixed_made (new_in chosen i) n made unused.0)
    (λ d x m n made unused. omega arith)
    (λ d x m n made unused. omega arith)
    (λ d x m n made unused. omega arith)
    (λ d x e y m replaced n made unused. omega arith)
    (λ m place bytes before n made unused. omega arith)
    (λ m before after n made unused. omega arith)
    (λ i inode mode pid s n made unused. no_directory (new_in chosen i) n made)
    (λ d place n made unused. omega arith)
    (λ pid s pipes n made unused. omega arith)
    (λ pid s d pipes n made unused. omega arith)
    (λ p count n made unused. omega arith)
    (λ p bytes n made unused. omega arith)
    (λ i pid f g n made unused. pipe_directory (new_in chosen i) (new_in chosen (i + 1)) (new_in chosen (i + 2)) n made unused.0)
    (λ m rights n made unused. omega arith)
    (λ d x m e y q n made unused. omega arith)
    (λ m place count n made unused. omega arith)
    e one

-- another new number's claims
abbrev pub other_claims : Option What → Bool → ℕ
other_claims made fresh = as_count (is_file_made made) + as_count fresh

-- three new numbers of a pipe: the inode, and two descriptions, which differ; no number is both
abbrev AreThree : List ℕ → Edit → Type 0
AreThree chosen (Make_pipe i pid f g) = (new_in chosen i ≢ new_in chosen (i + 1)) × (new_in chosen i ≢ new_in chosen (i + 2)) × (new_in chosen (i + 1) ≢ new_in chosen (i + 2))
AreThree chosen _ = ⊤

abbrev OtherClaim : List ℕ → Edit → Type 0
OtherClaim chosen e = AreThree chosen e → (n : ℕ) (made : Option What) (fresh : Bool) → AllByRecursion (λ (z : ℕ × Bool). z.0 ≡ n → other_claims made fresh ≡ 0) (mine chosen e)
    → other_claims (made_after chosen e n made) (is_in n (opened_in chosen e) || fresh) ≡ other_claims made fresh + count_by (λ (z : ℕ × Bool). (z.0 == n) && not z.1) (mine chosen e)

made_other : (what : What) (m n : ℕ) (made : Option What) (fresh : Bool) → (m ≡ n → other_claims made fresh ≡ 0)
    → other_claims (cond (n == m) (Some what) made) fresh ≡ other_claims made fresh + count_by (λ (z : ℕ × Bool). (z.0 == n) && not z.1) ((m, is_directory_made (Some what)) ∷ [])
made_other what m n made fresh unused =
    by_test what (n == m) refl ∙ ap (λ c. other_claims made fresh + c) (sym (one_other (is_directory_made (Some what)) n m))
  where
    by_test : (what : What) (b : Bool) → (n == m) ≡ b → other_claims (cond b (Some what) made) fresh ≡ other_claims made fresh + as_count (b && not (is_directory_made (Some what)))
    by_test Dir_made true h = (let none : as_count (is_file_made made) + as_count fresh ≡ 0 = unused (sym (eqb-true n m h)) in omega arith)
    by_test File_made true h = (let none : as_count (is_file_made made) + as_count fresh ≡ 0 = unused (sym (eqb-true n m h)) in omega arith)
    by_test Pipe_made true h = (let none : as_count (is_file_made made) + as_count fresh ≡ 0 = unused (sym (eqb-true n m h)) in omega arith)
    by_test Fixed_made true h = (let none : as_count (is_file_made made) + as_count fresh ≡ 0 = unused (sym (eqb-true n m h)) in omega arith)
    by_test what false h = omega arith

opened_other : (m n : ℕ) (made : Option What) (fresh : Bool) → (m ≡ n → other_claims made fresh ≡ 0)
    → other_claims made (((n == m) || false) || fresh) ≡ other_claims made fresh + count_by (λ (z : ℕ × Bool). (z.0 == n) && not z.1) ((m, false) ∷ [])
opened_other m n made fresh unused = by_test (n == m) refl ∙ ap (λ c. other_claims made fresh + c) (sym (one_other false n m))
  where
    by_test : (b : Bool) → (n == m) ≡ b → other_claims made ((b || false) || fresh) ≡ other_claims made fresh + as_count (b && not false)
    by_test true h = (let none : as_count (is_file_made made) + as_count fresh ≡ 0 = unused (sym (eqb-true n m h)) in omega arith)
    by_test false h = omega arith

-- a number of a pipe: it is one of three, or none
three_counted : (m r w n : ℕ) → m ≢ r → m ≢ w → r ≢ w → count_by (λ (z : ℕ × Bool). (z.0 == n) && not z.1) ((m, false) ∷ (r, false) ∷ (w, false) ∷ []) ≡ as_count (n == m) + as_count ((n == r) || (n == w))
three_counted m r w n a b c = one_of m ((r, false) ∷ (w, false) ∷ []) (one_of r ((w, false) ∷ []) (one_of w [] refl)) ∙ by_tests (n == m) (n == r) (n == w) refl refl refl
  where
    one_of : (x : ℕ) (ms : List (ℕ × Bool)) {rest : ℕ} → count_by (λ (z : ℕ × Bool). (z.0 == n) && not z.1) ms ≡ rest → count_by (λ (z : ℕ × Bool). (z.0 == n) && not z.1) ((x, false) ∷ ms) ≡ as_count (n == x) + rest
    one_of x ms is = sum_by-cons (λ (z : ℕ × Bool). cond ((z.0 == n) && not z.1) 1 0) (x, false) ms ∙ ap₂ (λ a b. a + b) (and_true (x == n) ∙ ap as_count (turned n x)) is
      where
        and_true : (b : Bool) → as_count (b && true) ≡ as_count b
        and_true true = refl
        and_true false = refl

    both : (x y : ℕ) → x ≢ y → (n == x) ≡ true → (n == y) ≡ true → ⊥
    both x y away is also = away (sym (eqb-true n x is) ∙ eqb-true n y also)

    by_tests : (x y z : Bool) → (n == m) ≡ x → (n == r) ≡ y → (n == w) ≡ z → as_count x + (as_count y + (as_count z + 0)) ≡ as_count x + as_count (y || z)
    by_tests x true true hx hy hz = absurd (both r w c hy hz)
    by_tests x true false hx hy hz = omega arith
    by_tests x false z hx hy hz = omega arith

pipe_other : (m r w n : ℕ) (made : Option What) (fresh : Bool) → m ≢ r → m ≢ w → r ≢ w → (m ≡ n → other_claims made fresh ≡ 0) → (r ≡ n → other_claims made fresh ≡ 0) → (w ≡ n → other_claims made fresh ≡ 0)
    → other_claims (cond (n == m) (Some Pipe_made) made) (is_in n (r ∷ w ∷ []) || fresh) ≡ other_claims made fresh + count_by (λ (z : ℕ × Bool). (z.0 == n) && not z.1) ((m, false) ∷ (r, false) ∷ (w, false) ∷ [])
pipe_other m r w n made fresh a b c first second third =
    by_tests (n == m) (n == r) (n == w) refl refl refl ∙ ap (λ k. other_claims made fresh + k) (sym (three_counted m r w n a b c))
  where
    both : (x y : ℕ) → x ≢ y → (n == x) ≡ true → (n == y) ≡ true → ⊥
    both x y away is also = away (sym (eqb-true n x is) ∙ eqb-true n y also)

    by_tests : (x y z : Bool) → (n == m) ≡ x → (n == r) ≡ y → (n == w) ≡ z → other_claims (cond x (Some Pipe_made) made) ((y || (z || false)) || fresh) ≡ other_claims made fresh + (as_count x + as_count (y || z))
    by_tests true true z hx hy hz = absurd (both m r a hx hy)
    by_tests true false true hx hy hz = absurd (both m w b hx hz)
    by_tests true false false hx hy hz = (let none : as_count (is_file_made made) + as_count fresh ≡ 0 = first (sym (eqb-true n m hx)) in omega arith)
    by_tests false true z hx hy hz = (let none : as_count (is_file_made made) + as_count fresh ≡ 0 = second (sym (eqb-true n r hy)) in omega arith)
    by_tests false false true hx hy hz = (let none : as_count (is_file_made made) + as_count fresh ≡ 0 = third (sym (eqb-true n w hz)) in omega arith)
    by_tests false false false hx hy hz = omega arith

other_claim : (chosen : List ℕ) (e : Edit) → IsOne e → OtherClaim chosen e
other_claim chosen e one = by_one (OtherClaim chosen)
    (λ d x i three n made fresh unused. made_other Dir_made (new_in chosen i) n made fresh unused.0)
    (λ d x i three n made fresh unused. made_other File_made (new_in chosen i) n made fresh unused.0)
    (λ d x fixed i three n made fresh unused. made_other Fixed_made (new_in chosen i) n made fresh unused.0)
    (λ d x m three n made fresh unused. omega arith)
    (λ d x m three n made fresh unused. omega arith)
    (λ d x m three n made fresh unused. omega arith)
    (λ d x e y m replaced three n made fresh unused. omega arith)
    (λ m place bytes before three n made fresh unused. omega arith)
    (λ m before after three n made fresh unused. omega arith)
    (λ i inode mode pid s three n made fresh unused. opened_other (new_in chosen i) n made fresh unused.0)
    (λ d place three n made fresh unused. omega arith)
    (λ pid s pipes three n made fresh unused. omega arith)
    (λ pid s d pipes three n made fresh unused. omega arith)
    (λ p count three n made fresh unused. omega arith)
    (λ p bytes three n made fresh unused. omega arith)
    (λ i pid f g three n made fresh unused. pipe_other (new_in chosen i) (new_in chosen (i + 1)) (new_in chosen (i + 2)) n made fresh three.0 three.1 three.2 unused.0 unused.1.0 unused.1.1.0)
    (λ m rights three n made fresh unused. omega arith)
    (λ d x m e y q three n made fresh unused. omega arith)
    (λ m place count three n made fresh unused. omega arith)
    e one

each : {A : Type 0} {P Q : A → Type 0} (xs : List A) → ((x : A) → P x → Q x) → AllByRecursion P xs → AllByRecursion Q xs
each [] f h = tt
each (x ∷ xs) f h = (f x h.0, each xs f h.1)

-- one edit more
pub claim_step : (chosen : List ℕ) (e : Edit) → IsOne e → AreThree chosen e → (p q : Patches) → TakesIn chosen e p q → AllByRecursion (λ (z : ℕ × Bool). IsUnclaimed p z.0) (mine chosen e)
    → (c : Claim) → claim_in q c ≡ claim_in p c + claimed_in c (mine chosen e) (parents_in e)
claim_step chosen e one three p q t unused (Room d) = t.promised d
claim_step chosen e one three p q t unused (New_directory n) =
    ap (λ made. as_count (is_directory_made made)) (t.made n)
    ∙ directory_claim chosen e one n (net_at p.inodes n).made (each (mine chosen e) (λ z free same. subst (λ m. as_count (is_directory_made (net_at p.inodes m).made) ≡ 0) same free.0) unused)
claim_step chosen e one three p q t unused (Number n) =
    ap₂ other_claims (t.made n) (t.news n)
    ∙ other_claim chosen e one three n (net_at p.inodes n).made (is_new (opening_at p.openings n)) (each (mine chosen e) (λ z free same. subst (λ m. other_claims (net_at p.inodes m).made (is_new (opening_at p.openings m)) ≡ 0) same free.1) unused)

-- numbers of a list
in_list : (ns : List ℕ) (i : ℕ) → i < length ns → is_in (get_or ns i 0) ns ≡ true
in_list [] i low = absurd (let none : i < 0 = low in omega arith)
in_list (n ∷ ns) zero low = ap (λ b. b || is_in n ns) (eq-eqb n n refl)
in_list (n ∷ ns) (suc i) low = or_right (get_or ns i 0 == n) (is_in (get_or ns i 0) ns) (in_list ns i (let l : suc i < suc (length ns) = low in omega arith))

all_at : (P : ℕ → Type 0) (ns : List ℕ) (i : ℕ) → i < length ns → AllByRecursion P ns → P (get_or ns i 0)
all_at P [] i low h = absurd (let none : i < 0 = low in omega arith)
all_at P (n ∷ ns) zero low h = h.0
all_at P (n ∷ ns) (suc i) low h = all_at P ns i (let l : suc i < suc (length ns) = low in omega arith) h.1

-- numbers at different places differ
pub apart_at : (ns : List ℕ) (i j : ℕ) → i < j → j < length ns → AllDifferent ns → get_or ns i 0 ≢ get_or ns j 0
apart_at [] i j low long different = absurd (let none : j < 0 = long in omega arith)
apart_at (n ∷ ns) i zero low long different = absurd (let none : i < 0 = low in omega arith)
apart_at (n ∷ ns) zero (suc j) low long different = all_at (λ m. n ≢ m) ns j (let l : suc j < suc (length ns) = long in omega arith) different.0
apart_at (n ∷ ns) (suc i) (suc j) low long different = apart_at ns i j (let l : suc i < suc j = low in omega arith) (let l : suc j < suc (length ns) = long in omega arith) different.1

three_of : (chosen : List ℕ) (e : Edit) → IsOne e → news e ≤ length chosen → AllDifferent chosen → AreThree chosen e
three_of chosen (Make_pipe i pid f g) (inl first) long different =
    subst (λ j. AreThree chosen (Make_pipe j pid f g)) (sym first.0)
    (apart_at chosen 0 1 (omega arith) (let l : 3 ≤ length chosen = long in omega arith) different, apart_at chosen 0 2 (omega arith) (let l : 3 ≤ length chosen = long in omega arith) different, apart_at chosen 1 2 (omega arith) (let l : 3 ≤ length chosen = long in omega arith) different)
three_of chosen (Make_pipe i pid f g) (inr last) long different = absurd last.1
three_of chosen _ one long different = tt

-- the new numbers of the edits of a call, with their kinds
abbrev pub all_mine : List ℕ → List Edit → List (ℕ × Bool)
all_mine chosen [] = []
all_mine chosen (e ∷ es) = mine chosen e ++ all_mine chosen es

pub no_more : (ns : List ℕ) → length ns ≡ 0 → ns ≡ []
no_more [] e = refl
no_more (n ∷ ns) e = absurd (let none : suc (length ns) ≡ 0 = e in omega arith)

pub claimed_append : (c : Claim) (xs ys : List (ℕ × Bool)) (ps qs : List ℕ) → claimed_in c (xs ++ ys) (ps ++ qs) ≡ claimed_in c xs ps + claimed_in c ys qs
claimed_append (Room r) xs ys ps qs = sum_by-append (λ v. cond (v == r) 1 0) ps qs
claimed_append (New_directory n) xs ys ps qs = sum_by-append (λ (z : ℕ × Bool). cond ((z.0 == n) && z.1) 1 0) xs ys
claimed_append (Number n) xs ys ps qs = sum_by-append (λ (z : ℕ × Bool). cond ((z.0 == n) && not z.1) 1 0) xs ys

-- the claims of a call's edits, one after the other, where its numbers are not claimed
abbrev pub AreFree : Patches → List ℕ → Type 0
AreFree p chosen = (n : ℕ) → is_in n chosen ≡ true → IsUnclaimed p n

abbrev IsMine : List ℕ → Edit → Type 0
IsMine chosen e = AllByRecursion (λ (z : ℕ × Bool). is_in z.0 chosen ≡ true) (mine chosen e)

-- what holds of the new number of the first edit, and of that of the last
first_each : (chosen : List ℕ) (P : ℕ → Type 0) (e : Edit) → IsFirst e → ((j : ℕ) → j < news e → P (get_or chosen j 0)) → AllByRecursion (λ (z : ℕ × Bool). P z.0) (mine chosen e)
first_each chosen P e first = first_cases (λ e. ((j : ℕ) → j < news e → P (get_or chosen j 0)) → AllByRecursion (λ (z : ℕ × Bool). P z.0) (mine chosen e))
    (λ d x i is h. (subst (λ j. P (get_or chosen j 0)) (sym is) (h 0 (omega arith)), tt))
    (λ d x i is h. (subst (λ j. P (get_or chosen j 0)) (sym is) (h 0 (omega arith)), tt))
    (λ d x fixed i is h. (subst (λ j. P (get_or chosen j 0)) (sym is) (h 0 (omega arith)), tt))
    (λ d x n h. tt) (λ d x n h. tt) (λ d x n h. tt) (λ d x e y n replaced h. tt) (λ n place bytes before h. tt) (λ n before after h. tt)
    (λ p count h. tt) (λ p bytes h. tt)
    (λ i pid f g is h. (subst (λ j. P (get_or chosen j 0)) (sym is) (h 0 (omega arith)), (subst (λ j. P (get_or chosen (j + 1) 0)) (sym is) (h 1 (omega arith)), (subst (λ j. P (get_or chosen (j + 2) 0)) (sym is) (h 2 (omega arith)), tt))))
    (λ n rights h. tt)
    (λ d x n e y m h. tt) (λ n place count h. tt)
    e first

last_each : (chosen : List ℕ) (P : ℕ → Type 0) (m : ℕ) (e : Edit) → IsLast m e → (news e ≡ 1 → P (get_or chosen m 0)) → AllByRecursion (λ (z : ℕ × Bool). P z.0) (mine chosen e)
last_each chosen P m e last = last_cases m (λ e. (news e ≡ 1 → P (get_or chosen m 0)) → AllByRecursion (λ (z : ℕ × Bool). P z.0) (mine chosen e))
    (λ i inode mode pid f is h. (subst (λ j. P (get_or chosen j 0)) (sym is) (h refl), tt))
    (λ d place h. tt) (λ pid f pipes h. tt) (λ pid f d pipes h. tt) e last

free_mine : (p : Patches) (chosen : List ℕ) (e : Edit) → AreFree p chosen → IsMine chosen e → AllByRecursion (λ (z : ℕ × Bool). IsUnclaimed p z.0) (mine chosen e)
free_mine p chosen e free listed = each (mine chosen e) (λ z in_it. free z.0 in_it) listed

first_mine : (chosen : List ℕ) (e : Edit) → IsFirst e → news e ≤ length chosen → IsMine chosen e
first_mine chosen e first long = first_each chosen (λ n. is_in n chosen ≡ true) e first (λ j low. in_list chosen j (omega (arith, low, long)))

last_mine : (chosen : List ℕ) (m : ℕ) (e : Edit) → IsLast m e → m + news e ≤ length chosen → IsMine chosen e
last_mine chosen m e last long = last_each chosen (λ n. is_in n chosen ≡ true) m e last (λ one. in_list chosen m (omega (arith, one, long)))

-- the second edit of a call makes other numbers than the first
abbrev MakesOther : List ℕ → Edit → ℕ → Type 0
MakesOther chosen e n = AllByRecursion (λ (z : ℕ × Bool). z.0 ≢ n) (mine chosen e)

uncounted : (c : ℕ) (test : ℕ × Bool → Bool) (ms : List (ℕ × Bool)) → ((z : ℕ × Bool) → z.0 ≢ c → test z ≡ false) → AllByRecursion (λ (z : ℕ × Bool). z.0 ≢ c) ms → count_by test ms ≡ 0
uncounted c test [] f h = refl
uncounted c test (z ∷ ms) f h =
    let first : as_count (test z) ≡ 0 = ap as_count (f z h.0) in
    let rest : count_by test ms ≡ 0 = uncounted c test ms f h.1 in
    let both : count_by test (z ∷ ms) ≡ as_count (test z) + count_by test ms = sum_by-cons (λ z. cond (test z) 1 0) z ms in omega arith

still_free : (chosen : List ℕ) (e : Edit) → IsOne e → AreThree chosen e → (p q : Patches) → TakesIn chosen e p q → AllByRecursion (λ (z : ℕ × Bool). IsUnclaimed p z.0) (mine chosen e) → (n : ℕ) → IsUnclaimed p n → MakesOther chosen e n → IsUnclaimed q n
still_free chosen e one three p q t unused n free other = (
  claim_step chosen e one three p q t unused (New_directory n)
      ∙ ap₂ (λ a b. a + b) free.0 (uncounted n (λ (z : ℕ × Bool). (z.0 == n) && z.1) (mine chosen e) (λ z away. ap (λ b. b && z.1) (ne_eqb z.0 n away)) other),
  claim_step chosen e one three p q t unused (Number n)
      ∙ ap₂ (λ a b. a + b) free.1 (uncounted n (λ (z : ℕ × Bool). (z.0 == n) && not z.1) (mine chosen e) (λ z away. ap (λ b. b && not z.1) (ne_eqb z.0 n away)) other),
)

-- of two edits the second makes the number behind that of the first
second_other : (chosen : List ℕ) (e : Edit) → IsFirst e → news e < length chosen → AllDifferent chosen → MakesOther chosen e (get_or chosen (news e) 0)
second_other chosen e first long different = first_each chosen (λ m. m ≢ get_or chosen (news e) 0) e first (λ j low same. apart_at chosen j (news e) low long different same)

-- new numbers with their kinds
pub kinds_last : (m : ℕ) (cs chosen : List ℕ) → get_or chosen m 0 ≡ get_or cs 0 0 → (e : Edit) → IsLast m e → length cs ≡ news e → with_kinds cs (kinds_in e ++ []) ≡ mine chosen e ++ []
kinds_last m cs chosen same e last = last_cases m (λ e. length cs ≡ news e → with_kinds cs (kinds_in e ++ []) ≡ mine chosen e ++ [])
    (λ i inode mode pid f is long. by_list cs same i is long)
    (λ d place long. ap (λ ns. with_kinds ns []) (no_more cs long))
    (λ pid f pipes long. ap (λ ns. with_kinds ns []) (no_more cs long))
    (λ pid f d pipes long. ap (λ ns. with_kinds ns []) (no_more cs long))
    e last
  where
    by_list : (cs : List ℕ) → get_or chosen m 0 ≡ get_or cs 0 0 → (i : ℕ) → i ≡ m → length cs ≡ 1 → with_kinds cs (false ∷ []) ≡ (get_or chosen i 0, false) ∷ []
    by_list [] same i is long = absurd (omega (arith, long))
    by_list (c ∷ []) same i is long = ap (λ n. (n, false) ∷ []) (sym (ap (λ j. get_or chosen j 0) is ∙ same))
    by_list (c ∷ d ∷ cs) same i is long = absurd (let some : suc (suc (length cs)) ≡ 1 = long in omega arith)

one_kind : (directory : Bool) (chosen : List ℕ) (i : ℕ) → i ≡ 0 → length chosen ≡ 1 → with_kinds chosen (directory ∷ []) ≡ (get_or chosen i 0, directory) ∷ []
one_kind directory [] i is long = absurd (omega (arith, long))
one_kind directory (c ∷ []) i is long = ap (λ j. (get_or (c ∷ []) j 0, directory) ∷ []) (sym is)
one_kind directory (c ∷ d ∷ cs) i is long = absurd (let some : suc (suc (length cs)) ≡ 1 = long in omega arith)

three_kinds : (chosen : List ℕ) (i : ℕ) → i ≡ 0 → length chosen ≡ 3 → with_kinds chosen (false ∷ false ∷ false ∷ []) ≡ (get_or chosen i 0, false) ∷ (get_or chosen (i + 1) 0, false) ∷ (get_or chosen (i + 2) 0, false) ∷ []
three_kinds [] i is long = absurd (omega (arith, long))
three_kinds (a ∷ []) i is long = absurd (let some : suc 0 ≡ 3 = long in omega arith)
three_kinds (a ∷ b ∷ []) i is long = absurd (let some : suc (suc 0) ≡ 3 = long in omega arith)
three_kinds (a ∷ b ∷ c ∷ []) i is long = ap (λ j. (get_or (a ∷ b ∷ c ∷ []) j 0, false) ∷ (get_or (a ∷ b ∷ c ∷ []) (j + 1) 0, false) ∷ (get_or (a ∷ b ∷ c ∷ []) (j + 2) 0, false) ∷ []) (sym is)
three_kinds (a ∷ b ∷ c ∷ d ∷ cs) i is long = absurd (let some : suc (suc (suc (suc (length cs)))) ≡ 3 = long in omega arith)

pub kinds_first : (chosen : List ℕ) (e : Edit) → IsFirst e → length chosen ≡ news e → with_kinds chosen (kinds_in e ++ []) ≡ mine chosen e ++ []
kinds_first chosen e first = first_cases (λ e. length chosen ≡ news e → with_kinds chosen (kinds_in e ++ []) ≡ mine chosen e ++ [])
    (λ d x i is long. one_kind true chosen i is long)
    (λ d x i is long. one_kind false chosen i is long)
    (λ d x fixed i is long. one_kind false chosen i is long)
    (λ d x n long. ap (λ ns. with_kinds ns []) (no_more chosen long))
    (λ d x n long. ap (λ ns. with_kinds ns []) (no_more chosen long))
    (λ d x n long. ap (λ ns. with_kinds ns []) (no_more chosen long))
    (λ d x e y n replaced long. ap (λ ns. with_kinds ns []) (no_more chosen long))
    (λ n place bytes before long. ap (λ ns. with_kinds ns []) (no_more chosen long))
    (λ n before after long. ap (λ ns. with_kinds ns []) (no_more chosen long))
    (λ p count long. ap (λ ns. with_kinds ns []) (no_more chosen long))
    (λ p bytes long. ap (λ ns. with_kinds ns []) (no_more chosen long))
    (λ i pid f g is long. three_kinds chosen i is long)
    (λ n rights long. ap (λ ns. with_kinds ns []) (no_more chosen long))
    (λ d x n e y m long. ap (λ ns. with_kinds ns []) (no_more chosen long))
    (λ n place count long. ap (λ ns. with_kinds ns []) (no_more chosen long))
    e first

two_kinds : (directory : Bool) (chosen : List ℕ) (i : ℕ) → i ≡ 0 → (f : Edit) → IsLast 1 f → length chosen ≡ 1 + news f → with_kinds chosen (directory ∷ (kinds_in f ++ [])) ≡ (get_or chosen i 0, directory) ∷ (mine chosen f ++ [])
two_kinds directory [] i is f last long = absurd (let none : 0 ≡ 1 + news f = long in omega arith)
two_kinds directory (c ∷ cs) i is f last long =
    ap₂ (λ j ms. (get_or (c ∷ cs) j 0, directory) ∷ ms) (sym is)
    (kinds_last 1 cs (c ∷ cs) refl f last (let some : suc (length cs) ≡ 1 + news f = long in omega arith))

pipe_kinds : (chosen : List ℕ) (i : ℕ) → i ≡ 0 → (f : Edit) → IsLast 3 f → length chosen ≡ 3 + news f
    → with_kinds chosen (false ∷ false ∷ false ∷ (kinds_in f ++ [])) ≡ (get_or chosen i 0, false) ∷ (get_or chosen (i + 1) 0, false) ∷ (get_or chosen (i + 2) 0, false) ∷ (mine chosen f ++ [])
pipe_kinds [] i is f last long = absurd (let none : 0 ≡ 3 + news f = long in omega arith)
pipe_kinds (a ∷ []) i is f last long = absurd (let none : 1 ≡ 3 + news f = long in omega arith)
pipe_kinds (a ∷ b ∷ []) i is f last long = absurd (let none : 2 ≡ 3 + news f = long in omega arith)
pipe_kinds (a ∷ b ∷ c ∷ cs) i is f last long =
    ap₂ (λ j ms. (get_or (a ∷ b ∷ c ∷ cs) j 0, false) ∷ (get_or (a ∷ b ∷ c ∷ cs) (j + 1) 0, false) ∷ (get_or (a ∷ b ∷ c ∷ cs) (j + 2) 0, false) ∷ ms) (sym is)
    (kinds_last 3 cs (a ∷ b ∷ c ∷ cs) refl f last (let some : suc (suc (suc (length cs))) ≡ 3 + news f = long in omega arith))

pub kinds_two : (chosen : List ℕ) (e f : Edit) → IsFirst e → IsLast (news e) f → length chosen ≡ news e + news f → with_kinds chosen (kinds_in e ++ (kinds_in f ++ [])) ≡ mine chosen e ++ (mine chosen f ++ [])
kinds_two chosen e f first = first_cases (λ e. IsLast (news e) f → length chosen ≡ news e + news f → with_kinds chosen (kinds_in e ++ (kinds_in f ++ [])) ≡ mine chosen e ++ (mine chosen f ++ []))
    (λ d x i is last long. two_kinds true chosen i is f last long)
    (λ d x i is last long. two_kinds false chosen i is f last long)
    (λ d x fixed i is last long. two_kinds false chosen i is f last long)
    (λ d x n last long. kinds_last 0 chosen chosen refl f last (long ∙ omega arith))
    (λ d x n last long. kinds_last 0 chosen chosen refl f last (long ∙ omega arith))
    (λ d x n last long. kinds_last 0 chosen chosen refl f last (long ∙ omega arith))
    (λ d x e y n replaced last long. kinds_last 0 chosen chosen refl f last (long ∙ omega arith))
    (λ n place bytes before last long. kinds_last 0 chosen chosen refl f last (long ∙ omega arith))
    (λ n before after last long. kinds_last 0 chosen chosen refl f last (long ∙ omega arith))
    (λ p count last long. kinds_last 0 chosen chosen refl f last (long ∙ omega arith))
    (λ p bytes last long. kinds_last 0 chosen chosen refl f last (long ∙ omega arith))
    (λ i pid s g is last long. pipe_kinds chosen i is f last long)
    (λ n rights last long. kinds_last 0 chosen chosen refl f last (long ∙ omega arith))
    (λ d x n e y m last long. kinds_last 0 chosen chosen refl f last (long ∙ omega arith))
    (λ n place count last long. kinds_last 0 chosen chosen refl f last (long ∙ omega arith))
    e first

pub none_claimed : (c : Claim) → claimed_in c [] [] ≡ 0
none_claimed (Room r) = refl
none_claimed (New_directory n) = refl
none_claimed (Number n) = refl

-- each edit of a call is one that may come
pub all_one : (edits : List Edit) → CanEdit edits → AllByRecursion IsOne edits
all_one [] can = tt
all_one (e ∷ []) (inl first) = (inl first, tt)
all_one (e ∷ []) (inr last) = (inr (0, last), tt)
all_one (e ∷ f ∷ []) can = (inl can.0, (inr (news e, can.2), tt))
all_one (e ∷ f ∷ g ∷ es) can = absurd can

last_three : (chosen : List ℕ) (m : ℕ) (e : Edit) → IsLast m e → AreThree chosen e
last_three chosen m (Make_pipe i pid f g) last = absurd last
last_three chosen m _ last = tt

-- all edits of a call
pub claims_more : (chosen : List ℕ) (edits : List Edit) → CanEdit edits → length chosen ≡ sum_by news edits → AllDifferent chosen → (p q : Patches) → AreFree p chosen → TakesAll chosen edits p q
    → (c : Claim) → claim_in q c ≡ claim_in p c + claimed_in c (with_kinds chosen (flat_map kinds_in edits)) (flat_map parents_in edits)
claims_more chosen [] can long different p q free t c =
    ap (λ r. claim_in r c) (sym t) ∙ omega (arith, ap (λ ns. claimed_in c (with_kinds ns []) []) (no_more chosen long) ∙ none_claimed c)
claims_more chosen (e ∷ []) can long different p q free t c =
    ap (λ r. claim_in r c) (sym t.2) ∙ claim_step chosen e one (three_of chosen e one (omega (arith, count)) different) p t.0 t.1 (free_mine p chosen e free listed) c
    ∙ ap₂ (λ ms ps. claim_in p c + claimed_in c ms ps) (sym (kinds can ∙ append-nil (mine chosen e))) (sym (append-nil (parents_in e)))
  where
    count : length chosen ≡ news e
    count = long ∙ omega arith

    one : IsOne e
    one = (all_one (e ∷ []) can).0

    listed : IsMine chosen e
    listed = by_can can
      where
        by_can : IsFirst e ⊎ IsLast 0 e → IsMine chosen e
        by_can (inl first) = first_mine chosen e first (omega (arith, count))
        by_can (inr last) = last_mine chosen 0 e last (omega (arith, count))

    kinds : IsFirst e ⊎ IsLast 0 e → with_kinds chosen (kinds_in e ++ []) ≡ mine chosen e ++ []
    kinds (inl first) = kinds_first chosen e first count
    kinds (inr last) = kinds_last 0 chosen chosen refl e last count
claims_more chosen (e ∷ f ∷ []) can long different p q free t c =
    ap (λ r. claim_in r c) (sym t.2.2) ∙ claim_step chosen f (inr (news e, can.2)) (last_three chosen (news e) f can.2) t.0 t.2.0 t.2.1 unused c
    ∙ ap (λ n. n + claimed_in c (mine chosen f) (parents_in f)) (claim_step chosen e (inl can.0) (three_of chosen e (inl can.0) (omega (arith, count)) different) p t.0 t.1 (free_mine p chosen e free listed) c)
    ∙ joined
    ∙ ap₂ (λ ms ps. claim_in p c + claimed_in c ms ps) (sym (kinds_two chosen e f can.0 can.2 count ∙ ap (λ ms. mine chosen e ++ ms) (append-nil (mine chosen f)))) (ap (λ ps. parents_in e ++ ps) (sym (append-nil (parents_in f))))
  where
    count : length chosen ≡ news e + news f
    count = long ∙ omega arith

    listed : IsMine chosen e
    listed = first_mine chosen e can.0 (omega (arith, count))

    unused : AllByRecursion (λ (z : ℕ × Bool). IsUnclaimed t.0 z.0) (mine chosen f)
    unused = last_each chosen (IsUnclaimed t.0) (news e) f can.2 (λ one.
        let low : news e < length chosen = omega (arith, one, count) in
        still_free chosen e (inl can.0) (three_of chosen e (inl can.0) (omega (arith, count)) different) p t.0 t.1 (free_mine p chosen e free listed) (get_or chosen (news e) 0) (free (get_or chosen (news e) 0) (in_list chosen (news e) low)) (second_other chosen e can.0 low different))

    joined : (claim_in p c + claimed_in c (mine chosen e) (parents_in e)) + claimed_in c (mine chosen f) (parents_in f) ≡ claim_in p c + claimed_in c (mine chosen e ++ mine chosen f) (parents_in e ++ parents_in f)
    joined =
        let both : claimed_in c (mine chosen e ++ mine chosen f) (parents_in e ++ parents_in f) ≡ claimed_in c (mine chosen e) (parents_in e) + claimed_in c (mine chosen f) (parents_in f) = claimed_append c (mine chosen e) (mine chosen f) (parents_in e) (parents_in f) in omega arith
claims_more chosen (e ∷ f ∷ g ∷ es) can long different p q free t c = absurd can
