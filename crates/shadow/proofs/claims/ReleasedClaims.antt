-- What is kept is given back, number after number.
use Rattle.std.proofs.Common.{◌≡◌, ◌≢◌, ℕ, suc, ◌+◌, ◌*◌, ◌<◌, ◌≤◌, ◌==◌, Bool, true, false, ◌&&◌, cond, List, [], ◌∷◌, Option, Some, None, refl, sym, ap, subst, ◌∙◌, arith, eq-eqb, eqb-true, ne_eqb, inl, inr, nat_cmp}
use Rattle.std.specs.List.{AllByRecursion}
use Rattle.std.specs.List.Sorted.{IsStrictlySortedBy}
use Rattle.std.specs.Map.{keys_of}
use Rattle.std.specs.declared.cmp.Ordering.TheVariants.{Less}
use Rattle.std.specs.Ordering.{is_eq}
use Rattle.std.specs.Cmp.{nat_cmp_total, tied_itself}
use Rattle.std.proofs.lemmas.Bool.{cases_eq}
use Rattle.model.specs.FiniteMap.{nat_cmp-IsAntisymmetric}
use Rattle.std.proofs.Math.Nat.{suc-mul}
use Rattle.model.proofs.Laws.{tie}
use Rattle.notes.specs.declared.change.InodeChange.{InodeChange}
use Rattle.notes.specs.declared.change.Made.{Made}
use Rattle.notes.specs.declared.change.Made.TheVariants.{Directory, File, Pipe, Fixed}
use Rattle.notes.specs.declared.opening.Opening.{Opening}
use Rattle.shadow.specs.Committed.{Committed}
use Rattle.notes.specs.Patches.{Net, Patches, is_new, kept_at, net_of, or_kept}
use Rattle.shadow.specs.Claims.{Claim, Room, New_directory, Number, IsComing, KeepsMore, as_count, claim_in, claimed_in, inode_claim, inodes_claim, is_directory_made, is_file_made, new_number, number_as, number_of, openings_claim, reserved, room_in, with_kinds}
use Rattle.shadow.proofs.claims.NewNumbers.{none_claimed, one_claimed, without_parents}
use Rattle.shadow.proofs.claims.ClaimCounts.{number_counts}

-- numbers with their kinds
first_kind : List Bool → Bool
first_kind [] = false
first_kind (b ∷ bs) = b

later_kinds : List Bool → List Bool
later_kinds [] = []
later_kinds (b ∷ bs) = bs

first_claimed : (c : Claim) (n : ℕ) (ns : List ℕ) (bs : List Bool) → claimed_in c (with_kinds (n ∷ ns) bs) [] ≡ number_as (first_kind bs) n c + claimed_in c (with_kinds ns (later_kinds bs)) []
unfolding first_kind later_kinds
first_claimed c n ns [] = one_claimed c n false (with_kinds ns [])
first_claimed c n ns (b ∷ bs) = one_claimed c n b (with_kinds ns bs)

abbrev pub AreKept : Committed → List ℕ → List ℕ → List Bool → Type 0
AreKept start all parents bs = (c : Claim) → claimed_in c (with_kinds all bs) parents ≤ reserved start c

-- Of all numbers these are left.
pub record Left (start now : Committed) (all parents rest : List ℕ) (bs : List Bool) : Type 0 where
  pub kinds : List Bool
  pub kept : (c : Claim) → reserved start c + claimed_in c (with_kinds rest kinds) [] ≡ reserved now c + claimed_in c (with_kinds all bs) []

pub record GivesNumbers (start now : Committed) (all parents rest : List ℕ) : Type 0 where
  pub state : now.state ≡ start.state
  pub left : (bs : List Bool) → AreKept start all parents bs → Left start now all parents rest bs

pub gives_all : (start : Committed) (all parents : List ℕ) → GivesNumbers start start all parents all
gives_all start all parents = record { state = refl; left = λ bs kept. record { kinds = bs; kept = λ c. refl } }

module _ (start now : Committed) (all parents : List ℕ) (n : ℕ) (rest : List ℕ) (gives : GivesNumbers start now all parents (n ∷ rest)) where
  still : (bs : List Bool) (are : AreKept start all parents bs) → 0 < reserved now (new_number (first_kind (gives.left bs are).kinds) n)
  still bs are =
      let ds = (gives.left bs are).kinds in
      let b = first_kind ds in
      let c = new_number b n in
      let sum : reserved start (new_number (first_kind (gives.left bs are).kinds) n) + claimed_in (new_number (first_kind (gives.left bs are).kinds) n) (with_kinds (n ∷ rest) (gives.left bs are).kinds) []
      ≡ reserved now (new_number (first_kind (gives.left bs are).kinds) n) + claimed_in (new_number (first_kind (gives.left bs are).kinds) n) (with_kinds all bs) [] = (gives.left bs are).kept c in
      let first : claimed_in (new_number (first_kind (gives.left bs are).kinds) n) (with_kinds (n ∷ rest) (gives.left bs are).kinds) []
      ≡ number_as (first_kind (gives.left bs are).kinds) n (new_number (first_kind (gives.left bs are).kinds) n) + claimed_in (new_number (first_kind (gives.left bs are).kinds) n) (with_kinds rest (later_kinds (gives.left bs are).kinds)) [] = first_claimed c n rest ds in
      let one : number_as (first_kind (gives.left bs are).kinds) n (new_number (first_kind (gives.left bs are).kinds) n) ≡ 1 = number_counts b n in
      let most : claimed_in (new_number (first_kind (gives.left bs are).kinds) n) (with_kinds all bs) [] ≤ claimed_in (new_number (first_kind (gives.left bs are).kinds) n) (with_kinds all bs) parents = without_parents c (with_kinds all bs) parents in
      let there : claimed_in (new_number (first_kind (gives.left bs are).kinds) n) (with_kinds all bs) parents ≤ reserved start (new_number (first_kind (gives.left bs are).kinds) n) = are c in
      omega arith

  pub first_coming : (bs : List Bool) × AreKept start all parents bs → IsComing now n
  first_coming some = (first_kind (gives.left some.0 some.1).kinds, still some.0 some.1)

  pub gives_next : (after : Committed) → after.state ≡ now.state → ((b : Bool) → 0 < reserved now (new_number b n) → KeepsMore after now (number_as b n)) → GivesNumbers start after all parents rest
  gives_next after state back = record {
    state = state ∙ gives.state;
    left = λ bs are. record {
      kinds = later_kinds (gives.left bs are).kinds;
      kept = λ c. (
          let sum : reserved start c + claimed_in c (with_kinds (n ∷ rest) (gives.left bs are).kinds) [] ≡ reserved now c + claimed_in c (with_kinds all bs) [] = (gives.left bs are).kept c in
          let first : claimed_in c (with_kinds (n ∷ rest) (gives.left bs are).kinds) [] ≡ number_as (first_kind (gives.left bs are).kinds) n c + claimed_in c (with_kinds rest (later_kinds (gives.left bs are).kinds)) [] = first_claimed c n rest (gives.left bs are).kinds in
          let less : reserved now c ≡ reserved after c + number_as (first_kind (gives.left bs are).kinds) n c = back (first_kind (gives.left bs are).kinds) (still bs are) c in
          omega arith);
    };
  }

module _ (start now : Committed) (all parents : List ℕ) (gives : GivesNumbers start now all parents []) where
  pub given_kept : (bs : List Bool) → AreKept start all parents bs → (c : Claim) → reserved start c ≡ reserved now c + claimed_in c (with_kinds all bs) []
  given_kept bs are c =
      let sum : reserved start c + claimed_in c (with_kinds [] (gives.left bs are).kinds) [] ≡ reserved now c + claimed_in c (with_kinds all bs) [] = (gives.left bs are).kept c in
      let none : claimed_in c (with_kinds [] (gives.left bs are).kinds) [] ≡ 0 = none_claimed c in omega arith

-- what the changes of one inode claim, in parts
abbrev pub kind_made : Made → Bool
kind_made Directory = true
kind_made File = false
kind_made Pipe = false
kind_made Fixed = false

abbrev pub made_part : Option Made → ℕ → Claim → ℕ
made_part (Some what) n c = number_as (kind_made what) n c
made_part None n c = 0

room_part : (b : Bool) (p k : ℕ) → k ≡ 0 → cond b p 0 ≡ p * as_count b + k
room_part true p k none = omega arith
room_part false p k none = omega arith

with_true : (b : Bool) (p : ℕ) → cond {A = ℕ} b 1 0 ≡ p * 0 + as_count (b && true)
with_true true p = omega arith
with_true false p = omega arith

with_false : (b : Bool) (p : ℕ) → cond {A = ℕ} b 0 0 ≡ p * 0 + as_count (b && false)
with_false true p = omega arith
with_false false p = omega arith

with_none : (b : Bool) (p : ℕ) → cond {A = ℕ} b 0 0 ≡ p * 0 + 0
with_none true p = omega arith
with_none false p = omega arith

pub inode_parts : (n : ℕ) (net : Net) (c : Claim) → inode_claim n net c ≡ net.promised * room_in n c + made_part net.made n c
inode_parts n net c = by_made c net.promised net.made
  where
    by_made : (c : Claim) (p : ℕ) (made : Option Made) → inode_claim n (record net { promised = p; made = made }) c ≡ p * room_in n c + made_part made n c
    by_made (Room d) p None = room_part (n == d) p 0 refl
    by_made (Room d) p (Some Directory) = room_part (n == d) p 0 refl
    by_made (Room d) p (Some File) = room_part (n == d) p 0 refl
    by_made (Room d) p (Some Pipe) = room_part (n == d) p 0 refl
    by_made (Room d) p (Some Fixed) = room_part (n == d) p 0 refl
    by_made (New_directory m) p (Some Directory) = with_true (n == m) p
    by_made (New_directory m) p (Some File) = with_false (n == m) p
    by_made (New_directory m) p (Some Pipe) = with_false (n == m) p
    by_made (New_directory m) p (Some Fixed) = with_false (n == m) p
    by_made (New_directory m) p None = with_none (n == m) p
    by_made (Number m) p (Some Directory) = with_false (n == m) p
    by_made (Number m) p (Some File) = with_true (n == m) p
    by_made (Number m) p (Some Pipe) = with_true (n == m) p
    by_made (Number m) p (Some Fixed) = with_true (n == m) p
    by_made (Number m) p None = with_none (n == m) p

-- so much of the room is given back
pub record GivesRoom (start now : Committed) (n given : ℕ) : Type 0 where
  pub state : now.state ≡ start.state
  pub kept : (c : Claim) → reserved start c ≡ reserved now c + given * room_in n c

pub no_room_given : (start : Committed) (n : ℕ) → GivesRoom start start n 0
no_room_given start n = record { state = refl; kept = λ c. (let none : 0 * room_in n c ≡ 0 = omega arith in omega arith) }

times_more : (k m : ℕ) → (k + 1) * m ≡ k * m + m
times_more k m = (let same : k + 1 ≡ suc k = omega arith in ap (λ j. j * m) same ∙ suc-mul k m)

module _ (start now : Committed) (n given : ℕ) (net : Net) (gives : GivesRoom start now n given) (there : (c : Claim) → inode_claim n net c ≤ reserved start c) where
  pub more_room_left : given < net.promised → 0 < reserved now (Room n)
  more_room_left low =
      let one : room_in n (Room n) ≡ 1 = ap as_count (eq-eqb n n refl) in
      let sum : reserved start (Room n) ≡ reserved now (Room n) + given * 1 = subst (λ m. reserved start (Room n) ≡ reserved now (Room n) + given * m) one (gives.kept (Room n)) in
      let claims : inode_claim n net (Room n) ≡ net.promised = ap (λ b. cond b net.promised 0) (eq-eqb n n refl) in
      let all : inode_claim n net (Room n) ≤ reserved start (Room n) = there (Room n) in omega arith

  pub room_given : (after : Committed) → after.state ≡ now.state → KeepsMore after now (room_in n) → GivesRoom start after n (given + 1)
  room_given after state less = record {
    state = state ∙ gives.state;
    kept = λ c. (
        let sum : reserved start c ≡ reserved now c + given * room_in n c = gives.kept c in
        let one : reserved now c ≡ reserved after c + room_in n c = less c in
        let more : (given + 1) * room_in n c ≡ given * room_in n c + room_in n c = times_more given (room_in n c) in omega arith);
  }

  pub number_left : (what : Made) → net.made ≡ Some what → given ≡ net.promised → IsComing now n
  number_left what made all = (
    kind_made what,
    (
        let sum : reserved start (new_number (kind_made what) n) ≡ reserved now (new_number (kind_made what) n) + given * room_in n (new_number (kind_made what) n) = gives.kept (new_number (kind_made what) n) in
        let claims : inode_claim n net (new_number (kind_made what) n) ≡ net.promised * room_in n (new_number (kind_made what) n) + made_part net.made n (new_number (kind_made what) n) = inode_parts n net (new_number (kind_made what) n) in
        let part : made_part net.made n (new_number (kind_made what) n) ≡ 1 = ap (λ m. made_part m n (new_number (kind_made what) n)) made ∙ number_counts (kind_made what) n in
        let same : given * room_in n (new_number (kind_made what) n) ≡ net.promised * room_in n (new_number (kind_made what) n) = ap (λ k. k * room_in n (new_number (kind_made what) n)) all in
        let most : inode_claim n net (new_number (kind_made what) n) ≤ reserved start (new_number (kind_made what) n) = there (new_number (kind_made what) n) in omega arith),
  )

  pub inode_given : (after : Committed) → given ≡ net.promised → KeepsMore after now (made_part net.made n) → KeepsMore after start (inode_claim n net)
  inode_given after all less c =
      let sum : reserved start c ≡ reserved now c + given * room_in n c = gives.kept c in
      let claims : inode_claim n net c ≡ net.promised * room_in n c + made_part net.made n c = inode_parts n net c in
      let same : given * room_in n c ≡ net.promised * room_in n c = ap (λ k. k * room_in n c) all in
      let one : reserved now c ≡ reserved after c + made_part net.made n c = less c in omega arith

  -- after all room is given back, a new number is kept still
  pub made_given : (after : Committed) (what : Made) → net.made ≡ Some what → given ≡ net.promised → ((b : Bool) → 0 < reserved now (new_number b n) → KeepsMore after now (number_as b n)) → KeepsMore after start (inode_claim n net)
  unfolding number_left
  made_given after what made all back = inode_given after all (subst (λ m. KeepsMore after now (made_part m n)) (sym made) (back (kind_made what) (number_left what made all).1))

  pub none_given : net.made ≡ None → given ≡ net.promised → KeepsMore now start (inode_claim n net)
  none_given made all = inode_given now all (subst (λ m. KeepsMore now now (made_part m n)) (sym made) (λ c. omega arith))

-- what is kept in order by numbers: the first, and what is behind it
tests_alike : (num n : ℕ) → is_eq (nat_cmp num n) ≡ (n == num)
tests_alike num n = by_cases (is_eq (nat_cmp num n)) (n == num) refl refl
  where
    by_cases : (a b : Bool) → is_eq (nat_cmp num n) ≡ a → (n == num) ≡ b → a ≡ b
    by_cases true true e f = refl
    by_cases false false e f = refl
    by_cases true false e f = sym (eq-eqb n num (sym (nat_cmp-IsAntisymmetric num n (tie (nat_cmp num n) e)))) ∙ f
    by_cases false true e f = sym e ∙ ap (λ m. is_eq (nat_cmp num m)) (eqb-true n num f) ∙ ap is_eq (tied_itself nat_cmp_total num)

module _ {X : Type 0} where
  first_kept : (n : ℕ) (x : X) (es : List (ℕ × X)) → kept_at ((n, x) ∷ es) n ≡ Some x
  first_kept n x es = ap (λ o. cond (is_eq o) (Some x) (kept_at es n)) (tie (nat_cmp n n) (ap is_eq (tied_itself nat_cmp_total n)))

  later_kept : (n m : ℕ) (x : X) (es : List (ℕ × X)) → m ≢ n → kept_at ((n, x) ∷ es) m ≡ kept_at es m
  later_kept n m x es away = ap (λ b. cond b (Some x) (kept_at es m)) (tests_alike m n ∙ ne_eqb n m (λ e. away (sym e)))

  absent_later : (n : ℕ) (es : List (ℕ × X)) → AllByRecursion (λ y. nat_cmp n y ≡ Less) (keys_of es) → kept_at es n ≡ None
  absent_later n [] h = refl
  absent_later n (e ∷ es) h = ap (λ o. cond (is_eq o) (Some e.1) (kept_at es n)) h.0 ∙ absent_later n es h.1

  first_absent : (n : ℕ) (x : X) (es : List (ℕ × X)) → IsStrictlySortedBy nat_cmp (keys_of ((n, x) ∷ es)) → kept_at es n ≡ None
  unfolding IsStrictlySortedBy
  first_absent n x es sorted = absent_later n es sorted.0

  rest_sorted : (n : ℕ) (x : X) (es : List (ℕ × X)) → IsStrictlySortedBy nat_cmp (keys_of ((n, x) ∷ es)) → IsStrictlySortedBy nat_cmp (keys_of es)
  unfolding IsStrictlySortedBy
  rest_sorted n x es sorted = sorted.1

-- what one change claims of its number
abbrev pub inode_at : Option InodeChange → Claim → ℕ
inode_at o (Room d) = (net_of o).promised
inode_at o (New_directory n) = as_count (is_directory_made (net_of o).made)
inode_at o (Number n) = as_count (is_file_made (net_of o).made)

abbrev pub opened_at : Option Opening → Claim → ℕ
opened_at o (Room d) = 0
opened_at o (New_directory n) = 0
opened_at o (Number n) = as_count (is_new (or_kept o))

pub inodes_at : (es : List (ℕ × InodeChange)) (c : Claim) → inodes_claim es c ≡ inode_at (kept_at es (number_of c)) c
inodes_at es (Room d) = refl
inodes_at es (New_directory n) = refl
inodes_at es (Number n) = refl

pub openings_at : (es : List (ℕ × Opening)) (c : Claim) → openings_claim es c ≡ opened_at (kept_at es (number_of c)) c
openings_at es (Room d) = refl
openings_at es (New_directory n) = refl
openings_at es (Number n) = refl

pub no_inode_at : (c : Claim) → inode_at None c ≡ 0
no_inode_at (Room d) = refl
no_inode_at (New_directory n) = refl
no_inode_at (Number n) = refl

pub nothing_opened : (c : Claim) → opened_at None c ≡ 0
nothing_opened (Room d) = refl
nothing_opened (New_directory n) = refl
nothing_opened (Number n) = refl

-- Of all changes these are left, and just what they claim is still kept.
pub record GivesUp {X : Type 0} (claim : Option X → Claim → ℕ) (start now : Committed) (all rest : List (ℕ × X)) : Type 0 where
  pub state : now.state ≡ start.state
  pub kept : (c : Claim) → reserved start c + claim (kept_at rest (number_of c)) c ≡ reserved now c + claim (kept_at all (number_of c)) c
  pub sorted : IsStrictlySortedBy nat_cmp (keys_of rest)

pub gives_up_all : {X : Type 0} (claim : Option X → Claim → ℕ) (start : Committed) (all : List (ℕ × X)) → IsStrictlySortedBy nat_cmp (keys_of all) → GivesUp claim start start all all
gives_up_all claim start all sorted = record { state = refl; kept = λ c. refl; sorted = sorted }

module _ {X : Type 0} (claim : Option X → Claim → ℕ) (none : (c : Claim) → claim None c ≡ 0) (start now : Committed) (all : List (ℕ × X)) where
  module _ (n : ℕ) (x : X) (rest : List (ℕ × X)) (gives : GivesUp claim start now all ((n, x) ∷ rest)) where
    here : (c : Claim) → number_of c ≡ n → claim (kept_at ((n, x) ∷ rest) (number_of c)) c ≡ claim (Some x) c
    here c same = ap (λ m. claim (kept_at ((n, x) ∷ rest) m) c) same ∙ ap (λ o. claim o c) (first_kept n x rest)

    -- what one claims is kept
    pub one_kept : ((c : Claim) → claim (kept_at all (number_of c)) c ≤ reserved start c) → (c : Claim) → number_of c ≡ n → claim (Some x) c ≤ reserved now c
    one_kept there c same =
        let sum : reserved start c + claim (kept_at ((n, x) ∷ rest) (number_of c)) c ≡ reserved now c + claim (kept_at all (number_of c)) c = gives.kept c in
        let first : claim (kept_at ((n, x) ∷ rest) (number_of c)) c ≡ claim (Some x) c = here c same in
        let most : claim (kept_at all (number_of c)) c ≤ reserved start c = there c in omega arith

    pub gives_up_next : (after : Committed) (less : Claim → ℕ) → after.state ≡ now.state → KeepsMore after now less → ((c : Claim) → number_of c ≡ n → less c ≡ claim (Some x) c) → ((c : Claim) → number_of c ≢ n → less c ≡ 0)
        → GivesUp claim start after all rest
    gives_up_next after less state back same_less no_less = record {
      state = state ∙ gives.state;
      kept = λ c. elim (cases_eq (number_of c) n) [
        | inl same ↦ (
            let sum : reserved start c + claim (kept_at ((n, x) ∷ rest) (number_of c)) c ≡ reserved now c + claim (kept_at all (number_of c)) c = gives.kept c in
            let first : claim (kept_at ((n, x) ∷ rest) (number_of c)) c ≡ claim (Some x) c = here c same in
            let gone : claim (kept_at rest (number_of c)) c ≡ 0 = ap (λ m. claim (kept_at rest m) c) same ∙ ap (λ o. claim o c) (first_absent n x rest gives.sorted) ∙ none c in
            let one : reserved now c ≡ reserved after c + less c = back c in
            let is : less c ≡ claim (Some x) c = same_less c same in omega arith)
        | inr away ↦ (
            let sum : reserved start c + claim (kept_at ((n, x) ∷ rest) (number_of c)) c ≡ reserved now c + claim (kept_at all (number_of c)) c = gives.kept c in
            let later : claim (kept_at ((n, x) ∷ rest) (number_of c)) c ≡ claim (kept_at rest (number_of c)) c = ap (λ o. claim o c) (later_kept n (number_of c) x rest away) in
            let one : reserved now c ≡ reserved after c + less c = back c in
            let is : less c ≡ 0 = no_less c away in omega arith)
      ];
      sorted = rest_sorted n x rest gives.sorted;
    }

  pub all_given : GivesUp claim start now all [] → (c : Claim) → reserved start c ≡ reserved now c + claim (kept_at all (number_of c)) c
  all_given gives c =
      let sum : reserved start c + claim None c ≡ reserved now c + claim (kept_at all (number_of c)) c = gives.kept c in
      let zero : claim None c ≡ 0 = none c in omega arith

-- the claims of one inode, on its number and on others
pub inode_here : (n : ℕ) (change : InodeChange) (c : Claim) → number_of c ≡ n → inode_claim n (net_of (Some change)) c ≡ inode_at (Some change) c
inode_here n change (Room d) same = ap (λ b. cond b change.promised 0) (eq-eqb n d (sym same))
inode_here n change (New_directory m) same = ap (λ b. cond b (as_count (is_directory_made change.made)) 0) (eq-eqb n m (sym same))
inode_here n change (Number m) same = ap (λ b. cond b (as_count (is_file_made change.made)) 0) (eq-eqb n m (sym same))

pub inode_away : (n : ℕ) (change : InodeChange) (c : Claim) → number_of c ≢ n → inode_claim n (net_of (Some change)) c ≡ 0
inode_away n change (Room d) away = ap (λ b. cond b change.promised 0) (ne_eqb n d (λ e. away (sym e)))
inode_away n change (New_directory m) away = ap (λ b. cond b (as_count (is_directory_made change.made)) 0) (ne_eqb n m (λ e. away (sym e)))
inode_away n change (Number m) away = ap (λ b. cond b (as_count (is_file_made change.made)) 0) (ne_eqb n m (λ e. away (sym e)))

pub inode_kept : (now : Committed) (n : ℕ) (change : InodeChange) → ((c : Claim) → number_of c ≡ n → inode_at (Some change) c ≤ reserved now c) → (c : Claim) → inode_claim n (net_of (Some change)) c ≤ reserved now c
inode_kept now n change there c = elim (cases_eq (number_of c) n) [
  | inl same ↦ (let one : inode_at (Some change) c ≤ reserved now c = there c same in let is : inode_claim n (net_of (Some change)) c ≡ inode_at (Some change) c = inode_here n change c same in omega arith)
  | inr away ↦ (let none : inode_claim n (net_of (Some change)) c ≡ 0 = inode_away n change c away in omega arith)
]

-- the claim of a new description
pub new_here : (n : ℕ) (opening : Opening) (c : Claim) → is_new opening ≡ true → number_of c ≡ n → number_as false n c ≡ opened_at (Some opening) c
new_here n opening (Room d) new same = refl
new_here n opening (New_directory m) new same = ap (λ t. as_count (t && false)) (eq-eqb n m (sym same))
new_here n opening (Number m) new same = ap (λ t. as_count (t && true)) (eq-eqb n m (sym same)) ∙ sym (ap as_count new)

pub old_here : (n : ℕ) (opening : Opening) (c : Claim) → is_new opening ≡ false → number_of c ≡ n → 0 ≡ opened_at (Some opening) c
old_here n opening (Room d) new same = refl
old_here n opening (New_directory m) new same = refl
old_here n opening (Number m) new same = sym (ap as_count new)

-- all that is kept for a transaction's changes
pub patches_claim : (p : Patches) (c : Claim) → claim_in p c ≡ inodes_claim p.inodes c + openings_claim p.openings c
patches_claim p (Room d) = omega arith
patches_claim p (New_directory n) = omega arith
patches_claim p (Number n) = refl
