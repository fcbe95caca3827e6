-- New numbers of edits, with what is kept for them.
use Rattle.std.proofs.Common.{Result, Ok, Err, OnOk, OnErr, ◌≡◌, ◌≢◌, ℕ, zero, suc, ◌+◌, ◌≤◌, ◌==◌, Bool, true, false, ◌&&◌, ◌||◌, not, cond, List, [], ◌∷◌, ◌++◌, length, replicate, drop, sum_by, flat_map, None, refl, sym, ap, subst, ◌∙◌, arith, eqb-true, inl, inr}
use Rattle.std.specs.List.{AllByRecursion}
use Rattle.std.proofs.lemmas.List.{length-append}
use Rattle.std.proofs.lemmas.List.Sums.{sum_by-append, sum_by-cons}
use Rattle.std.proofs.lemmas.List.Concat.{flat_map-cons}
use Rattle.std.proofs.lemmas.Grind.{flat_map-append}
use Rattle.std.specs.Ordering.{nat_cmp}
use Rattle.model.specs.FiniteMap.{FinMap, get}
use Rattle.model.specs.Changes.{Edit, Make_directory, Make_file, Make_fixed, Make_pipe, news}
use Rattle.model.specs.Moments.{is_in}
use Rattle.model.specs.Steps.{AllDifferent, IsNowhere}
use Rattle.model.proofs.Laws.{append-all}
use Rattle.call_laws.proofs.Laws.{all-mapped}
use Rattle.freeing_laws.specs.Counts.{listed, times}
use Rattle.shadow.specs.Committed.{Committed, Reserve}
use Rattle.shadow.specs.Claims.{AreAdded, AreUnused, Claim, Room, New_directory, Number, HasParent, HaveClaimed, HaveParents, IsClaimed, IsDirectory, IsReserved, KeepsMore, KeepsSame, claimed_in, kinds_in, number_as, number_of, reserved, room_in, room_of, with_kinds, or_zero, coming_directory, coming_other}
use Rattle.shadow.proofs.claims.EditClaims.{apart_at}
use Rattle.notes.specs.Steps.{AreApart, CanEdit, IsFirst, IsLast, new_in, parents_in}

append_nil : {X : Type 0} (xs : List X) → xs ++ [] ≡ xs
append_nil [] = refl
append_nil (x ∷ xs) = ap (λ ys. x ∷ ys) (append_nil xs)

-- claims of one number, of numbers in a row, and of a name
pub one_claimed : (c : Claim) (n : ℕ) (b : Bool) (ms : List (ℕ × Bool)) → claimed_in c ((n, b) ∷ ms) [] ≡ number_as b n c + claimed_in c ms []
one_claimed (Room r) n b ms = refl
one_claimed (New_directory m) n b ms = sum_by-cons (λ (m' : ℕ × Bool). cond ((m'.0 == m) && m'.1) 1 0) (n, b) ms
one_claimed (Number m) n b ms = sum_by-cons (λ (m' : ℕ × Bool). cond ((m'.0 == m) && not m'.1) 1 0) (n, b) ms

pub none_claimed : (c : Claim) → claimed_in c [] [] ≡ 0
none_claimed (Room r) = refl
none_claimed (New_directory m) = refl
none_claimed (Number m) = refl

append_claimed : (c : Claim) (ms ns : List (ℕ × Bool)) → claimed_in c (ms ++ ns) [] ≡ claimed_in c ms [] + claimed_in c ns []
append_claimed (Room r) ms ns = refl
append_claimed (New_directory m) ms ns = sum_by-append (λ (m' : ℕ × Bool). cond ((m'.0 == m) && m'.1) 1 0) ms ns
append_claimed (Number m) ms ns = sum_by-append (λ (m' : ℕ × Bool). cond ((m'.0 == m) && not m'.1) 1 0) ms ns

pub parent_claimed : (c : Claim) (ms : List (ℕ × Bool)) (d : ℕ) → claimed_in c ms (d ∷ []) ≡ claimed_in c ms [] + room_in d c
parent_claimed (Room r) ms d =
    let one : times r (d ∷ []) ≡ cond (d == r) 1 0 + times r [] = sum_by-cons (λ (m : ℕ). cond (m == r) 1 0) d [] in
    let none : times r [] ≡ 0 = refl in omega arith
parent_claimed (New_directory m) ms d = omega arith
parent_claimed (Number m) ms d = omega arith

pub without_parents : (c : Claim) (ms : List (ℕ × Bool)) (parents : List ℕ) → claimed_in c ms [] ≤ claimed_in c ms parents
without_parents (Room r) ms parents = let none : times r [] ≡ 0 = refl in omega arith
without_parents (New_directory m) ms parents = omega arith
without_parents (Number m) ms parents = omega arith

kinds_appended : (xs ys : List ℕ) (bs ds : List Bool) → length xs ≡ length bs → with_kinds (xs ++ ys) (bs ++ ds) ≡ with_kinds xs bs ++ with_kinds ys ds
kinds_appended [] ys [] ds e = refl
kinds_appended [] ys (b ∷ bs) ds e = absurd (omega arith)
kinds_appended (x ∷ xs) ys [] ds e = absurd (omega arith)
kinds_appended (x ∷ xs) ys (b ∷ bs) ds e = let rest : length xs ≡ length bs = omega arith in ap (λ ms. (x, b) ∷ ms) (kinds_appended xs ys bs ds rest)

falses : (n : ℕ) → length (replicate n false) ≡ n
falses zero = refl
falses (suc n) = ap suc (falses n)

kinds_count : (e : Edit) → length (kinds_in e) ≡ news e
kinds_count (Make_directory d x i) = refl
kinds_count e = falses (news e)

all_kinds_count : (es : List Edit) → length (flat_map kinds_in es) ≡ sum_by news es
all_kinds_count [] = refl
all_kinds_count (e ∷ es) =
    ap length (flat_map-cons kinds_in e es) ∙ length-append (kinds_in e) (flat_map kinds_in es) ∙ ap (λ n. n + length (flat_map kinds_in es)) (kinds_count e) ∙ ap (λ n. news e + n) (all_kinds_count es) ∙ sym (sum_by-cons news e es)

one_more_kinds : (es : List Edit) (e : Edit) → flat_map kinds_in (es ++ e ∷ []) ≡ flat_map kinds_in es ++ kinds_in e
one_more_kinds es e = flat_map-append kinds_in es (e ∷ []) ∙ ap (λ ys. flat_map kinds_in es ++ ys) (flat_map-cons kinds_in e [] ∙ append_nil (kinds_in e))

one_more_count : (es : List Edit) (e : Edit) → sum_by news (es ++ e ∷ []) ≡ sum_by news es + news e
one_more_count es e =
    let parts : sum_by news (es ++ e ∷ []) ≡ sum_by news es + sum_by news (e ∷ []) = sum_by-append news es (e ∷ []) in
    let one : sum_by news (e ∷ []) ≡ news e + sum_by news [] = sum_by-cons news e [] in
    let none : sum_by news [] ≡ 0 = refl in omega arith

-- a number behind different ones
different_more : (ns : List ℕ) (n : ℕ) → AllDifferent ns → AllByRecursion (λ m. m ≢ n) ns → AllDifferent (ns ++ n ∷ [])
different_more [] n all away = (tt, tt)
different_more (m ∷ ns) n all away = (append-all (λ k. m ≢ k) ns (n ∷ []) all.0 (away.0, tt), different_more ns n all.1 away.1)

-- two lists of different numbers, of which none is in both
pub all_different : (ns ms : List ℕ) → AllDifferent ns → AllDifferent ms → AllByRecursion (λ m. AllByRecursion (λ n. n ≢ m) ns) ms → AllDifferent (ns ++ ms)
all_different [] ms first second apart = second
all_different (n ∷ ns) ms first second apart = (
  append-all (λ m. n ≢ m) ns ms first.0 (all-mapped ms (λ m away. away.0) apart),
  all_different ns ms first.1 second (all-mapped ms (λ m away. away.1) apart),
)

pub have_none : (s : Committed) → HaveClaimed s s [] []
have_none s = record {
  state = refl;
  count = refl;
  unused = tt;
  used = tt;
  different = tt;
  kept = λ c. (let none : claimed_in c [] [] ≡ 0 = none_claimed c in omega arith);
  stays = record { used = λ n none. none; directories = λ n there. there };
}

module _ (s t u : Committed) (done : List Edit) (e : Edit) (chosen new : List ℕ) (have : HaveClaimed s t done chosen) (is : IsClaimed t u e chosen new) (state : u.state ≡ t.state) where
  more_numbers : length (chosen ++ is.mine) ≡ length chosen + length is.mine
  more_numbers = length-append chosen is.mine

  more_kept : (c : Claim) → reserved u c ≡ reserved s c + claimed_in c (with_kinds (chosen ++ is.mine) (flat_map kinds_in (done ++ e ∷ []))) []
  more_kept c =
      let first : reserved t c ≡ reserved s c + claimed_in c (with_kinds chosen (flat_map kinds_in done)) [] = have.kept c in
      let second : reserved u c ≡ reserved t c + claimed_in c (with_kinds is.mine (kinds_in e)) [] = is.kept c in
      let both : claimed_in c (with_kinds (chosen ++ is.mine) (flat_map kinds_in (done ++ e ∷ []))) [] ≡ claimed_in c (with_kinds chosen (flat_map kinds_in done)) [] + claimed_in c (with_kinds is.mine (kinds_in e)) [] =
      ap (λ bs. claimed_in c (with_kinds (chosen ++ is.mine) bs) []) (one_more_kinds done e)
      ∙ ap (λ ms. claimed_in c ms []) (kinds_appended chosen is.mine (flat_map kinds_in done) (kinds_in e) (have.count ∙ sym (all_kinds_count done)))
      ∙ append_claimed c (with_kinds chosen (flat_map kinds_in done)) (with_kinds is.mine (kinds_in e)) in omega arith

  more_different : AllDifferent (chosen ++ is.mine)
  more_different = all_different chosen is.mine have.different is.different
      (all-mapped is.mine (λ n h. all-mapped chosen (λ m there same. there (ap (get t.reserves) same ∙ h.0)) have.used) is.unused)

  pub have_more : HaveClaimed s u (done ++ e ∷ []) new
  have_more = record {
    state = state ∙ have.state;
    count = ap length is.list ∙ more_numbers ∙ ap (λ n. n + length is.mine) have.count ∙ ap (λ n. sum_by news done + n) is.count ∙ sym (one_more_count done e);
    unused = subst (AllByRecursion (λ n. (get s.reserves n ≡ None) × IsNowhere s.state n)) (sym is.list)
        (append-all (λ n. (get s.reserves n ≡ None) × IsNowhere s.state n) chosen is.mine have.unused
        (all-mapped is.mine (λ n h. (have.stays.used n h.0, subst (λ k. IsNowhere k n) have.state h.1)) is.unused));
    used = subst (AllByRecursion (λ n. get u.reserves n ≢ None)) (sym is.list)
        (append-all (λ n. get u.reserves n ≢ None) chosen is.mine (all-mapped chosen (λ n there none. there (is.stays.used n none)) have.used) is.used);
    different = subst AllDifferent (sym is.list) more_different;
    kept = subst (λ ns. KeepsMore s u (λ c. claimed_in c (with_kinds ns (flat_map kinds_in (done ++ e ∷ []))) [])) (sym is.list) more_kept;
    stays = record { used = λ n none. have.stays.used n (is.stays.used n none); directories = λ n there. is.stays.directories n (have.stays.directories n there) };
  }

-- one number for one edit
module _ (s t : Committed) (b : Bool) (e : Edit) (old new : List ℕ) (count : 1 ≡ news e) (kinds : kinds_in e ≡ b ∷ []) (is : IsReserved b s t old new) where
  pub is_claimed : IsClaimed s t e old new
  is_claimed = record {
    mine = is.num ∷ [];
    list = is.list;
    count = count;
    unused = ((is.unused, is.nowhere), tt);
    used = (is.used, tt);
    different = (tt, tt);
    kept = λ c. (
        let more : reserved t c ≡ reserved s c + number_as b is.num c = is.kept c in
        let one : claimed_in c ((is.num, b) ∷ []) [] ≡ number_as b is.num c + claimed_in c [] [] = one_claimed c is.num b [] in
        let none : claimed_in c [] [] ≡ 0 = none_claimed c in
        let same : claimed_in c (with_kinds (is.num ∷ []) (kinds_in e)) [] ≡ claimed_in c ((is.num, b) ∷ []) [] = ap (λ bs. claimed_in c (with_kinds (is.num ∷ []) bs) []) kinds in omega arith);
    stays = is.stays;
  }

pub nothing_claimed : (s : Committed) (e : Edit) (ns : List ℕ) → 0 ≡ news e → IsClaimed s s e ns ns
nothing_claimed s e ns count = record {
  mine = [];
  list = sym (append_nil ns);
  count = count;
  unused = tt;
  used = tt;
  different = tt;
  kept = λ c. (let none : claimed_in c [] [] ≡ 0 = none_claimed c in omega arith);
  stays = record { used = λ n none. none; directories = λ n there. there };
}

-- what is not in use is claimed by none
unused_reserved : (s : Committed) (c : Claim) → get s.reserves (number_of c) ≡ None → reserved s c ≡ 0
unused_reserved s (Room d) none = ap (λ o. or_zero (room_of o)) none
unused_reserved s (New_directory n) none = ap coming_directory none
unused_reserved s (Number n) none = ap coming_other none

one_of : (P : ℕ → Type 0) (ns : List ℕ) (n : ℕ) → AllByRecursion P ns → is_in n ns ≡ true → P n
one_of P [] n all is = absurd cc
one_of P (m ∷ ns) n all is = by_test (n == m) refl (one_of P ns n all.1) is
  where
    by_test : (b : Bool) → (n == m) ≡ b → (is_in n ns ≡ true → P n) → (b || is_in n ns) ≡ true → P n
    by_test true same later is = subst P (sym (eqb-true n m same)) all.0
    by_test false other later is = later is

pub unused_numbers : (s t : Committed) (es : List Edit) (chosen : List ℕ) → HaveClaimed s t es chosen → AreUnused s es chosen
unused_numbers s t es chosen have = record {
  count = have.count;
  unused = λ c is. unused_reserved s c (one_of (λ n. (get s.reserves n ≡ None) × IsNowhere s.state n) chosen (number_of c) have.unused is).0;
  different = have.different;
  nowhere = all-mapped chosen (λ n h. h.1) have.unused;
}

-- new numbers are not those of directories that are there
module _ (reserves : FinMap nat_cmp Reserve) (chosen : List ℕ) (unused : AllByRecursion (λ n. get reserves n ≡ None) chosen) (different : AllDifferent chosen) where
  first_apart : (i d : ℕ) → i ≡ 0 → 1 ≤ length chosen → IsDirectory reserves d → new_in chosen i ≢ d
  first_apart i d none some there same = by_list chosen unused some (sym (ap (λ i. new_in chosen i) none) ∙ same)
    where
      by_list : (ns : List ℕ) → AllByRecursion (λ n. get reserves n ≡ None) ns → 1 ≤ length ns → new_in ns 0 ≡ d → ⊥
      by_list [] unused some same = absurd (omega arith)
      by_list (n ∷ ns) unused some same = there (ap room_of (ap (get reserves) (sym same) ∙ unused.0))

  one_apart : (e : Edit) → IsFirst e → HasParent reserves e → news e ≤ length chosen → AreApart chosen e
  one_apart (Make_directory d x i) first has few = first_apart i d first few has.0
  one_apart (Make_file d x i) first has few = first_apart i d first few has.0
  one_apart (Make_fixed d x fixed i) first has few = first_apart i d first few has.0
  one_apart (Make_pipe i pid f g) first has few = subst (λ j. new_in chosen (j + 1) ≢ new_in chosen (j + 2)) (sym first.0) (apart_at chosen 1 2 (omega arith) (let l : 3 ≤ length chosen = few in omega arith) different)
  one_apart _ first has few = tt

  last_apart : (m : ℕ) (e : Edit) → IsLast m e → AreApart chosen e
  last_apart m (Make_directory d x i) last = absurd last
  last_apart m (Make_file d x i) last = absurd last
  last_apart m (Make_fixed d x fixed i) last = absurd last
  last_apart m (Make_pipe i pid f g) last = absurd last
  last_apart m _ last = tt

  pub all_apart : (es : List Edit) → CanEdit es → HaveParents reserves es → length chosen ≡ sum_by news es → AllByRecursion (AreApart chosen) es
  all_apart [] can has count = tt
  all_apart (e ∷ []) (inl first) has count =
      let one : sum_by news (e ∷ []) ≡ news e + sum_by news [] = sum_by-cons news e [] in (one_apart e first has.0 (omega arith), tt)
  all_apart (e ∷ []) (inr last) has count = (last_apart 0 e last, tt)
  all_apart (e ∷ f ∷ []) can has count =
      let one : sum_by news (e ∷ f ∷ []) ≡ news e + sum_by news (f ∷ []) = sum_by-cons news e (f ∷ []) in
      (one_apart e can.0 has.0 (omega arith), (last_apart (news e) f can.2, tt))
  all_apart (e ∷ f ∷ g ∷ es) can has count = absurd can

pub apart_from : (s t : Committed) (es : List Edit) (chosen : List ℕ) → CanEdit es → HaveParents s.reserves es → HaveClaimed s t es chosen → AllByRecursion (AreApart chosen) es
apart_from s t es chosen can has have = all_apart s.reserves chosen (all-mapped chosen (λ n h. h.0) have.unused) have.different es can has have.count

-- the parents of edits are directories
pub parents_all : (reserves : FinMap nat_cmp Reserve) (es : List Edit) → HaveParents reserves es → AllByRecursion (IsDirectory reserves) (flat_map parents_in es)
parents_all reserves [] has = tt
parents_all reserves (e ∷ es) has = subst (AllByRecursion (IsDirectory reserves)) (sym (flat_map-cons parents_in e es)) (append-all (IsDirectory reserves) (parents_in e) (flat_map parents_in es) has.0 (parents_all reserves es has.1))

-- they can be given up again
pub may_release_claims : (s t : Committed) (es : List Edit) (chosen : List ℕ) → HaveClaimed s t es chosen → (bs : List Bool) × ((c : Claim) → claimed_in c (with_kinds chosen bs) (listed None) ≤ reserved t c)
may_release_claims s t es chosen have = (flat_map kinds_in es, λ c. (let more : reserved t c ≡ reserved s c + claimed_in c (with_kinds chosen (flat_map kinds_in es)) [] = have.kept c in omega arith))

-- So many of the edits have their numbers.
snoc_append : {X : Type 0} (xs : List X) (x : X) (ys : List X) → (xs ++ x ∷ []) ++ ys ≡ xs ++ x ∷ ys
snoc_append [] x ys = refl
snoc_append (y ∷ xs) x ys = ap (λ zs. y ∷ zs) (snoc_append xs x ys)

pub drop_all : {X : Type 0} (xs : List X) (i : ℕ) → length xs ≤ i → drop i xs ≡ []
drop_all [] zero high = refl
drop_all [] (suc i) high = refl
drop_all (x ∷ xs) zero high = absurd (omega arith)
drop_all (x ∷ xs) (suc i) high = drop_all xs i (omega arith)

inside_all : {X : Type 0} (P : X → Type 0) (xs : List X) (x : X) (ys : List X) → AllByRecursion P (xs ++ x ∷ ys) → P x
inside_all P [] x ys all = all.0
inside_all P (y ∷ xs) x ys all = inside_all P xs x ys all.1

pub record ClaimsOn (s t : Committed) (edits : List Edit) (i : ℕ) (chosen : List ℕ) : Type 0 where
  pub done : List Edit
  pub rest : done ++ drop i edits ≡ edits
  pub have : HaveClaimed s t done chosen

pub claims_start : (s : Committed) (edits : List Edit) → ClaimsOn s s edits 0 []
claims_start s edits = record { done = []; rest = refl; have = have_none s }

module _ (s t : Committed) (edits : List Edit) (i : ℕ) (chosen : List ℕ) (on : ClaimsOn s t edits i chosen) where
  pub claims_next : (u : Committed) (e : Edit) (new : List ℕ) → drop i edits ≡ e ∷ drop (i + 1) edits → IsClaimed t u e chosen new → u.state ≡ t.state → ClaimsOn s u edits (i + 1) new
  claims_next u e new next is state = record {
    done = on.done ++ e ∷ [];
    rest = snoc_append on.done e (drop (i + 1) edits) ∙ ap (λ ys. on.done ++ ys) (sym next) ∙ on.rest;
    have = have_more s t u on.done e chosen new on.have is state;
  }

  pub claims_end : length edits ≤ i → HaveClaimed s t edits chosen
  claims_end high = subst (λ es. HaveClaimed s t es chosen) (sym (append_nil on.done) ∙ ap (λ ys. on.done ++ ys) (sym (drop_all edits i high)) ∙ on.rest) on.have

-- where not all numbers could be had for an edit, those that are there may be given up, and then as much is kept as before
module _ (s t u : Committed) (done : List Edit) (chosen new : List ℕ) (have : HaveClaimed s t done chosen) (added : AreAdded t u chosen new) where
  in_all : (c : Claim) → claimed_in c (with_kinds new (flat_map kinds_in done ++ added.kinds)) [] ≡ claimed_in c (with_kinds chosen (flat_map kinds_in done)) [] + claimed_in c (with_kinds added.mine added.kinds) []
  in_all c = ap (λ ns. claimed_in c (with_kinds ns (flat_map kinds_in done ++ added.kinds)) []) added.list
      ∙ ap (λ ms. claimed_in c ms []) (kinds_appended chosen added.mine (flat_map kinds_in done) added.kinds (have.count ∙ sym (all_kinds_count done)))
      ∙ append_claimed c (with_kinds chosen (flat_map kinds_in done)) (with_kinds added.mine added.kinds)

  pub may_still_release_claims : (bs : List Bool) × ((c : Claim) → claimed_in c (with_kinds new bs) (listed None) ≤ reserved u c)
  may_still_release_claims = (
    flat_map kinds_in done ++ added.kinds,
    λ c. (
        let more : reserved t c ≡ reserved s c + claimed_in c (with_kinds chosen (flat_map kinds_in done)) [] = have.kept c in
        let later : reserved u c ≡ reserved t c + claimed_in c (with_kinds added.mine added.kinds) [] = added.kept c in
        let all : claimed_in c (with_kinds new (flat_map kinds_in done ++ added.kinds)) [] ≡ claimed_in c (with_kinds chosen (flat_map kinds_in done)) [] + claimed_in c (with_kinds added.mine added.kinds) [] = in_all c in omega arith),
  )

  pub same_kept : (v : Committed)
      → ((bs : List Bool) → ((c : Claim) → claimed_in c (with_kinds new bs) (listed None) ≤ reserved u c) → KeepsMore v u (λ c. claimed_in c (with_kinds new bs) (listed None)))
      → (c : Claim) → reserved v c ≡ reserved s c
  unfolding may_still_release_claims
  same_kept v back c =
      let less : reserved u c ≡ reserved v c + claimed_in c (with_kinds new (flat_map kinds_in done ++ added.kinds)) [] = back (flat_map kinds_in done ++ added.kinds) may_still_release_claims.1 c in
      let more : reserved t c ≡ reserved s c + claimed_in c (with_kinds chosen (flat_map kinds_in done)) [] = have.kept c in
      let later : reserved u c ≡ reserved t c + claimed_in c (with_kinds added.mine added.kinds) [] = added.kept c in
      let all : claimed_in c (with_kinds new (flat_map kinds_in done ++ added.kinds)) [] ≡ claimed_in c (with_kinds chosen (flat_map kinds_in done)) [] + claimed_in c (with_kinds added.mine added.kinds) [] = in_all c in omega arith

-- one number was added, or none
pub one_added : (b : Bool) (s t : Committed) (old new : List ℕ) → IsReserved b s t old new → AreAdded s t old new
one_added b s t old new is = record {
  mine = is.num ∷ [];
  kinds = b ∷ [];
  list = is.list;
  kept = λ c. (
      let more : reserved t c ≡ reserved s c + number_as b is.num c = is.kept c in
      let one : claimed_in c ((is.num, b) ∷ []) [] ≡ number_as b is.num c + claimed_in c [] [] = one_claimed c is.num b [] in
      let none : claimed_in c [] [] ≡ 0 = none_claimed c in omega arith);
}

pub none_added : (s t : Committed) (old new : List ℕ) → new ≡ old → KeepsSame s t → AreAdded s t old new
none_added s t old new is same = record {
  mine = [];
  kinds = [];
  list = is ∙ sym (append_nil old);
  kept = λ c. (let none : claimed_in c [] [] ≡ 0 = none_claimed c in let kept : reserved t c ≡ reserved s c = same c in omega arith);
}

pub more_added : (b : Bool) (s t u : Committed) (old mid new : List ℕ) → IsReserved b s t old mid → AreAdded t u mid new → AreAdded s u old new
more_added b s t u old mid new first later = record {
  mine = first.num ∷ later.mine;
  kinds = b ∷ later.kinds;
  list = later.list ∙ ap (λ ns. ns ++ later.mine) first.list ∙ snoc_append old first.num later.mine;
  kept = λ c. (
      let more : reserved t c ≡ reserved s c + number_as b first.num c = first.kept c in
      let rest : reserved u c ≡ reserved t c + claimed_in c (with_kinds later.mine later.kinds) [] = later.kept c in
      let one : claimed_in c ((first.num, b) ∷ with_kinds later.mine later.kinds) [] ≡ number_as b first.num c + claimed_in c (with_kinds later.mine later.kinds) [] = one_claimed c first.num b (with_kinds later.mine later.kinds) in omega arith);
}

-- a pipe's three numbers
pub three_claimed : (s t u v : Committed) (old one two new : List ℕ) (i pid f g : ℕ) → IsReserved false s t old one → IsReserved false t u one two → IsReserved false u v two new
    → t.state ≡ s.state → u.state ≡ t.state → IsClaimed s v (Make_pipe i pid f g) old new
three_claimed s t u v old one two new i pid f g a b c first second = record {
  mine = a.num ∷ b.num ∷ c.num ∷ [];
  list = c.list ∙ ap (λ ns. ns ++ c.num ∷ []) b.list ∙ snoc_append one b.num (c.num ∷ []) ∙ ap (λ ns. ns ++ b.num ∷ c.num ∷ []) a.list ∙ snoc_append old a.num (b.num ∷ c.num ∷ []);
  count = refl;
  unused = ((a.unused, a.nowhere), ((a.stays.used b.num b.unused, subst (λ k. IsNowhere k b.num) first b.nowhere), ((a.stays.used c.num (b.stays.used c.num c.unused), subst (λ k. IsNowhere k c.num) (second ∙ first) c.nowhere), tt)));
  used = ((λ none. a.used (b.stays.used a.num (c.stays.used a.num none))), ((λ none. b.used (c.stays.used b.num none)), (c.used, tt)));
  different = (
    ((λ same. a.used (ap (get t.reserves) same ∙ b.unused)), ((λ same. a.used (b.stays.used a.num (ap (get u.reserves) same ∙ c.unused))), tt)),
    (((λ same. b.used (ap (get u.reserves) same ∙ c.unused)), tt), (tt, tt)),
  );
  kept = λ claim. (
      let k1 : reserved t claim ≡ reserved s claim + number_as false a.num claim = a.kept claim in
      let k2 : reserved u claim ≡ reserved t claim + number_as false b.num claim = b.kept claim in
      let k3 : reserved v claim ≡ reserved u claim + number_as false c.num claim = c.kept claim in
      let m1 : claimed_in claim ((a.num, false) ∷ (b.num, false) ∷ (c.num, false) ∷ []) [] ≡ number_as false a.num claim + claimed_in claim ((b.num, false) ∷ (c.num, false) ∷ []) [] = one_claimed claim a.num false _ in
      let m2 : claimed_in claim ((b.num, false) ∷ (c.num, false) ∷ []) [] ≡ number_as false b.num claim + claimed_in claim ((c.num, false) ∷ []) [] = one_claimed claim b.num false _ in
      let m3 : claimed_in claim ((c.num, false) ∷ []) [] ≡ number_as false c.num claim + claimed_in claim [] [] = one_claimed claim c.num false [] in
      let none : claimed_in claim [] [] ≡ 0 = none_claimed claim in omega arith);
  stays = record { used = λ n none. a.stays.used n (b.stays.used n (c.stays.used n none)); directories = λ n there. c.stays.directories n (b.stays.directories n (a.stays.directories n there)) };
}

-- where a number could not be had, none was added, and as much is kept as before
pub err_added : {A E : Type 0} (r : Result A E) (s t : Committed) (old new : List ℕ) → OnErr r (new ≡ old) → OnErr r (KeepsSame s t) → OnErr r (AreAdded s t old new)
err_added (Ok x) s t old new is same = tt
err_added (Err e) s t old new is same = none_added s t old new is same

pub err_more : {A E : Type 0} (b : Bool) (r : Result A E) (s t u : Committed) (old mid new : List ℕ) → IsReserved b s t old mid → OnErr r (AreAdded t u mid new) → OnErr r (AreAdded s u old new)
err_more b (Ok x) s t u old mid new first later = tt
err_more b (Err e) s t u old mid new first later = more_added b s t u old mid new first later

-- one number for one edit, where it could be had
pub ok_claimed : {A E : Type 0} (r : Result A E) (s t : Committed) (b : Bool) (e : Edit) (old new : List ℕ) → 1 ≡ news e → kinds_in e ≡ b ∷ [] → OnOk r (IsReserved b s t old new) → OnOk r (IsClaimed s t e old new)
ok_claimed (Ok x) s t b e old new count kinds is = is_claimed s t b e old new count kinds is
ok_claimed (Err x) s t b e old new count kinds is = tt
