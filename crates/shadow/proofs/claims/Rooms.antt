-- Rooms of names that are promised, or given up again, one after the other.
use Rattle.std.proofs.Common.{◌≡◌, ℕ, ◌+◌, ◌<◌, ◌≤◌, Bool, List, [], ◌∷◌, ◌++◌, Option, Some, None, refl, sym, ap, subst, ◌∙◌, arith, eq-eqb, inl, inr}
use Rattle.std.proofs.lemmas.Bool.{cases_eq}
use Rattle.std.specs.List.{AllByRecursion, flat_map}
use Rattle.std.specs.Option.{option_and_then, option_map}
use Rattle.model.specs.FiniteMap.{get}
use Rattle.model.specs.Changes.{Edit}
use Rattle.freeing_laws.specs.Counts.{listed}
use Rattle.notes.specs.Log.{effect}
use Rattle.notes.specs.Steps.{parents_in}
use Rattle.call_laws.proofs.Laws.{not_none}
use Rattle.store.specs.Numbers.{Numbers}
use Rattle.store.specs.Places.{altered, changed_object, more_room, with_listing}
use Rattle.store.specs.declared.Object.{Object}
use Rattle.store.specs.declared.Object.TheVariants.{Directory as Kept_directory, File as Kept_file, Pipe as Kept_pipe, Fixed as Kept_fixed, Description as Kept_description, Nothing}
use Rattle.store.specs.declared.Place.{Place}
use Rattle.store.specs.declared.Stage.{Stage}
use Rattle.shadow.specs.Committed.{Committed}
use Rattle.shadow.specs.Stored.{Processes, committed_of, reserve_in}
use Rattle.shadow.proofs.shared.CommittedLemmas.{listed_in}
use Rattle.shadow.proofs.shared.PlaceLemmas.{get_chosen, place_altered, place_other}
use Rattle.shadow.proofs.claims.ClaimCounts.{IsListed, of_listed}
use Rattle.shadow.specs.Claims.{Claim, HaveClaimed, HaveParents, IsDirectory, KeepsMore, KeepsSame, New_directory, Number, Room, Stays, as_count, claimed_by, claimed_in, kinds_in, reserved, room_in, with_kinds}
use Rattle.shadow.proofs.claims.EditClaims.{claimed_append}
use Rattle.shadow.proofs.claims.NewNumbers.{none_claimed, parent_claimed, parents_all}
use Rattle.shadow.proofs.claims.ReleasedClaims.{AreKept, GivesNumbers, given_kept}

-- rooms stand beside numbers
pub rooms_apart : (c : Claim) (ms : List (ℕ × Bool)) (ps : List ℕ) → claimed_in c ms ps ≡ claimed_in c ms [] + claimed_in c [] ps
rooms_apart (Room r) ms ps =
    let none : claimed_in (Room r) ms [] ≡ 0 = refl in
    let same : claimed_in (Room r) ms ps ≡ claimed_in (Room r) [] ps = refl in omega arith
rooms_apart (New_directory n) ms ps =
    let none : claimed_in (New_directory n) [] ps ≡ 0 = refl in
    let same : claimed_in (New_directory n) ms ps ≡ claimed_in (New_directory n) ms [] = refl in omega arith
rooms_apart (Number n) ms ps =
    let none : claimed_in (Number n) [] ps ≡ 0 = refl in
    let same : claimed_in (Number n) ms ps ≡ claimed_in (Number n) ms [] = refl in omega arith

pub rooms_both : (c : Claim) (ps qs : List ℕ) → claimed_in c [] (ps ++ qs) ≡ claimed_in c [] ps + claimed_in c [] qs
rooms_both c ps qs = claimed_append c [] [] ps qs

pub one_room : (c : Claim) (d : ℕ) → claimed_in c [] (d ∷ []) ≡ room_in d c
one_room c d =
    let more : claimed_in c [] (d ∷ []) ≡ claimed_in c [] [] + room_in d c = parent_claimed c [] d in
    let none : claimed_in c [] [] ≡ 0 = none_claimed c in omega arith

-- what is in use stays so, and a directory stays one
more_listed : (o : Option Place) → IsListed o → IsListed (option_map (with_listing more_room) o)
more_listed None there = there
more_listed (Some place) there = by_object place.stage place.object there
  where
    by_object : (t : Stage) (object : Object) → IsListed (Some (record { stage = t; object = object }))
        → IsListed (Some (record { stage = t; object = changed_object more_room object }))
    by_object t (Kept_directory l) there = λ e. not_none _ e
    by_object t (Kept_file file) there = there
    by_object t (Kept_pipe pipe) there = there
    by_object t (Kept_fixed fixed) there = there
    by_object t (Kept_description opened) there = there
    by_object t Nothing there = there

unused_before : (o : Option Place) → option_and_then reserve_in (option_map (with_listing more_room) o) ≡ None → option_and_then reserve_in o ≡ None
unused_before None e = refl
unused_before (Some place) e = absurd (not_none _ e)

pub stays_promised : (ps : Processes) (s : Numbers) (v : Committed) → committed_of ps s ≡ v → (d : ℕ) → Stays v (committed_of ps (altered (with_listing more_room) s d))
stays_promised ps s v is d = record {
  used = λ q none. ap (λ (x : Committed). get x.reserves q) (sym is) ∙ get_chosen reserve_in s.places q
      ∙ was q (sym (get_chosen reserve_in (altered (with_listing more_room) s d).places q) ∙ none);
  directories = λ q there. of_listed ps (altered (with_listing more_room) s d) q (listed q (listed_in ps s v is q there));
}
  where
    was : (q : ℕ) → option_and_then reserve_in (get (altered (with_listing more_room) s d).places q) ≡ None → option_and_then reserve_in (get s.places q) ≡ None
    was q none = elim (cases_eq q d) [
      | inl here ↦ subst (λ n. option_and_then reserve_in (get s.places n) ≡ None) (sym here)
          (unused_before (get s.places d) (ap (option_and_then reserve_in) (sym (place_altered (with_listing more_room) s d))
          ∙ subst (λ n. option_and_then reserve_in (get (altered (with_listing more_room) s d).places n) ≡ None) here none))
      | inr away ↦ ap (option_and_then reserve_in) (sym (place_other (with_listing more_room) s d q away)) ∙ none
    ]

    listed : (q : ℕ) → IsListed (get s.places q) → IsListed (get (altered (with_listing more_room) s d).places q)
    listed q there = elim (cases_eq q d) [
      | inl here ↦ subst (λ n. IsListed (get (altered (with_listing more_room) s d).places n)) (sym here)
          (subst IsListed (sym (place_altered (with_listing more_room) s d))
          (more_listed (get s.places d) (subst (λ n. IsListed (get s.places n)) here there)))
      | inr away ↦ subst IsListed (sym (place_other (with_listing more_room) s d q away)) there
    ]

-- in one directory, if there is one
pub promised_one : (s t : Committed) (d : ℕ) (o : Option ℕ) → o ≡ Some d → KeepsMore s t (room_in d) → KeepsMore s t (λ c. claimed_in c [] (listed o))
promised_one s t d o is more =
    subst (λ (p : Option ℕ). KeepsMore s t (λ c. claimed_in c [] (listed p))) (sym is) (λ c. more c ∙ ap (λ m. reserved s c + m) (sym (one_room c d)))

pub promised_none : (s : Committed) (o : Option ℕ) → o ≡ None → KeepsMore s s (λ c. claimed_in c [] (listed o))
promised_none s o is =
    subst (λ (p : Option ℕ). KeepsMore s s (λ c. claimed_in c [] (listed p))) (sym is) (λ c. let none : claimed_in c [] [] ≡ 0 = none_claimed c in omega arith)

pub directory_is : (s : Committed) (d : ℕ) (o : Option ℕ) → o ≡ Some d → AllByRecursion (IsDirectory s.reserves) (listed o) → IsDirectory s.reserves d
directory_is s d o is all = (subst (λ (p : Option ℕ). AllByRecursion (IsDirectory s.reserves) (listed p)) is all).0

pub room_there : (s : Committed) (d : ℕ) (o : Option ℕ) → o ≡ Some d → ((c : Claim) → claimed_in c [] (listed o) ≤ reserved s c) → 0 < reserved s (Room d)
room_there s d o is kept =
    let there : claimed_in (Room d) [] (d ∷ []) ≤ reserved s (Room d) = subst (λ (p : Option ℕ). claimed_in (Room d) [] (listed p) ≤ reserved s (Room d)) is (kept (Room d)) in
    let one : claimed_in (Room d) [] (d ∷ []) ≡ room_in d (Room d) = one_room (Room d) d in
    let here : room_in d (Room d) ≡ 1 = ap as_count (eq-eqb d d refl) in omega arith

-- in two, one after the other
pub first_all : (P : ℕ → Type 0) (xs ys : List ℕ) → AllByRecursion P (xs ++ ys) → AllByRecursion P xs
first_all P [] ys all = tt
first_all P (x ∷ xs) ys all = (all.0, first_all P xs ys all.1)

pub last_all : (P : ℕ → Type 0) (xs ys : List ℕ) → AllByRecursion P (xs ++ ys) → AllByRecursion P ys
last_all P [] ys all = all
last_all P (x ∷ xs) ys all = last_all P xs ys all.1

pub all_stay : (s t : Committed) → Stays s t → (ds : List ℕ) → AllByRecursion (IsDirectory s.reserves) ds → AllByRecursion (IsDirectory t.reserves) ds
all_stay s t stays [] all = tt
all_stay s t stays (d ∷ ds) all = (stays.directories d all.0, all_stay s t stays ds all.1)

module _ (s m : Committed) (ps qs : List ℕ) (first : KeepsMore s m (λ c. claimed_in c [] ps)) where
  pub promised_both : (t : Committed) → KeepsMore m t (λ c. claimed_in c [] qs) → KeepsMore s t (λ c. claimed_in c [] (ps ++ qs))
  promised_both t more c =
      let one : reserved m c ≡ reserved s c + claimed_in c [] ps = first c in
      let two : reserved t c ≡ reserved m c + claimed_in c [] qs = more c in
      let both : claimed_in c [] (ps ++ qs) ≡ claimed_in c [] ps + claimed_in c [] qs = rooms_both c ps qs in omega arith

  pub may_give_up : (n : Committed) → n ≡ m → (c : Claim) → claimed_in c [] ps ≤ reserved n c
  may_give_up n same c =
      let one : reserved m c ≡ reserved s c + claimed_in c [] ps = first c in
      let alike : reserved n c ≡ reserved m c = ap (λ (v : Committed). reserved v c) same in omega arith

  pub given_up : (n t : Committed) → n ≡ m → KeepsMore t n (λ c. claimed_in c [] ps) → KeepsSame s t
  given_up n t same less c =
      let one : reserved m c ≡ reserved s c + claimed_in c [] ps = first c in
      let alike : reserved n c ≡ reserved m c = ap (λ (v : Committed). reserved v c) same in
      let back : reserved n c ≡ reserved t c + claimed_in c [] ps = less c in omega arith

-- the directories of a call's edits, and what is kept for it
pub parents_are : (s t : Committed) (es : List Edit) (ps : List ℕ) → Stays s t → ps ≡ flat_map parents_in es → HaveParents s.reserves es → AllByRecursion (IsDirectory t.reserves) ps
parents_are s t es ps stays is has = all_stay s t stays ps (subst (AllByRecursion (IsDirectory s.reserves)) (sym is) (parents_all s.reserves es has))

pub kept_rooms : (s t u : Committed) (es : List Edit) (chosen : List ℕ) (ps : List ℕ) → ps ≡ flat_map parents_in es → HaveClaimed s t es chosen → KeepsMore t u (λ c. claimed_in c [] ps) → KeepsMore s u (λ c. claimed_by c (effect chosen es))
kept_rooms s t u es chosen ps is have more c =
    let ms = with_kinds chosen (flat_map kinds_in es) in
    let first : reserved t c ≡ reserved s c + claimed_in c (with_kinds chosen (flat_map kinds_in es)) [] = have.kept c in
    let second : reserved u c ≡ reserved t c + claimed_in c [] ps = more c in
    let both : claimed_in c (with_kinds chosen (flat_map kinds_in es)) ps ≡ claimed_in c (with_kinds chosen (flat_map kinds_in es)) [] + claimed_in c [] ps = rooms_apart c (with_kinds chosen (flat_map kinds_in es)) ps in
    let sum : reserved u c ≡ reserved s c + claimed_in c (with_kinds chosen (flat_map kinds_in es)) ps = omega arith in
    sum ∙ ap (λ parents. reserved s c + claimed_in c ms parents) is

-- numbers and rooms that are given back
module _ (start now : Committed) (all : List ℕ) (ps qs : List ℕ) (gives : GivesNumbers start now all (ps ++ qs) []) where
  pub rooms_left : (bs : List Bool) × AreKept start all (ps ++ qs) bs → (c : Claim) → claimed_in c [] ps + claimed_in c [] qs ≤ reserved now c
  rooms_left some c =
      let all_of : reserved start c ≡ reserved now c + claimed_in c (with_kinds all some.0) [] = given_kept start now all (ps ++ qs) gives some.0 some.1 c in
      let there : claimed_in c (with_kinds all some.0) (ps ++ qs) ≤ reserved start c = some.1 c in
      let apart : claimed_in c (with_kinds all some.0) (ps ++ qs) ≡ claimed_in c (with_kinds all some.0) [] + claimed_in c [] (ps ++ qs) = rooms_apart c (with_kinds all some.0) (ps ++ qs) in
      let both : claimed_in c [] (ps ++ qs) ≡ claimed_in c [] ps + claimed_in c [] qs = rooms_both c ps qs in omega arith

  pub first_left : (bs : List Bool) × AreKept start all (ps ++ qs) bs → (c : Claim) → claimed_in c [] ps ≤ reserved now c
  first_left some c = let left : claimed_in c [] ps + claimed_in c [] qs ≤ reserved now c = rooms_left some c in omega arith

  module _ (mid : Committed) (less : KeepsMore mid now (λ c. claimed_in c [] ps)) where
    pub last_left : (bs : List Bool) × AreKept start all (ps ++ qs) bs → (c : Claim) → claimed_in c [] qs ≤ reserved mid c
    last_left some c =
        let left : claimed_in c [] ps + claimed_in c [] qs ≤ reserved now c = rooms_left some c in
        let one : reserved now c ≡ reserved mid c + claimed_in c [] ps = less c in omega arith

    pub given_with_rooms : (after : Committed) → KeepsMore after mid (λ c. claimed_in c [] qs) → (bs : List Bool) → AreKept start all (ps ++ qs) bs → KeepsMore after start (λ c. claimed_in c (with_kinds all bs) (ps ++ qs))
    given_with_rooms after more bs are c =
        let all_of : reserved start c ≡ reserved now c + claimed_in c (with_kinds all bs) [] = given_kept start now all (ps ++ qs) gives bs are c in
        let one : reserved now c ≡ reserved mid c + claimed_in c [] ps = less c in
        let two : reserved mid c ≡ reserved after c + claimed_in c [] qs = more c in
        let apart : claimed_in c (with_kinds all bs) (ps ++ qs) ≡ claimed_in c (with_kinds all bs) [] + claimed_in c [] (ps ++ qs) = rooms_apart c (with_kinds all bs) (ps ++ qs) in
        let both : claimed_in c [] (ps ++ qs) ≡ claimed_in c [] ps + claimed_in c [] qs = rooms_both c ps qs in omega arith
