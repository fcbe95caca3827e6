-- How often a store meets a claim, and how its changes change that.
use Rattle.std.proofs.Common.{◌≡◌, ◌≢◌, ℕ, ◌+◌, ◌<◌, ◌≤◌, Bool, true, false, ◌&&◌, cond, not, Option, Some, None, is_some, refl, sym, ap, ◌∙◌, arith, eq-eqb, ne_eqb, ltb-false, inl, inr}
use Rattle.std.specs.Option.{option_map, option_and_then}
use Rattle.std.proofs.lemmas.Bool.{cases_eq}
use Rattle.std.specs.Ordering.{nat_cmp}
use Rattle.model.specs.FiniteMap.{empty, get, get-empty, insert, remove}
use Rattle.model.proofs.Laws.{get_same, get_other, removed_same, removed_other}
use Rattle.dirlist.specs.Listing.{Listing}
use Rattle.store.specs.Numbers.{IsFirstRoot, Numbers, coming, no_names, present}
use Rattle.store.specs.Places.{altered, hidden, is_over, is_over_by, has_room, listing_of, changed_object, with_listing, more_room, swept}
use Rattle.store.specs.declared.Place.{Place}
use Rattle.store.specs.declared.Stage.{Stage}
use Rattle.store.specs.declared.Stage.TheVariants.{Coming, Held, Removed}
use Rattle.store.specs.declared.Object.{Object}
use Rattle.store.specs.declared.Object.TheVariants.{Directory as Kept_directory, File as Kept_file, Pipe as Kept_pipe, Fixed as Kept_fixed, Description as Kept_description, Nothing}
use Rattle.shadow.specs.Claims.{Claim, Room, New_directory, Number, number_of, reserved, IsDirectory, room_in, number_as, new_number, or_zero, room_of, coming_directory, coming_other, as_count}
use Rattle.shadow.specs.Stored.{IsBare, Processes, committed_of, reserve_in}
use Rattle.shadow.proofs.shared.PlaceLemmas.{get_chosen, place_altered, place_other, without_place}

-- how often a claim on a number is met by what the number is used for
abbrev pub at_place : Claim → Option Place → ℕ
at_place (Room d) o = or_zero (room_of (option_and_then reserve_in o))
at_place (New_directory n) o = coming_directory (option_and_then reserve_in o)
at_place (Number n) o = coming_other (option_and_then reserve_in o)

abbrev pub met : Numbers → Claim → ℕ
met s c = at_place c (get s.places (number_of c))

pub met_is : (ps : Processes) (s : Numbers) (c : Claim) → reserved (committed_of ps s) c ≡ met s c
met_is ps s (Room d) = ap (λ o. or_zero (room_of o)) (get_chosen reserve_in s.places d)
met_is ps s (New_directory n) = ap coming_directory (get_chosen reserve_in s.places n)
met_is ps s (Number n) = ap coming_other (get_chosen reserve_in s.places n)

-- claims on other numbers
pub no_room_in : (d : ℕ) (c : Claim) → number_of c ≢ d → room_in d c ≡ 0
no_room_in d (Room r) away = ap as_count (ne_eqb d r (λ e. away (sym e)))
no_room_in d (New_directory m) away = refl
no_room_in d (Number m) away = refl

pub no_number_as : (b : Bool) (n : ℕ) (c : Claim) → number_of c ≢ n → number_as b n c ≡ 0
no_number_as b n (Room r) away = refl
no_number_as b n (New_directory m) away = ap (λ t. as_count (t && b)) (ne_eqb n m (λ e. away (sym e)))
no_number_as b n (Number m) away = ap (λ t. as_count (t && not b)) (ne_eqb n m (λ e. away (sym e)))

-- and on this one
pub room_here : (d r : ℕ) → r ≡ d → room_in d (Room r) ≡ 1
room_here d r same = ap as_count (eq-eqb d r (sym same))

directory_here : (b : Bool) (n m : ℕ) → m ≡ n → number_as b n (New_directory m) ≡ as_count b
directory_here b n m same = ap (λ t. as_count (t && b)) (eq-eqb n m (sym same))

other_here : (b : Bool) (n m : ℕ) → m ≡ n → number_as b n (Number m) ≡ as_count (not b)
other_here b n m same = ap (λ t. as_count (t && not b)) (eq-eqb n m (sym same))

pub number_counts : (b : Bool) (n : ℕ) → number_as b n (new_number b n) ≡ 1
number_counts true n = directory_here true n n refl
number_counts false n = other_here false n n refl

-- a change of one place, for claims on its number and on others
module _ (f : Place → Place) (s : Numbers) (n : ℕ) (c : Claim) where
  here : number_of c ≡ n → met (altered f s n) c ≡ at_place c (option_map f (get s.places n))
  here same = ap (λ m. at_place c (get (altered f s n).places m)) same ∙ ap (at_place c) (place_altered f s n)

  was : number_of c ≡ n → met s c ≡ at_place c (get s.places n)
  was same = ap (λ m. at_place c (get s.places m)) same

  pub met_other : number_of c ≢ n → met (altered f s n) c ≡ met s c
  met_other away = ap (at_place c) (place_other f s n (number_of c) away)

  pub altered_less : (less : ℕ) → (number_of c ≢ n → less ≡ 0) → (number_of c ≡ n → at_place c (option_map f (get s.places n)) + less ≡ at_place c (get s.places n)) → met (altered f s n) c + less ≡ met s c
  altered_less less none one = elim (cases_eq (number_of c) n) [
    | inl same ↦ ap (λ t. t + less) (here same) ∙ one same ∙ sym (was same)
    | inr away ↦ (let zero : less ≡ 0 = none away in let other : met (altered f s n) c ≡ met s c = met_other away in omega arith)
  ]

  pub altered_more : (more : ℕ) → (number_of c ≢ n → more ≡ 0) → (number_of c ≡ n → at_place c (option_map f (get s.places n)) ≡ at_place c (get s.places n) + more) → met (altered f s n) c ≡ met s c + more
  altered_more more none one = elim (cases_eq (number_of c) n) [
    | inl same ↦ here same ∙ one same ∙ ap (λ t. t + more) (sym (was same))
    | inr away ↦ (let zero : more ≡ 0 = none away in let other : met (altered f s n) c ≡ met s c = met_other away in omega arith)
  ]

-- a number of a directory
abbrev pub IsListed : Option Place → Type 0
IsListed o = room_of (option_and_then reserve_in o) ≢ None

-- one promise more
pub gives_one : (s : Numbers) (d : ℕ) → IsListed (get s.places d) → (c : Claim) → met (altered (with_listing more_room) s d) c ≡ met s c + room_in d c
gives_one s d there c = altered_more (with_listing more_room) s d c (room_in d c) (no_room_in d c) (λ same. by_place (get s.places d) there c same)
  where
    by_object : (t : Stage) (object : Object) → IsListed (Some (record { stage = t; object = object })) → (c : Claim) → number_of c ≡ d
        → at_place c (Some (record { stage = t; object = changed_object more_room object })) ≡ at_place c (Some (record { stage = t; object = object })) + room_in d c
    by_object t (Kept_directory l) there (Room r) same = let one : room_in d (Room r) ≡ 1 = room_here d r same in omega arith
    by_object t (Kept_directory l) there (New_directory m) same = omega arith
    by_object t (Kept_directory l) there (Number m) same = omega arith
    by_object t (Kept_file file) there c same = absurd (there refl)
    by_object t (Kept_pipe pipe) there c same = absurd (there refl)
    by_object t (Kept_fixed fixed) there c same = absurd (there refl)
    by_object t (Kept_description opened) there c same = absurd (there refl)
    by_object t Nothing there c same = absurd (there refl)

    by_place : (o : Option Place) → IsListed o → (c : Claim) → number_of c ≡ d → at_place c (option_map (with_listing more_room) o) ≡ at_place c o + room_in d c
    by_place None there c same = absurd (there refl)
    by_place (Some place) there c same = by_object place.stage place.object there c same

-- a change of a listing that takes one promise
pub takes_one : (f : Listing → Listing) → ((l : Listing) → 0 < l.promised → (f l).promised + 1 ≡ l.promised) → (s : Numbers) (d : ℕ) → 0 < met s (Room d) → (c : Claim)
    → met (altered (with_listing f) s d) c + room_in d c ≡ met s c
takes_one f low s d some c = altered_less (with_listing f) s d c (room_in d c) (no_room_in d c) (λ same. by_place (get s.places d) some c same)
  where
    by_object : (t : Stage) (object : Object) → 0 < at_place (Room d) (Some (record { stage = t; object = object })) → (c : Claim) → number_of c ≡ d
        → at_place c (Some (record { stage = t; object = changed_object f object })) + room_in d c ≡ at_place c (Some (record { stage = t; object = object }))
    by_object t (Kept_directory l) some (Room r) same =
        let one : room_in d (Room r) ≡ 1 = room_here d r same in
        let less : (f l).promised + 1 ≡ l.promised = low l some in omega arith
    by_object t (Kept_directory l) some (New_directory m) same = omega arith
    by_object t (Kept_directory l) some (Number m) same = omega arith
    by_object t (Kept_file file) some c same = absurd (omega arith)
    by_object t (Kept_pipe pipe) some c same = absurd (omega arith)
    by_object t (Kept_fixed fixed) some c same = absurd (omega arith)
    by_object t (Kept_description opened) some c same = absurd (omega arith)
    by_object t Nothing some c same = absurd (omega arith)

    by_place : (o : Option Place) → 0 < at_place (Room d) o → (c : Claim) → number_of c ≡ d → at_place c (option_map (with_listing f) o) + room_in d c ≡ at_place c o
    by_place None some c same = absurd (omega arith)
    by_place (Some place) some c same = by_object place.stage place.object some c same

-- a number that was to come is removed
abbrev pub IsAwaited : Bool → ℕ → Option Place → Type 0
IsAwaited b n o = 0 < at_place (new_number b n) o

pub hides_coming : (b : Bool) (s : Numbers) (n : ℕ) → IsAwaited b n (get s.places n) → (c : Claim) → met (altered hidden s n) c + number_as b n c ≡ met s c
hides_coming b s n some c = altered_less hidden s n c (number_as b n c) (no_number_as b n c) (λ same. by_place (get s.places n) b some c same)
  where
    by_object : (object : Object) (b : Bool) → IsAwaited b n (Some (coming object)) → (c : Claim) → number_of c ≡ n → at_place c (Some (hidden (coming object))) + number_as b n c ≡ at_place c (Some (coming object))
    by_object (Kept_directory l) true some (Room r) same = omega arith
    by_object (Kept_directory l) true some (New_directory m) same = let one : number_as true n (New_directory m) ≡ 1 = directory_here true n m same in omega arith
    by_object (Kept_directory l) true some (Number m) same = let one : number_as true n (Number m) ≡ 0 = other_here true n m same in omega arith
    by_object (Kept_directory l) false some c same = absurd (omega arith)
    by_object (Kept_file file) true some c same = absurd (omega arith)
    by_object (Kept_pipe pipe) true some c same = absurd (omega arith)
    by_object (Kept_fixed fixed) true some c same = absurd (omega arith)
    by_object (Kept_description opened) true some c same = absurd (omega arith)
    by_object Nothing true some c same = absurd (omega arith)
    by_object (Kept_file file) false some (Room r) same = omega arith
    by_object (Kept_pipe pipe) false some (Room r) same = omega arith
    by_object (Kept_fixed fixed) false some (Room r) same = omega arith
    by_object (Kept_file file) false some (New_directory m) same = let one : number_as false n (New_directory m) ≡ 0 = directory_here false n m same in omega arith
    by_object (Kept_pipe pipe) false some (New_directory m) same = let one : number_as false n (New_directory m) ≡ 0 = directory_here false n m same in omega arith
    by_object (Kept_fixed fixed) false some (New_directory m) same = let one : number_as false n (New_directory m) ≡ 0 = directory_here false n m same in omega arith
    by_object (Kept_file file) false some (Number m) same = let one : number_as false n (Number m) ≡ 1 = other_here false n m same in omega arith
    by_object (Kept_pipe pipe) false some (Number m) same = let one : number_as false n (Number m) ≡ 1 = other_here false n m same in omega arith
    by_object (Kept_fixed fixed) false some (Number m) same = let one : number_as false n (Number m) ≡ 1 = other_here false n m same in omega arith
    by_object (Kept_description opened) false some (Room r) same = omega arith
    by_object (Kept_description opened) false some (New_directory m) same = let one : number_as false n (New_directory m) ≡ 0 = directory_here false n m same in omega arith
    by_object (Kept_description opened) false some (Number m) same = let one : number_as false n (Number m) ≡ 1 = other_here false n m same in omega arith
    by_object Nothing false some (Room r) same = omega arith
    by_object Nothing false some (New_directory m) same = let one : number_as false n (New_directory m) ≡ 0 = directory_here false n m same in omega arith
    by_object Nothing false some (Number m) same = let one : number_as false n (Number m) ≡ 1 = other_here false n m same in omega arith

    by_stage : (t : Stage) (object : Object) (b : Bool) → IsAwaited b n (Some (record { stage = t; object = object })) → (c : Claim) → number_of c ≡ n
        → at_place c (Some (record { stage = Removed; object = object })) + number_as b n c ≡ at_place c (Some (record { stage = t; object = object }))
    by_stage Coming object b some c same = by_object object b some c same
    by_stage Held object true some c same = absurd (omega arith)
    by_stage Held object false some c same = absurd (omega arith)
    by_stage Removed object true some c same = absurd (omega arith)
    by_stage Removed object false some c same = absurd (omega arith)

    by_place : (o : Option Place) (b : Bool) → IsAwaited b n o → (c : Claim) → number_of c ≡ n → at_place c (option_map hidden o) + number_as b n c ≡ at_place c o
    by_place None true some c same = absurd (omega arith)
    by_place None false some c same = absurd (omega arith)
    by_place (Some place) b some c same = by_stage place.stage place.object b some c same

-- a sweep takes nothing that is claimed
no_room : (object : Object) → has_room (listing_of object) ≡ false → at_place (Room 0) (Some (record { stage = Removed; object = object })) ≡ 0
no_room (Kept_directory l) e = let low : l.promised ≤ 0 = ltb-false 0 l.promised e in omega arith
no_room (Kept_file file) e = refl
no_room (Kept_pipe pipe) e = refl
no_room (Kept_fixed fixed) e = refl
no_room (Kept_description opened) e = refl
no_room Nothing e = refl

not_true : (b : Bool) → not b ≡ true → b ≡ false
not_true false e = refl
not_true true e = absurd cc

over_meets_none : (o : Option Place) (c : Claim) → is_over o ≡ true → at_place c o ≡ 0
over_meets_none None (Room r) over = refl
over_meets_none None (New_directory m) over = refl
over_meets_none None (Number m) over = refl
over_meets_none (Some place) c over = by_stage place.stage place.object c over
  where
    by_stage : (t : Stage) (object : Object) (c : Claim) → is_over_by t (has_room (listing_of object)) ≡ true → at_place c (Some (record { stage = t; object = object })) ≡ 0
    by_stage Coming object c over = absurd cc
    by_stage Held object c over = absurd cc
    by_stage Removed object (Room r) over = no_room object (not_true (has_room (listing_of object)) over)
    by_stage Removed object (New_directory m) over = refl
    by_stage Removed object (Number m) over = refl

none_meets_none : (c : Claim) → at_place c None ≡ 0
none_meets_none (Room r) = refl
none_meets_none (New_directory m) = refl
none_meets_none (Number m) = refl

pub met_swept : (s : Numbers) (n : ℕ) (c : Claim) → met (swept s n) c ≡ met s c
met_swept s n c = by_test (is_over (get s.places n)) refl
  where
    by_test : (b : Bool) → is_over (get s.places n) ≡ b → met (cond b (without_place s n) s) c ≡ met s c
    by_test false e = refl
    by_test true e = elim (cases_eq (number_of c) n) [
      | inl same ↦ ap (λ m. at_place c (get (remove s.places n) m)) same ∙ ap (at_place c) (removed_same s.places n) ∙ none_meets_none c
          ∙ sym (over_meets_none (get s.places n) c e) ∙ sym (ap (λ m. at_place c (get s.places m)) same)
      | inr away ↦ ap (at_place c) (removed_other s.places n (number_of c) away)
    ]

abbrev pub with_place : Numbers → ℕ → Place → Numbers
with_place s n place = record s { places = insert s.places n place }

-- claims on a reserved number are met
pub reserves : (s : Numbers) (n : ℕ) (object : Object) → get s.places n ≡ None → IsBare object → (c : Claim) → met (with_place s n (coming object)) c ≡ met s c + number_as (is_some (listing_of object)) n c
reserves s n object none bare c = elim (cases_eq (number_of c) n) [
  | inl same ↦ ap (λ m. at_place c (get (with_place s n (coming object)).places m)) same ∙ ap (at_place c) (get_same s.places n (coming object)) ∙ by_claim object bare c same
      ∙ ap (λ t. t + number_as (is_some (listing_of object)) n c) (sym (ap (λ m. at_place c (get s.places m)) same ∙ ap (at_place c) none ∙ none_meets_none c))
  | inr away ↦ (
      let more : number_as (is_some (listing_of object)) n c ≡ 0 = no_number_as (is_some (listing_of object)) n c away in
      let other : met (with_place s n (coming object)) c ≡ met s c = ap (at_place c) (get_other s.places n (number_of c) _ away) in omega arith)
]
  where
    by_claim : (object : Object) → IsBare object → (c : Claim) → number_of c ≡ n → at_place c (Some (coming object)) ≡ 0 + number_as (is_some (listing_of object)) n c
    by_claim (Kept_directory l) bare (Room r) same = let none : l.promised ≡ 0 = bare.1 in omega arith
    by_claim (Kept_directory l) bare (New_directory m) same = let one : number_as true n (New_directory m) ≡ 1 = directory_here true n m same in omega arith
    by_claim (Kept_directory l) bare (Number m) same = let one : number_as true n (Number m) ≡ 0 = other_here true n m same in omega arith
    by_claim Nothing bare (Room r) same = refl
    by_claim Nothing bare (New_directory m) same = let one : number_as false n (New_directory m) ≡ 0 = directory_here false n m same in omega arith
    by_claim Nothing bare (Number m) same = let one : number_as false n (Number m) ≡ 1 = other_here false n m same in omega arith
    by_claim (Kept_file file) bare c same = absurd bare
    by_claim (Kept_pipe pipe) bare c same = absurd bare
    by_claim (Kept_fixed fixed) bare c same = absurd bare
    by_claim (Kept_description opened) bare c same = absurd bare

-- the first store keeps nothing
pub first_met : (s : Numbers) → IsFirstRoot s → (c : Claim) → met s c ≡ 0
first_met s first c = elim (cases_eq (number_of c) s.root) [
  | inl same ↦ ap (λ m. at_place c (get m (number_of c))) first ∙ ap (λ n. at_place c (get (insert (empty {R = nat_cmp}) s.root (present (Kept_directory no_names))) n)) same
      ∙ ap (at_place c) (get_same empty s.root (present (Kept_directory no_names))) ∙ by_claim c
  | inr away ↦ ap (λ m. at_place c (get m (number_of c))) first ∙ ap (at_place c) (get_other empty s.root (number_of c) _ away ∙ get-empty nat_cmp (number_of c)) ∙ none_meets_none c
]
  where
    by_claim : (c : Claim) → at_place c (Some (present (Kept_directory no_names))) ≡ 0
    by_claim (Room r) = refl
    by_claim (New_directory m) = refl
    by_claim (Number m) = refl

-- a number of a directory, by its place
pub listed_of : (ps : Processes) (s : Numbers) (n : ℕ) → IsDirectory (committed_of ps s).reserves n → IsListed (get s.places n)
listed_of ps s n there none = there (ap room_of (get_chosen reserve_in s.places n) ∙ none)

pub of_listed : (ps : Processes) (s : Numbers) (n : ℕ) → IsListed (get s.places n) → IsDirectory (committed_of ps s).reserves n
of_listed ps s n there none = there (sym (ap room_of (get_chosen reserve_in s.places n)) ∙ none)

pub stays_listed : (s : Numbers) (q n : ℕ) (object : Object) → get s.places n ≡ None → IsListed (get s.places q) → IsListed (get (with_place s n (coming object)).places q)
stays_listed s q n object unused there none = elim (cases_eq q n) [
  | inl here ↦ there (ap (λ o. room_of (option_and_then reserve_in o)) (ap (get s.places) here ∙ unused))
  | inr away ↦ there (ap (λ o. room_of (option_and_then reserve_in o)) (sym (get_other s.places n q (coming object) away)) ∙ none)
]
