-- What a removed object leaves: the other places, what is staged, and what is kept for transactions.
use Rattle.std.proofs.Common.{◌≡◌, ◌≢◌, ℕ, ◌≤◌, Bool, true, false, cond, not, Option, Some, None, refl, sym, ap, subst, ◌∙◌, arith, ltb-false, inl, inr}
use Rattle.std.specs.Option.{option_map, option_and_then}
use Rattle.std.proofs.lemmas.Bool.{cases_eq}
use Rattle.model.specs.FiniteMap.{get}
use Rattle.store.specs.Numbers.{Numbers, held, if_held, object_at}
use Rattle.store.specs.Places.{altered, changed_file, changed_opened, hidden, has_room, is_coming, is_coming_by, is_over, is_over_by, listing_of, lost, unset, with_file, with_opened}
use Rattle.store.specs.Shown.{inodes, inode_of, descriptions, description_of}
use Rattle.store.specs.declared.OpenFile.{OpenFile}
use Rattle.store.specs.declared.Opened.{Opened}
use Rattle.store.specs.declared.Place.{Place}
use Rattle.store.specs.declared.Stage.{Stage}
use Rattle.store.specs.declared.Stage.TheVariants.{Coming, Held, Removed}
use Rattle.store.specs.declared.Object.{Object}
use Rattle.store.specs.declared.Object.TheVariants.{Directory as Kept_directory, File as Kept_file, Pipe as Kept_pipe, Fixed as Kept_fixed, Description as Kept_description, Nothing}
use Rattle.store.proofs.Laws.{get-chosen, get-inodes, get-descriptions, left-altered, place-altered, place-other, place-over, place-swept-other, swept-stays, without_place}
use Rattle.shadow.specs.Claims.{Claim, Room, New_directory, Number, number_of, or_zero, room_of, coming_directory, coming_other}
use Rattle.shadow.specs.Laid.{kept_in}
use Rattle.shadow.specs.Stored.{FitsStage, IsStaged, reserve_in}

not_false : (b : Bool) → not b ≡ false → b ≡ true
not_false true e = refl
not_false false e = absurd cc

not_true : (b : Bool) → not b ≡ true → b ≡ false
not_true false e = refl
not_true true e = absurd cc

-- a removed object leaves the other places
pub lost_other : (s : Numbers) (n q : ℕ) → q ≢ n → get (lost s n).places q ≡ get s.places q
lost_other s n q away = place-swept-other (altered hidden (unset s n) n) n q away ∙ place-other hidden (unset s n) n q away

pub lost_root : (s : Numbers) (n : ℕ) → (lost s n).root ≡ s.root
lost_root s n = by_test (is_over (get (altered hidden (unset s n) n).places n))
  where
    by_test : (b : Bool) → (cond b (without_place (altered hidden (unset s n) n) n) (altered hidden (unset s n) n)).root ≡ s.root
    by_test true = refl
    by_test false = refl

held_hidden : (o : Option Place) → held (option_map hidden o) ≡ None
held_hidden None = refl
held_hidden (Some place) = refl

-- it is shown no more
pub lost_here : (s : Numbers) (n : ℕ) → object_at (lost s n) n ≡ None
lost_here s n = by_test (is_over (get (altered hidden (unset s n) n).places n)) refl
  where
    by_test : (b : Bool) → is_over (get (altered hidden (unset s n) n).places n) ≡ b → object_at (lost s n) n ≡ None
    by_test true over = ap held (place-over (altered hidden (unset s n) n) n over)
    by_test false left = ap (λ (t : Numbers). object_at t n) (swept-stays (altered hidden (unset s n) n) n left) ∙ ap held (place-altered hidden (unset s n) n) ∙ held_hidden (get s.places n)

pub lost_before : (s : Numbers) (n q : ℕ) (object : Object) → object_at (lost s n) q ≡ Some object → object_at s q ≡ Some object
lost_before s n q object is = elim (cases_eq q n) [
  | inl same ↦ absurd (none_some (sym (ap (object_at (lost s n)) same ∙ lost_here s n) ∙ is))
  | inr away ↦ sym (ap held (lost_other s n q away)) ∙ is
]
  where
    none_some : None ≡ Some object → ⊥
    none_some e = cc

-- what is removed and stays has room
hidden_staged : (o : Option Place) → is_over (option_map hidden o) ≡ false → IsStaged (option_map hidden o)
hidden_staged None left = tt
hidden_staged (Some place) left = not_false (has_room (listing_of place.object)) left

pub lost_staged : (s : Numbers) (n : ℕ) → ((m : ℕ) → IsStaged (get s.places m)) → (m : ℕ) → IsStaged (get (lost s n).places m)
lost_staged s n staged m = elim (cases_eq m n) [
  | inl same ↦ subst (λ m. IsStaged (get (lost s n).places m)) (sym same) (by_test (is_over (get (altered hidden (unset s n) n).places n)) refl)
  | inr away ↦ subst IsStaged (sym (lost_other s n m away)) (staged m)
]
  where
    by_test : (b : Bool) → is_over (get (altered hidden (unset s n) n).places n) ≡ b → IsStaged (get (lost s n).places n)
    by_test true over = subst IsStaged (sym (place-over (altered hidden (unset s n) n) n over)) tt
    by_test false left = subst (λ (t : Numbers). IsStaged (get t.places n)) (sym (swept-stays (altered hidden (unset s n) n) n left))
        (subst IsStaged (sym (place-altered hidden (unset s n) n)) (hidden_staged (get s.places n) (sym (ap is_over (place-altered hidden (unset s n) n)) ∙ left)))

-- how often a place meets a claim on its number
abbrev pub kept_by : Claim → Option Place → ℕ
kept_by (Room d) o = or_zero (room_of (option_and_then reserve_in o))
kept_by (New_directory n) o = coming_directory (option_and_then reserve_in o)
kept_by (Number n) o = coming_other (option_and_then reserve_in o)

pub kept_is : (s : Numbers) (c : Claim) → kept_in s c ≡ kept_by c (get s.places (number_of c))
kept_is s (Room d) = ap (λ o. or_zero (room_of o)) (get-chosen reserve_in s.places d)
kept_is s (New_directory n) = ap coming_directory (get-chosen reserve_in s.places n)
kept_is s (Number n) = ap coming_other (get-chosen reserve_in s.places n)

pub kept_alike : (s t : Numbers) → ((n : ℕ) (c : Claim) → kept_by c (get t.places n) ≡ kept_by c (get s.places n)) → (c : Claim) → kept_in t c ≡ kept_in s c
kept_alike s t same c = kept_is t c ∙ same (number_of c) c ∙ sym (kept_is s c)

no_place : (c : Claim) → kept_by c None ≡ 0
no_place (Room r) = refl
no_place (New_directory m) = refl
no_place (Number m) = refl

no_room : (object : Object) → has_room (listing_of object) ≡ false → kept_by (Room 0) (Some (record { stage = Removed; object = object })) ≡ 0
no_room (Kept_directory l) e = let low : l.promised ≤ 0 = ltb-false 0 l.promised e in omega arith
no_room (Kept_file file) e = refl
no_room (Kept_pipe pipe) e = refl
no_room (Kept_fixed fixed) e = refl
no_room (Kept_description opened) e = refl
no_room Nothing e = refl

over_keeps_none : (o : Option Place) (c : Claim) → is_over o ≡ true → kept_by c o ≡ 0
over_keeps_none None c over = no_place c
over_keeps_none (Some place) c over = by_stage place.stage place.object c over
  where
    by_stage : (t : Stage) (object : Object) (c : Claim) → is_over_by t (has_room (listing_of object)) ≡ true → kept_by c (Some (record { stage = t; object = object })) ≡ 0
    by_stage Coming object c over = absurd cc
    by_stage Held object c over = absurd cc
    by_stage Removed object (Room r) over = no_room object (not_true (has_room (listing_of object)) over)
    by_stage Removed object (New_directory m) over = refl
    by_stage Removed object (Number m) over = refl

hidden_keeps : (o : Option Place) (c : Claim) → is_coming o ≡ false → kept_by c (option_map hidden o) ≡ kept_by c o
hidden_keeps None c settled = refl
hidden_keeps (Some place) c settled = by_stage place.stage place.object c settled
  where
    by_stage : (t : Stage) (object : Object) (c : Claim) → is_coming_by t ≡ false → kept_by c (Some (record { stage = Removed; object = object })) ≡ kept_by c (Some (record { stage = t; object = object }))
    by_stage Coming object c settled = absurd cc
    by_stage Held object (Room r) settled = refl
    by_stage Held object (New_directory m) settled = refl
    by_stage Held object (Number m) settled = refl
    by_stage Removed object (Room r) settled = refl
    by_stage Removed object (New_directory m) settled = refl
    by_stage Removed object (Number m) settled = refl

-- what is not to come is removed with what is kept left as it is
pub lost_keeps : (s : Numbers) (n : ℕ) → is_coming (get s.places n) ≡ false → (c : Claim) → kept_in (lost s n) c ≡ kept_in s c
lost_keeps s n settled = kept_alike s (lost s n) each
  where
    by_test : (c : Claim) (b : Bool) → is_over (get (altered hidden (unset s n) n).places n) ≡ b → kept_by c (get (lost s n).places n) ≡ kept_by c (get (altered hidden (unset s n) n).places n)
    by_test c true over = ap (kept_by c) (place-over (altered hidden (unset s n) n) n over) ∙ no_place c ∙ sym (over_keeps_none (get (altered hidden (unset s n) n).places n) c over)
    by_test c false left = ap (λ (t : Numbers). kept_by c (get t.places n)) (swept-stays (altered hidden (unset s n) n) n left)

    each : (m : ℕ) (c : Claim) → kept_by c (get (lost s n).places m) ≡ kept_by c (get s.places m)
    each m c = elim (cases_eq m n) [
      | inl same ↦ ap (λ m. kept_by c (get (lost s n).places m)) same ∙ by_test c (is_over (get (altered hidden (unset s n) n).places n)) refl
          ∙ ap (kept_by c) (place-altered hidden (unset s n) n) ∙ hidden_keeps (get s.places n) c settled ∙ ap (λ m. kept_by c (get s.places m)) (sym same)
      | inr away ↦ ap (kept_by c) (lost_other s n m away)
    ]

-- what is shown is not to come
shown_settled : (o : Option Place) → held o ≢ None → is_coming o ≡ false
shown_settled None there = refl
shown_settled (Some place) there = by_stage place.stage place.object there
  where
    by_stage : (t : Stage) (object : Object) → if_held t object ≢ None → is_coming_by t ≡ false
    by_stage Held object there = refl
    by_stage Removed object there = refl
    by_stage Coming object there = absurd (there refl)

pub inode_settled : (s : Numbers) (n : ℕ) → get (inodes s) n ≢ None → is_coming (get s.places n) ≡ false
inode_settled s n there = shown_settled (get s.places n) (λ none. there (get-inodes s n ∙ ap (option_and_then inode_of) none))

pub description_settled : (s : Numbers) (d : ℕ) → get (descriptions s) d ≢ None → is_coming (get s.places d) ≡ false
description_settled s d there = shown_settled (get s.places d) (λ none. there (get-descriptions s d ∙ ap (option_and_then description_of) none))

-- a change of a file or of a description leaves what is kept, and what is staged
file_claims : (f : OpenFile → OpenFile) (c : Claim) (t : Stage) (object : Object) → kept_by c (Some (record { stage = t; object = changed_file f object })) ≡ kept_by c (Some (record { stage = t; object = object }))
file_claims f c t (Kept_directory l) = refl
file_claims f (Room r) t (Kept_file file) = refl
file_claims f (New_directory m) t (Kept_file file) = refl
file_claims f (Number m) t (Kept_file file) = refl
file_claims f c t (Kept_pipe pipe) = refl
file_claims f c t (Kept_fixed fixed) = refl
file_claims f c t (Kept_description opened) = refl
file_claims f c t Nothing = refl

pub file_keeps : (f : OpenFile → OpenFile) (s : Numbers) (n : ℕ) (c : Claim) → kept_in (altered (with_file f) s n) c ≡ kept_in s c
file_keeps f s n = kept_alike s (altered (with_file f) s n) (λ m c. left-altered (kept_by c) (with_file f) (λ place. file_claims f c place.stage place.object) s n m)

file_fits : (f : OpenFile → OpenFile) (t : Stage) (object : Object) → FitsStage t object → FitsStage t (changed_file f object)
file_fits f t (Kept_directory l) fits = fits
file_fits f Coming (Kept_file file) fits = absurd fits
file_fits f Held (Kept_file file) fits = λ e. cc
file_fits f Removed (Kept_file file) fits = absurd cc
file_fits f t (Kept_pipe pipe) fits = fits
file_fits f t (Kept_fixed fixed) fits = fits
file_fits f t (Kept_description opened) fits = fits
file_fits f t Nothing fits = fits

opened_fits : (f : Opened → Opened) (t : Stage) (object : Object) → FitsStage t object → FitsStage t (changed_opened f object)
opened_fits f t (Kept_directory l) fits = fits
opened_fits f t (Kept_file file) fits = fits
opened_fits f t (Kept_pipe pipe) fits = fits
opened_fits f t (Kept_fixed fixed) fits = fits
opened_fits f Coming (Kept_description opened) fits = absurd fits
opened_fits f Held (Kept_description opened) fits = λ e. cc
opened_fits f Removed (Kept_description opened) fits = absurd cc
opened_fits f t Nothing fits = fits

-- a change of one place that leaves it staged
pub altered_staged : (f : Place → Place) → ((place : Place) → IsStaged (Some place) → IsStaged (Some (f place))) → (s : Numbers) (n : ℕ) → ((m : ℕ) → IsStaged (get s.places m)) → (m : ℕ) → IsStaged (get (altered f s n).places m)
altered_staged f fits s n staged m = elim (cases_eq m n) [
  | inl same ↦ subst IsStaged (sym (ap (get (altered f s n).places) same ∙ place-altered f s n)) (by_place (get s.places n) (staged n))
  | inr away ↦ subst IsStaged (sym (place-other f s n m away)) (staged m)
]
  where
    by_place : (o : Option Place) → IsStaged o → IsStaged (option_map f o)
    by_place None is = tt
    by_place (Some place) is = fits place is

pub file_staged : (f : OpenFile → OpenFile) (s : Numbers) (n : ℕ) → ((m : ℕ) → IsStaged (get s.places m)) → (m : ℕ) → IsStaged (get (altered (with_file f) s n).places m)
file_staged f = altered_staged (with_file f) (λ place. file_fits f place.stage place.object)

pub opened_staged : (f : Opened → Opened) (s : Numbers) (n : ℕ) → ((m : ℕ) → IsStaged (get s.places m)) → (m : ℕ) → IsStaged (get (altered (with_opened f) s n).places m)
opened_staged f = altered_staged (with_opened f) (λ place. opened_fits f place.stage place.object)
