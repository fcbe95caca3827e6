-- Names that are laid over a directory, one after the other: what is left makes of the store what all make of it at the start.
use Rattle.std.proofs.Common.{◌≡◌, ℕ, ◌+◌, ◌-◌, ◌<◌, ◌≤◌, Bool, true, false, cond, List, [], ◌∷◌, length, Option, Some, None, IfSome, nat_cmp, count_by, is_some, refl, sym, ap, subst, ◌∙◌, arith, inl, inr}
use Rattle.std.specs.List.{AllByRecursion}
use Rattle.std.specs.Option.{option_map}
use Rattle.std.specs.Ordering.{eq_by_cmp}
use Rattle.std.specs.Cmp.{nat_cmp_total}
use Rattle.std.proofs.lemmas.Bool.{cases_eq}
use Rattle.std.proofs.lemmas.List.Sums.{sum_by-cons}
use Rattle.model.specs.FiniteMap.{FinMap, get, insert, get-insert, same_map, nat_cmp-IsAntisymmetric}
use Rattle.model.specs.State.{Name}
use Rattle.model.proofs.Laws.{get_same}
use Rattle.dirlist.specs.Listing.{Listing}
use Rattle.store.specs.Numbers.{Numbers}
use Rattle.store.specs.Places.{altered, is_coming, is_coming_by, is_over, is_over_by, is_shown, is_shown_by, has_room, listing_at, listing_of, may_be_named, with_listing, with_name, without_name, less_room, released}
use Rattle.store.specs.Laid.{laid, laid_listing}
use Rattle.store.specs.declared.Place.{Place}
use Rattle.store.specs.declared.Stage.{Stage}
use Rattle.store.specs.declared.Stage.TheVariants.{Coming, Held, Removed}
use Rattle.store.specs.declared.Object.{Object}
use Rattle.store.specs.declared.Object.TheVariants.{Directory, File, Pipe, Fixed, Description, Nothing}
use Rattle.store.proofs.Changes.{altered-none, altered-some, with_place}
use Rattle.store.proofs.Chosen.{insert-held}
use Rattle.store.proofs.Listings.{listing-changed, place-altered, place-other, swept-stays}

-- the last of two values that a number is given stays
insert-again : {Y : Type 0} (m : FinMap nat_cmp Y) (n : ℕ) (x y : Y) → insert (insert m n x) n y ≡ insert m n y
insert-again m n x y = same_map nat_cmp_total nat_cmp-IsAntisymmetric _ _ (λ q.
    get-insert nat_cmp_total (insert m n x) n y q ∙ ap (cond (eq_by_cmp nat_cmp q n) (Some y)) (get-insert nat_cmp_total m n x q) ∙ last (eq_by_cmp nat_cmp q n) (get m q)
    ∙ sym (get-insert nat_cmp_total m n y q))
  where
    last : (b : Bool) (o : Option _) → cond b (Some y) (cond b (Some x) o) ≡ cond b (Some y) o
    last true o = refl
    last false o = refl

-- two changes of one number are one
pub altered-twice : (f g : Place → Place) (s : Numbers) (n : ℕ) → altered f (altered g s n) n ≡ altered (λ place. f (g place)) s n
altered-twice f g s n = by_place (get s.places n) refl
  where
    by_place : (o : Option Place) → get s.places n ≡ o → altered f (altered g s n) n ≡ altered (λ place. f (g place)) s n
    by_place (Some place) is =
        ap (λ s. altered f s n) (altered-some g s n place is)
        ∙ altered-some f (with_place s n (g place)) n (g place) (get_same s.places n (g place))
        ∙ ap (λ (places : FinMap nat_cmp Place). record s { places = places }) (insert-again s.places n (g place) (f (g place)))
        ∙ sym (altered-some (λ place. f (g place)) s n place is)
    by_place None is = ap (λ s. altered f s n) (altered-none g s n is) ∙ altered-none f s n is ∙ sym (altered-none (λ place. f (g place)) s n is)

-- changes that make the same of what is there
pub altered-alike : (f g : Place → Place) (s : Numbers) (n : ℕ) → ((place : Place) → f place ≡ g place) → altered f s n ≡ altered g s n
altered-alike f g s n same = by_place (get s.places n) refl
  where
    by_place : (o : Option Place) → get s.places n ≡ o → altered f s n ≡ altered g s n
    by_place (Some place) is = altered-some f s n place is ∙ ap (with_place s n) (same place) ∙ sym (altered-some g s n place is)
    by_place None is = altered-none f s n is ∙ sym (altered-none g s n is)

-- a change that makes what is there
pub altered-same : (f : Place → Place) (s : Numbers) (n : ℕ) → ((place : Place) → f place ≡ place) → altered f s n ≡ s
altered-same f s n same = by_place (get s.places n) refl
  where
    by_place : (o : Option Place) → get s.places n ≡ o → altered f s n ≡ s
    by_place (Some place) is =
        altered-some f s n place is ∙ ap (with_place s n) (same place)
        ∙ ap (λ (places : FinMap nat_cmp Place). record s { places = places }) (insert-held s.places n place is)
    by_place None is = altered-none f s n is

-- what a change leaves of each place, it leaves at each number
pub left-altered : {B : Type 0} (what : Option Place → B) (f : Place → Place) → ((place : Place) → what (Some (f place)) ≡ what (Some place)) → (s : Numbers) (n q : ℕ) → what (get (altered f s n).places q) ≡ what (get s.places q)
left-altered what f same s n q = elim (cases_eq q n) [
  | inl here ↦ ap (λ q. what (get (altered f s n).places q)) here ∙ ap what (place-altered f s n) ∙ by_place (get s.places n) ∙ ap (λ q. what (get s.places q)) (sym here)
  | inr away ↦ ap what (place-other f s n q away)
]
  where
    by_place : (o : Option Place) → what (option_map f o) ≡ what o
    by_place (Some place) = same place
    by_place None = refl

module _ (f g h : Listing → Listing) (s : Numbers) (n : ℕ) where
  -- changes of a listing, one after the other
  pub listing-twice : ((listing : Listing) → f (g listing) ≡ h listing) → altered (with_listing f) (altered (with_listing g) s n) n ≡ altered (with_listing h) s n
  listing-twice same = altered-twice (with_listing f) (with_listing g) s n ∙ altered-alike (λ place. with_listing f (with_listing g place)) (with_listing h) s n (λ place. by_object place.stage place.object)
    where
      by_object : (t : Stage) (object : Object) → with_listing f (with_listing g (record { stage = t; object = object })) ≡ with_listing h (record { stage = t; object = object })
      by_object t (Directory listing) = ap (λ (listing : Listing). record { stage = t; object = Directory listing }) (same listing)
      by_object t (File file) = refl
      by_object t (Pipe pipe) = refl
      by_object t (Fixed fixed) = refl
      by_object t (Description opened) = refl
      by_object t Nothing = refl

-- what is shown is not to come, and is not given up
pub shown-comes_not : (o : Option Place) → is_shown o ≡ true → is_coming o ≡ false
shown-comes_not None shown = refl
shown-comes_not (Some place) shown = by_stage place.stage shown
  where
    by_stage : (t : Stage) → is_shown_by t ≡ true → is_coming_by t ≡ false
    by_stage Held shown = refl
    by_stage Coming shown = absurd cc
    by_stage Removed shown = refl

shown-stays : (o : Option Place) → is_shown o ≡ true → is_over o ≡ false
shown-stays None shown = refl
shown-stays (Some place) shown = by_stage place.stage (has_room (listing_of place.object)) shown
  where
    by_stage : (t : Stage) (room : Bool) → is_shown_by t ≡ true → is_over_by t room ≡ false
    by_stage Held room shown = refl
    by_stage Coming room shown = refl
    by_stage Removed room shown = absurd cc

-- a promise that is given up in a directory that is shown
released-shown : (s : Numbers) (n : ℕ) → is_shown (get s.places n) ≡ true → released s n ≡ altered (with_listing less_room) s n
released-shown s n shown =
    swept-stays (altered (with_listing less_room) s n) n
    (shown-stays (get (altered (with_listing less_room) s n).places n) (left-altered is_shown (with_listing less_room) (λ place. refl) s n n ∙ shown))

module _ (s : Numbers) (n : ℕ) where
  pub none-released : s ≡ altered (with_listing (laid_listing [] 0)) s n
  none-released = sym (altered-same (with_listing (laid_listing [] 0)) s n (λ place. by_object place.stage place.object))
    where
      all_left : (room : ℕ) → room - 0 ≡ room
      all_left room = omega arith

      by_object : (t : Stage) (object : Object) → with_listing (laid_listing [] 0) (record { stage = t; object = object }) ≡ record { stage = t; object = object }
      by_object t (Directory listing) = ap (λ (room : ℕ). record { stage = t; object = Directory (record listing { promised = room }) }) (all_left listing.promised)
      by_object t (File file) = refl
      by_object t (Pipe pipe) = refl
      by_object t (Fixed fixed) = refl
      by_object t (Description opened) = refl
      by_object t Nothing = refl

  -- one promise more is given up
  pub one-released : is_shown (get s.places n) ≡ true → (now : Numbers) (count : ℕ) → now ≡ altered (with_listing (laid_listing [] count)) s n → released now n ≡ altered (with_listing (laid_listing [] (count + 1))) s n
  one-released shown now count is =
      ap (λ now. released now n) is
      ∙ released-shown before n (left-altered is_shown (with_listing (laid_listing [] count)) (λ place. refl) s n n ∙ shown)
      ∙ listing-twice less_room (laid_listing [] count) (laid_listing [] (count + 1)) s n (λ listing. ap (λ (room : ℕ). record listing { promised = room }) (less listing.promised count))
    where
      before : Numbers
      before = altered (with_listing (laid_listing [] count)) s n

      less : (room count : ℕ) → room - count - 1 ≡ room - (count + 1)
      less room count = omega arith

-- how many of these names come
abbrev pub come : List (Name × Option ℕ) → ℕ
come notes = count_by (λ note. is_some note.1) notes

come-first : (x : Name) (target : Option ℕ) (notes : List (Name × Option ℕ)) → come ((x, target) ∷ notes) ≡ cond (is_some target) 1 0 + come notes
come-first x target notes = sum_by-cons (λ (note : Name × Option ℕ). cond (is_some note.1) 1 0) (x, target) notes

-- the objects of the numbers that are given are shown or to come
abbrev pub MayBeNamed : Numbers → List (Name × Option ℕ) → Type 0
MayBeNamed s notes = AllByRecursion (λ note. IfSome note.1 (λ n. may_be_named (get s.places n) ≡ true)) notes

may_be_named-left : (f : Listing → Listing) (s : Numbers) (n : ℕ) (notes : List (Name × Option ℕ)) → MayBeNamed s notes → MayBeNamed (altered (with_listing f) s n) notes
may_be_named-left f s n [] all = tt
may_be_named-left f s n ((x, Some q) ∷ notes) all = (left-altered may_be_named (with_listing f) (λ place. refl) s n q ∙ all.0, may_be_named-left f s n notes all.1)
may_be_named-left f s n ((x, None) ∷ notes) all = (tt, may_be_named-left f s n notes all.1)

-- after some of all names `rest` is left, with so much of the room
pub record Lays (start now : Numbers) (dir : ℕ) (all rest : List (Name × Option ℕ)) (promised left : ℕ) : Type 0 where
  pub ends : altered (with_listing (laid_listing rest left)) now dir ≡ altered (with_listing (laid_listing all promised)) start dir
  pub shown : is_shown (get now.places dir) ≡ true
  pub room : (listing : Listing) → listing_at now dir ≡ Some listing → left ≤ listing.promised
  pub added : come rest ≤ left
  pub numbers : MayBeNamed now rest

-- room in a changed listing
module _ (f : Listing → Listing) (s : Numbers) (n left after : ℕ) where
  room-changed : ((listing : Listing) → left ≤ listing.promised → after ≤ (f listing).promised) → ((listing : Listing) → listing_at s n ≡ Some listing → left ≤ listing.promised) → (listing : Listing) → listing_at (altered (with_listing f) s n) n ≡ Some listing → after ≤ listing.promised
  room-changed keeps room listing is = by_listing (listing_at s n) refl (sym (listing-changed f s n) ∙ is)
    where
      by_listing : (o : Option Listing) → listing_at s n ≡ o → option_map f o ≡ Some listing → after ≤ listing.promised
      by_listing (Some before) was e = some_room (f before) e (keeps before (room before was))
        where
          some_room : (l : Listing) → Some l ≡ Some listing → after ≤ l.promised → after ≤ listing.promised
          some_room l e low = let same : l ≡ listing = cc in subst (λ (l : Listing). after ≤ l.promised) same low
      by_listing None was e = absurd cc

module _ (start now after : Numbers) (dir : ℕ) (all notes : List (Name × Option ℕ)) (x : Name) (promised left : ℕ) where
  -- a name gives a number
  module _ (n : ℕ) (lays : Lays start now dir all ((x, Some n) ∷ notes) promised left) where
    pub some_left : 0 < left
    some_left = let first : come ((x, Some n) ∷ notes) ≡ 1 + come notes = come-first x (Some n) notes in omega arith

    pub named : may_be_named (get now.places n) ≡ true
    named = lays.numbers.0

    pub goes_on : after ≡ altered (with_listing (with_name x n)) now dir → Lays start after dir all notes promised (left - 1)
    goes_on is = subst (λ (s : Numbers). Lays start s dir all notes promised (left - 1)) (sym is) (record {
      ends = listing-twice (laid_listing notes (left - 1)) (with_name x n) (laid_listing ((x, Some n) ∷ notes) left) now dir (λ listing. ap (λ (room : ℕ). record { names = laid notes (insert listing.names x n); promised = room }) (less listing.promised)) ∙ lays.ends;
      shown = left-altered is_shown (with_listing (with_name x n)) (λ place. refl) now dir dir ∙ lays.shown;
      room = room-changed (with_name x n) now dir left (left - 1) (λ listing low. omega arith) lays.room;
      added = (let first : come ((x, Some n) ∷ notes) ≡ 1 + come notes = come-first x (Some n) notes in omega arith);
      numbers = may_be_named-left (with_name x n) now dir notes lays.numbers.1;
    })
      where
        less : (room : ℕ) → room - 1 - (left - 1) ≡ room - left
        less room = let some : 0 < left = some_left in omega arith

  -- a name gives nothing
  module _ (lays : Lays start now dir all ((x, None) ∷ notes) promised left) where
    pub goes_on-gone : after ≡ altered (with_listing (without_name x)) now dir → Lays start after dir all notes promised left
    goes_on-gone is = subst (λ (s : Numbers). Lays start s dir all notes promised left) (sym is) (record {
      ends = listing-twice (laid_listing notes left) (without_name x) (laid_listing ((x, None) ∷ notes) left) now dir (λ listing. refl) ∙ lays.ends;
      shown = left-altered is_shown (with_listing (without_name x)) (λ place. refl) now dir dir ∙ lays.shown;
      room = room-changed (without_name x) now dir left left (λ listing low. low) lays.room;
      added = (let first : come ((x, None) ∷ notes) ≡ 0 + come notes = come-first x None notes in omega arith);
      numbers = may_be_named-left (without_name x) now dir notes lays.numbers.1;
    })

pub begins : (start : Numbers) (dir : ℕ) (all : List (Name × Option ℕ)) (promised : ℕ) → is_shown (get start.places dir) ≡ true → ((listing : Listing) → listing_at start dir ≡ Some listing → promised ≤ listing.promised) → come all ≤ promised → MayBeNamed start all → Lays start start dir all all promised promised
begins start dir all promised shown room added numbers = record { ends = refl; shown = shown; room = room; added = added; numbers = numbers }

-- so much room is there
pub room_left : (start now : Numbers) (dir : ℕ) (all : List (Name × Option ℕ)) (x : Name) (n : ℕ) (notes : List (Name × Option ℕ)) (promised left : ℕ) → Lays start now dir all ((x, Some n) ∷ notes) promised left → (listing : Listing) → listing_at now dir ≡ Some listing → 0 < listing.promised
room_left start now dir all x n notes promised left lays listing is =
    let low : left ≤ listing.promised = lays.room listing is in
    let some : 0 < left = some_left start now now dir all notes x promised left n lays in
    omega arith

-- once nothing is left, the promises that are left are to be given up
pub ended : (start now : Numbers) (dir : ℕ) (all rest : List (Name × Option ℕ)) (promised left : ℕ) → length rest ≡ 0 → Lays start now dir all rest promised left → altered (with_listing (laid_listing [] left)) now dir ≡ altered (with_listing (laid_listing all promised)) start dir
ended start now dir all [] promised left zero lays = lays.ends
ended start now dir all (note ∷ notes) promised left zero lays = absurd (omega arith)
