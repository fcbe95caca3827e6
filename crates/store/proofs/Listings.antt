-- The places after a change, and the listings of directories, however far they are.
use Rattle.std.proofs.Common.{◌≡◌, ◌≢◌, ℕ, Bool, true, false, cond, Option, Some, None, refl, sym, ap, ◌∙◌, inl, inr}
use Rattle.std.proofs.lemmas.Bool.{cases_eq}
use Rattle.std.specs.Option.{option_map}
use Rattle.model.specs.FiniteMap.{get}
use Rattle.model.proofs.Laws.{get_same, get_other, removed_same, removed_other}
use Rattle.dirlist.specs.Listing.{Listing}
use Rattle.store.specs.Numbers.{Numbers}
use Rattle.store.specs.Places.{altered_by, altered, changed_object, listing_of, listing_in, listing_at, with_listing, is_over, swept}
use Rattle.store.specs.declared.Place.{Place}
use Rattle.store.specs.declared.Object.{Object}
use Rattle.store.specs.declared.Object.TheVariants.{Directory, File, Pipe, Fixed, Description, Nothing}
use Rattle.store.proofs.Changes.{without_place}

module _ (f : Place → Place) (s : Numbers) (n : ℕ) where
  -- the places after a change of one
  pub place-altered : get (altered f s n).places n ≡ option_map f (get s.places n)
  place-altered = by_place (get s.places n) refl
    where
      by_place : (o : Option Place) → get s.places n ≡ o → get (altered_by f o s.places n) n ≡ option_map f o
      by_place (Some place) is = get_same s.places n (f place)
      by_place None is = is

  pub place-other : (q : ℕ) → q ≢ n → get (altered f s n).places q ≡ get s.places q
  place-other q away = by_place (get s.places n)
    where
      by_place : (o : Option Place) → get (altered_by f o s.places n) q ≡ get s.places q
      by_place (Some place) = get_other s.places n q (f place) away
      by_place None = refl

module _ (f : Listing → Listing) (s : Numbers) (n : ℕ) where
  pub listing-changed : listing_at (altered (with_listing f) s n) n ≡ option_map f (listing_at s n)
  listing-changed = ap listing_in (place-altered (with_listing f) s n) ∙ by_place (get s.places n)
    where
      by_object : (object : Object) → listing_of (changed_object f object) ≡ option_map f (listing_of object)
      by_object (Directory listing) = refl
      by_object (File file) = refl
      by_object (Pipe pipe) = refl
      by_object (Fixed fixed) = refl
      by_object (Description opened) = refl
      by_object Nothing = refl

      by_place : (o : Option Place) → listing_in (option_map (with_listing f) o) ≡ option_map f (listing_in o)
      by_place (Some place) = by_object place.object
      by_place None = refl

-- a change that leaves the object leaves the listings
pub listing-staged : (f : Place → Place) → ((place : Place) → (f place).object ≡ place.object) → (s : Numbers) (n q : ℕ) → listing_at (altered f s n) q ≡ listing_at s q
listing-staged f same s n q = elim (cases_eq q n) [
  | inl here ↦ ap (listing_at (altered f s n)) here ∙ ap listing_in (place-altered f s n) ∙ by_place (get s.places n) ∙ ap (listing_at s) (sym here)
  | inr away ↦ ap listing_in (place-other f s n q away)
]
  where
    by_place : (o : Option Place) → listing_in (option_map f o) ≡ listing_in o
    by_place (Some place) = ap listing_of (same place)
    by_place None = refl

module _ (s : Numbers) (n : ℕ) where
  -- the places after a sweep
  pub place-swept-other : (q : ℕ) → q ≢ n → get (swept s n).places q ≡ get s.places q
  place-swept-other q away = by_test (is_over (get s.places n))
    where
      by_test : (b : Bool) → get (cond b (without_place s n) s).places q ≡ get s.places q
      by_test true = removed_other s.places n q away
      by_test false = refl

  pub place-over : is_over (get s.places n) ≡ true → get (swept s n).places n ≡ None
  place-over over = ap (λ b. get (cond b (without_place s n) s).places n) over ∙ removed_same s.places n

  pub swept-stays : is_over (get s.places n) ≡ false → swept s n ≡ s
  swept-stays left = ap (λ b. cond b (without_place s n) s) left
