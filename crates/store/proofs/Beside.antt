-- A change of a directory, of a file, of a pipe or of a description, and what it leaves of the other kinds.
use Rattle.std.proofs.Common.{◌≡◌, ℕ, ◌+◌, ◌-◌, Option, Some, None, refl, sym, ap, ◌∙◌}
use Rattle.std.specs.Option.{option_map}
use Rattle.model.specs.FiniteMap.{get}
use Rattle.dirlist.specs.Listing.{Listing}
use Rattle.store.specs.Numbers.{Numbers}
use Rattle.store.specs.Places.{altered, changed_file, changed_object, changed_opened, changed_pipe, pipe_in, pipe_of, with_pipe, file_in, file_of, holders_at, holders_of, less_holders, less_openings, listing_in, listing_of, more_holders, more_openings, opened_in, opened_of, openings_at, openings_of, with_file, with_listing, with_opened}
use Rattle.store.specs.declared.Object.{Object}
use Rattle.store.specs.declared.Object.TheVariants.{Directory, File, Pipe, Fixed, Description, Nothing}
use Rattle.store.specs.declared.OpenFile.{OpenFile}
use Rattle.store.specs.declared.Opened.{Opened}
use Rattle.store.specs.declared.OpenPipe.{OpenPipe}
use Rattle.store.specs.declared.Place.{Place}
use Rattle.store.proofs.Laying.{left-altered}
use Rattle.store.proofs.Listings.{place-altered}

-- of an object
pub file-by_listing : (f : Listing → Listing) (object : Object) → file_of (changed_object f object) ≡ file_of object
file-by_listing f (Directory listing) = refl
file-by_listing f (File file) = refl
file-by_listing f (Pipe pipe) = refl
file-by_listing f (Fixed fixed) = refl
file-by_listing f (Description opened) = refl
file-by_listing f Nothing = refl

pub opened-by_listing : (f : Listing → Listing) (object : Object) → opened_of (changed_object f object) ≡ opened_of object
opened-by_listing f (Directory listing) = refl
opened-by_listing f (File file) = refl
opened-by_listing f (Pipe pipe) = refl
opened-by_listing f (Fixed fixed) = refl
opened-by_listing f (Description opened) = refl
opened-by_listing f Nothing = refl

pub listing-by_file : (f : OpenFile → OpenFile) (object : Object) → listing_of (changed_file f object) ≡ listing_of object
listing-by_file f (Directory listing) = refl
listing-by_file f (File file) = refl
listing-by_file f (Pipe pipe) = refl
listing-by_file f (Fixed fixed) = refl
listing-by_file f (Description opened) = refl
listing-by_file f Nothing = refl

pub opened-by_file : (f : OpenFile → OpenFile) (object : Object) → opened_of (changed_file f object) ≡ opened_of object
opened-by_file f (Directory listing) = refl
opened-by_file f (File file) = refl
opened-by_file f (Pipe pipe) = refl
opened-by_file f (Fixed fixed) = refl
opened-by_file f (Description opened) = refl
opened-by_file f Nothing = refl

pub listing-by_opened : (f : Opened → Opened) (object : Object) → listing_of (changed_opened f object) ≡ listing_of object
listing-by_opened f (Directory listing) = refl
listing-by_opened f (File file) = refl
listing-by_opened f (Pipe pipe) = refl
listing-by_opened f (Fixed fixed) = refl
listing-by_opened f (Description opened) = refl
listing-by_opened f Nothing = refl

pub file-by_opened : (f : Opened → Opened) (object : Object) → file_of (changed_opened f object) ≡ file_of object
file-by_opened f (Directory listing) = refl
file-by_opened f (File file) = refl
file-by_opened f (Pipe pipe) = refl
file-by_opened f (Fixed fixed) = refl
file-by_opened f (Description opened) = refl
file-by_opened f Nothing = refl

pub pipe-by_listing : (f : Listing → Listing) (object : Object) → pipe_of (changed_object f object) ≡ pipe_of object
pipe-by_listing f (Directory listing) = refl
pipe-by_listing f (File file) = refl
pipe-by_listing f (Pipe pipe) = refl
pipe-by_listing f (Fixed fixed) = refl
pipe-by_listing f (Description opened) = refl
pipe-by_listing f Nothing = refl

pub pipe-by_file : (f : OpenFile → OpenFile) (object : Object) → pipe_of (changed_file f object) ≡ pipe_of object
pipe-by_file f (Directory listing) = refl
pipe-by_file f (File file) = refl
pipe-by_file f (Pipe pipe) = refl
pipe-by_file f (Fixed fixed) = refl
pipe-by_file f (Description opened) = refl
pipe-by_file f Nothing = refl

pub pipe-by_opened : (f : Opened → Opened) (object : Object) → pipe_of (changed_opened f object) ≡ pipe_of object
pipe-by_opened f (Directory listing) = refl
pipe-by_opened f (File file) = refl
pipe-by_opened f (Pipe pipe) = refl
pipe-by_opened f (Fixed fixed) = refl
pipe-by_opened f (Description opened) = refl
pipe-by_opened f Nothing = refl

pub listing-by_pipe : (f : OpenPipe → OpenPipe) (object : Object) → listing_of (changed_pipe f object) ≡ listing_of object
listing-by_pipe f (Directory listing) = refl
listing-by_pipe f (File file) = refl
listing-by_pipe f (Pipe pipe) = refl
listing-by_pipe f (Fixed fixed) = refl
listing-by_pipe f (Description opened) = refl
listing-by_pipe f Nothing = refl

pub file-by_pipe : (f : OpenPipe → OpenPipe) (object : Object) → file_of (changed_pipe f object) ≡ file_of object
file-by_pipe f (Directory listing) = refl
file-by_pipe f (File file) = refl
file-by_pipe f (Pipe pipe) = refl
file-by_pipe f (Fixed fixed) = refl
file-by_pipe f (Description opened) = refl
file-by_pipe f Nothing = refl

pub opened-by_pipe : (f : OpenPipe → OpenPipe) (object : Object) → opened_of (changed_pipe f object) ≡ opened_of object
opened-by_pipe f (Directory listing) = refl
opened-by_pipe f (File file) = refl
opened-by_pipe f (Pipe pipe) = refl
opened-by_pipe f (Fixed fixed) = refl
opened-by_pipe f (Description opened) = refl
opened-by_pipe f Nothing = refl

-- and of each number
module _ (s : Numbers) (n q : ℕ) where
  pub file-beside_listing : (f : Listing → Listing) → file_in (get (altered (with_listing f) s n).places q) ≡ file_in (get s.places q)
  file-beside_listing f = left-altered file_in (with_listing f) (λ place. file-by_listing f place.object) s n q

  pub opened-beside_listing : (f : Listing → Listing) → opened_in (get (altered (with_listing f) s n).places q) ≡ opened_in (get s.places q)
  opened-beside_listing f = left-altered opened_in (with_listing f) (λ place. opened-by_listing f place.object) s n q

  pub listing-beside_file : (f : OpenFile → OpenFile) → listing_in (get (altered (with_file f) s n).places q) ≡ listing_in (get s.places q)
  listing-beside_file f = left-altered listing_in (with_file f) (λ place. listing-by_file f place.object) s n q

  pub opened-beside_file : (f : OpenFile → OpenFile) → opened_in (get (altered (with_file f) s n).places q) ≡ opened_in (get s.places q)
  opened-beside_file f = left-altered opened_in (with_file f) (λ place. opened-by_file f place.object) s n q

  pub listing-beside_opened : (f : Opened → Opened) → listing_in (get (altered (with_opened f) s n).places q) ≡ listing_in (get s.places q)
  listing-beside_opened f = left-altered listing_in (with_opened f) (λ place. listing-by_opened f place.object) s n q

  pub file-beside_opened : (f : Opened → Opened) → file_in (get (altered (with_opened f) s n).places q) ≡ file_in (get s.places q)
  file-beside_opened f = left-altered file_in (with_opened f) (λ place. file-by_opened f place.object) s n q

  pub pipe-beside_listing : (f : Listing → Listing) → pipe_in (get (altered (with_listing f) s n).places q) ≡ pipe_in (get s.places q)
  pipe-beside_listing f = left-altered pipe_in (with_listing f) (λ place. pipe-by_listing f place.object) s n q

  pub pipe-beside_file : (f : OpenFile → OpenFile) → pipe_in (get (altered (with_file f) s n).places q) ≡ pipe_in (get s.places q)
  pipe-beside_file f = left-altered pipe_in (with_file f) (λ place. pipe-by_file f place.object) s n q

  pub pipe-beside_opened : (f : Opened → Opened) → pipe_in (get (altered (with_opened f) s n).places q) ≡ pipe_in (get s.places q)
  pipe-beside_opened f = left-altered pipe_in (with_opened f) (λ place. pipe-by_opened f place.object) s n q

  pub listing-beside_pipe : (f : OpenPipe → OpenPipe) → listing_in (get (altered (with_pipe f) s n).places q) ≡ listing_in (get s.places q)
  listing-beside_pipe f = left-altered listing_in (with_pipe f) (λ place. listing-by_pipe f place.object) s n q

  pub file-beside_pipe : (f : OpenPipe → OpenPipe) → file_in (get (altered (with_pipe f) s n).places q) ≡ file_in (get s.places q)
  file-beside_pipe f = left-altered file_in (with_pipe f) (λ place. file-by_pipe f place.object) s n q

  pub opened-beside_pipe : (f : OpenPipe → OpenPipe) → opened_in (get (altered (with_pipe f) s n).places q) ≡ opened_in (get s.places q)
  opened-beside_pipe f = left-altered opened_in (with_pipe f) (λ place. opened-by_pipe f place.object) s n q

module _ (s : Numbers) (n : ℕ) where
  -- the file of a number after a change of it, and the description
  pub file-changed : (f : OpenFile → OpenFile) → file_in (get (altered (with_file f) s n).places n) ≡ option_map f (file_in (get s.places n))
  file-changed f = ap file_in (place-altered (with_file f) s n) ∙ by_place (get s.places n)
    where
      by_object : (object : Object) → file_of (changed_file f object) ≡ option_map f (file_of object)
      by_object (Directory listing) = refl
      by_object (File file) = refl
      by_object (Pipe pipe) = refl
      by_object (Fixed fixed) = refl
      by_object (Description opened) = refl
      by_object Nothing = refl

      by_place : (o : Option Place) → file_in (option_map (with_file f) o) ≡ option_map f (file_in o)
      by_place (Some place) = by_object place.object
      by_place None = refl

  pub opened-changed : (f : Opened → Opened) → opened_in (get (altered (with_opened f) s n).places n) ≡ option_map f (opened_in (get s.places n))
  opened-changed f = ap opened_in (place-altered (with_opened f) s n) ∙ by_place (get s.places n)
    where
      by_object : (object : Object) → opened_of (changed_opened f object) ≡ option_map f (opened_of object)
      by_object (Directory listing) = refl
      by_object (File file) = refl
      by_object (Pipe pipe) = refl
      by_object (Fixed fixed) = refl
      by_object (Description opened) = refl
      by_object Nothing = refl

      by_place : (o : Option Place) → opened_in (option_map (with_opened f) o) ≡ option_map f (opened_in o)
      by_place (Some place) = by_object place.object
      by_place None = refl

  pub pipe-changed : (f : OpenPipe → OpenPipe) → pipe_in (get (altered (with_pipe f) s n).places n) ≡ option_map f (pipe_in (get s.places n))
  pipe-changed f = ap pipe_in (place-altered (with_pipe f) s n) ∙ by_place (get s.places n)
    where
      by_object : (object : Object) → pipe_of (changed_pipe f object) ≡ option_map f (pipe_of object)
      by_object (Directory listing) = refl
      by_object (File file) = refl
      by_object (Pipe pipe) = refl
      by_object (Fixed fixed) = refl
      by_object (Description opened) = refl
      by_object Nothing = refl

      by_place : (o : Option Place) → pipe_in (option_map (with_pipe f) o) ≡ option_map f (pipe_in o)
      by_place (Some place) = by_object place.object
      by_place None = refl

  -- the counts, one more and one less
  pub openings-more : (file : OpenFile) → file_in (get s.places n) ≡ Some file → openings_at (altered (with_file more_openings) s n) n ≡ openings_at s n + 1
  openings-more file is = ap openings_of (file-changed more_openings) ∙ ap (λ (o : Option OpenFile). openings_of (option_map more_openings o)) is ∙ ap (λ (o : Option OpenFile). openings_of o + 1) (sym is)

  pub openings-less : openings_at (altered (with_file less_openings) s n) n ≡ openings_at s n - 1
  openings-less = ap openings_of (file-changed less_openings) ∙ by_file (file_in (get s.places n))
    where
      by_file : (o : Option OpenFile) → openings_of (option_map less_openings o) ≡ openings_of o - 1
      by_file (Some file) = refl
      by_file None = refl

  pub holders-more : (opened : Opened) → opened_in (get s.places n) ≡ Some opened → holders_at (altered (with_opened more_holders) s n) n ≡ holders_at s n + 1
  holders-more opened is = ap holders_of (opened-changed more_holders) ∙ ap (λ (o : Option Opened). holders_of (option_map more_holders o)) is ∙ ap (λ (o : Option Opened). holders_of o + 1) (sym is)

  pub holders-less : holders_at (altered (with_opened less_holders) s n) n ≡ holders_at s n - 1
  holders-less = ap holders_of (opened-changed less_holders) ∙ by_opened (opened_in (get s.places n))
    where
      by_opened : (o : Option Opened) → holders_of (option_map less_holders o) ≡ holders_of o - 1
      by_opened (Some opened) = refl
      by_opened None = refl
