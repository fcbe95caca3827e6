-- The headers of the numbers that are in use: the place of each, the count of the names that give
-- it, and the rights that were set of it.
use Rattle.std.specs.Prelude.{◌≡◌, ℕ, ◌+◌, ◌-◌, ◌<◌, ◌^◌, ◌==◌, map, Option, Some, None}
use Rattle.std.specs.Prelude.{if◌then◌else◌}
use Rattle.std.specs.Ordering.{nat_cmp}
use Rattle.slab.specs.Slab.{Slab}
use Rattle.slab.specs.Slab as slab
use Rattle.ids.specs.declared.rights.Rights.{Rights}
use Rattle.model.specs.FiniteMap.{FinMap, empty, from_entries, len}
use Rattle.model.specs.Places.{placed}
use Rattle.model.specs.State.{name_cmp, names_of_inode}
use Rattle.store.specs.declared.Header.{Header}
use Rattle.store.specs.declared.Object.{Object}
use Rattle.store.specs.declared.Place.{Place}
use Rattle.store.specs.declared.Stage.{Stage}
use Rattle.store.specs.declared.Stage.TheVariants.{Coming, Held, Removed}
use Rattle.store.specs.Links.{links_in}
use Rattle.store.specs.Places.{shows_names}
use Rattle.store.specs.Shown.{chosen, inode_in, inode_of}

abbrev pub place_of : Option Header → Option Place
place_of (Some header) = Some header.place
place_of None = None

abbrev pub links_of : Option Header → ℕ
links_of (Some header) = header.links
links_of None = 0

abbrev pub rights_in : Option Header → Option Rights
rights_in (Some header) = header.rights
rights_in None = None

-- what a number is used for, the count of the names that give it, and its rights
abbrev pub place_at : Slab Header → ℕ → Option Place
place_at headers n = place_of (slab.get headers n)

abbrev pub count_at : Slab Header → ℕ → ℕ
count_at headers n = links_of (slab.get headers n)

abbrev pub rights_at : Slab Header → ℕ → Option Rights
rights_at headers n = rights_in (slab.get headers n)

-- what each number is used for
abbrev pub places_of : Slab Header → FinMap nat_cmp Place
places_of headers = from_entries {R = nat_cmp} (placed 0 (map place_of headers.slots))

-- the rights of each number of which some were set
abbrev pub rights_of : Slab Header → FinMap nat_cmp Rights
rights_of headers = from_entries {R = nat_cmp} (placed 0 (map rights_in headers.slots))

-- a change of the place, of the count, and of the rights, each of which leaves the others
abbrev pub at_place : (Place → Place) → Header → Header
at_place f header = record header { place = f header.place }

abbrev pub more_links : Header → Header
more_links header = record header { links = header.links + 1 }

abbrev pub less_links : Header → Header
less_links header = record header { links = header.links - 1 }

abbrev pub with_rights : Option Rights → Header → Header
with_rights rights header = record header { rights = rights }

-- A name's target is the number that it gives. How often a name with this target gives a number
abbrev pub given_by : Option ℕ → ℕ → ℕ
given_by (Some n) q = if n == q then 1 else 0
given_by None q = 0

-- what is counted of a name's target: all in a directory that is shown, and nothing elsewhere
abbrev pub counted : Option Place → Option ℕ → Option ℕ
counted dir target = if shows_names dir then target else None

-- every number has its place and its rights as before, and one name more, or one less, gives the
-- target
pub record GainsLink (old new : Slab Header) (target : Option ℕ) : Type 0 where
  pub places : (q : ℕ) → place_at new q ≡ place_at old q
  pub rights : (q : ℕ) → rights_at new q ≡ rights_at old q
  pub links : (q : ℕ) → count_at new q ≡ count_at old q + given_by target q

pub record LosesLink (old new : Slab Header) (target : Option ℕ) : Type 0 where
  pub places : (q : ℕ) → place_at new q ≡ place_at old q
  pub rights : (q : ℕ) → rights_at new q ≡ rights_at old q
  pub links : (q : ℕ) → count_at new q + given_by target q ≡ count_at old q

-- the names of an object
abbrev pub names_in : Object → FinMap name_cmp ℕ
names_in object = names_of_inode (inode_of object)

-- what is to come has no names, and no name gives what is removed
abbrev pub IsStaged : Stage → FinMap name_cmp ℕ → ℕ → Type 0
IsStaged Coming names links = names ≡ empty
IsStaged Held names links = Unit {0}
IsStaged Removed names links = links ≡ 0

-- the names of one directory can be counted by a `usize`
pub record IsSound (header : Header) : Type 0 where
  pub staged : IsStaged header.place.stage (names_in header.place.object) header.links
  pub few : len (names_in header.place.object) < 2 ^ 64

-- every header has the count of the names that give its number, and no name gives a number that is
-- not in use
pub record AreCounted (headers : Slab Header) : Type 0 where
  pub counts : (n : ℕ) → count_at headers n ≡ links_in (chosen inode_in (places_of headers)) n
  pub sound : (n : ℕ) (header : Header) → slab.get headers n ≡ Some header → IsSound header
