-- The descriptors of a process in pages of 64. A page in which none was ever to be open has no room.
use Rattle.std.specs.Prelude.{◌≡◌, ℕ, ◌*◌, ◌/◌, ◌<◌, ◌≤◌, List, [], ◌∷◌, Bool, true, false, not, map}
use Rattle.std.specs.Prelude.{Option, Some, None, get_or, length, replicate}
use Rattle.std.specs.Int.{bit_at}
use Rattle.std.specs.List.{AllByRecursion, flat_map, list_any}
use Rattle.std.specs.Option.{is_none, is_some}
use Rattle.std.specs.Ordering.{nat_cmp}
use Rattle.model.specs.FiniteMap as map
use Rattle.fdtable.specs.Words.{as_bit, bit_in}

-- What a contract sees of a page: what each of its 64 descriptors is open on, and whether there is
-- memory for that.
pub record PageContent : Type 0 where
  pub slots : List (Option ℕ)
  pub room : Bool

abbrev pub no_page : PageContent
no_page = record { slots = replicate 64 None; room = false }

-- where there is no room nothing is open
abbrev pub padded : List (Option ℕ) → List (Option ℕ)
padded [] = replicate 64 None
padded (o ∷ os) = o ∷ os

-- a page is 64 long, and a bit is set just where a descriptor is open
pub record IsPage (slots : List (Option ℕ)) (open_bits : ℕ) : Type 0 where
  pub long : length (padded slots) ≡ 64
  pub marked : (i : ℕ) → i < 64 → bit_at open_bits i ≡ as_bit (is_some (get_or slots i None))

-- What a contract sees of pages: what is open, and which pages have room.
pub record Paged : Type 0 where
  pub slots : map.FinMap nat_cmp ℕ
  pub rooms : List Bool

-- there is room for a descriptor
abbrev pub HasRoom : List Bool → ℕ → Type 0
HasRoom rooms f = get_or rooms (f / 64) false ≡ true

-- what all descriptors in pages are open on, one after the other
abbrev pub slots_of : List PageContent → List (Option ℕ)
slots_of pages = flat_map (λ page. page.slots) pages

abbrev pub rooms_of : List PageContent → List Bool
rooms_of pages = map (λ page. page.room) pages

-- all of its descriptors are open
abbrev pub is_full : PageContent → Bool
is_full page = not (list_any is_none page.slots)

-- as many pages as descriptors need that a process can have at all
abbrev pub most_pages : ℕ
most_pages = 16384

-- there are no more pages than may be, each is 64 long, in one without room nothing is open, and a bit
-- is set just where one is full
pub record AreMarked (pages : List PageContent) (bits : List ℕ) : Type 0 where
  pub few : length pages ≤ most_pages
  pub long : AllByRecursion (λ page. length page.slots ≡ 64) pages
  pub bare : (i : ℕ) → (get_or pages i no_page).room ≡ false → get_or pages i no_page ≡ no_page
  pub words : length pages ≤ 64 * length bits
  pub few_words : length bits ≤ most_pages
  pub full : (i : ℕ) → bit_in bits i ≡ as_bit (is_full (get_or pages i no_page))

-- a descriptor is open on this, or closed
abbrev pub given_at : ℕ → Option ℕ → map.FinMap nat_cmp ℕ → map.FinMap nat_cmp ℕ
given_at f (Some d) slots = map.insert slots f d
given_at f None slots = map.remove slots f

-- what the first gives, or else the second
abbrev pub or_other : Option ℕ → Option ℕ → Option ℕ
or_other (Some d) o = Some d
or_other None o = o
