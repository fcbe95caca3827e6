-- Pages that come to others in their places, from the last on: what is open in either, and the room of
-- both.
use Rattle.std.proofs.Common.{◌≡◌, ◌≢◌, ℕ, ◌+◌, ◌*◌, ◌/◌, ◌%◌, ◌^◌, ◌<◌, ◌≤◌, List, [], ◌∷◌, ◌++◌, length, get_or, length-append, Bool, true, false, ◌||◌, ◌⊎◌, Option, Some, None, nat_cmp, refl, sym, ap, subst, ◌∙◌, arith, inl, inr}
use Rattle.std.proofs.Math.ListN.{set}
use Rattle.std.specs.Option.{is_some}
use Rattle.std.specs.Cmp.{nat_cmp_total}
use Rattle.std.specs.Int.{bit_at}
use Rattle.std.proofs.lemmas.Bool.{cases_eq, cases_lt, true_from_ne_false}
use Rattle.std.proofs.lemmas.Grind.{get_or-set_at}
use Rattle.std.proofs.lemmas.List.{get_or_append_left, get_or_past, get_or_push, get_or_read, get_or-set_other, length-map, length-set}
use Rattle.std.proofs.lemmas.Nat.Bits.{bit_at-zero, same_from_bits_below}
use Rattle.model.specs.FiniteMap.{FinMap, empty, get, get-empty, same_map, nat_cmp-IsAntisymmetric}
use Rattle.fdtable.specs.Pages.{AreMarked, HasRoom, PageContent, Paged, no_page, or_other, rooms_of}
use Rattle.fdtable.specs.Words.{as_bit}
use Rattle.fdtable.proofs.Paged.{AreLong, none_given, none_past, page_in, paged, room_of, seen_of, seen_word, slot_in, table_of}

pub no_word : (page : PageContent) (word : ℕ) → word < 2 ^ 64 → ((i : ℕ) → i < 64 → bit_at word i ≡ as_bit (is_some (get_or page.slots i None))) → ((i : ℕ) → i < 64 → get_or page.slots i None ≡ None) → word ≡ 0
no_word page word small bits none = same_from_bits_below 64 word 0 small (omega arith) (λ i low. bits i low ∙ ap (λ o. as_bit (is_some o)) (none i low) ∙ sym (bit_at-zero i))

-- a page with something open has room
pub open_room : (page : PageContent) (word : ℕ) → word < 2 ^ 64 → ((i : ℕ) → i < 64 → bit_at word i ≡ as_bit (is_some (get_or page.slots i None))) → (page.room ≡ false → page ≡ no_page) → word ≢ 0 → page.room ≡ true
open_room page word small bits bare some = true_from_ne_false page.room (λ e. some (no_word page word small bits (λ i low. ap (λ (p : PageContent). get_or p.slots i None) (bare e) ∙ none_given 64 i)))

-- where a page with something open comes, nothing is open
pub comes : (page : PageContent) (word : ℕ) (at : ℕ → Option ℕ) → word < 2 ^ 64 → ((i : ℕ) → i < 64 → bit_at word i ≡ as_bit (is_some (get_or page.slots i None))) → word ≢ 0 → ((i : ℕ) → i < 64 → at i ≡ None) ⊎ ((i : ℕ) → get_or page.slots i None ≡ None) → (i : ℕ) → i < 64 → at i ≡ None
comes page word at small bits some (inl none) i low = none i low
comes page word at small bits some (inr none) i low = absurd (some (no_word page word small bits (λ i low. none i)))

pub other_none : (x o : Option ℕ) → o ≡ None → x ≡ or_other x o
other_none (Some d) o is = refl
other_none None o is = sym is

pub none_other : (x o : Option ℕ) → x ≡ None → o ≡ or_other x o
none_other x o is = ap (λ x. or_other x o) (sym is)

pub either_room : (mine its : Bool) → (mine ≡ false) ⊎ (its ≡ true) → its ≡ (mine || its)
either_room true its (inl e) = absurd cc
either_room false its (inl e) = refl
either_room true its (inr e) = e
either_room false its (inr e) = refl

left_true : (mine its : Bool) → mine ≡ true → (mine || its) ≡ true
left_true true its e = refl
left_true false its e = absurd cc

right_true : (mine its : Bool) → its ≡ true → (mine || its) ≡ true
right_true true its e = refl
right_true false its e = e

-- the pages that are left of a second place, and what the first has now
pub record AreTaken (mine theirs now : Paged) (left : List PageContent) : Type 0 where
  pub long : AreLong left
  pub fits : length left ≤ length now.rooms
  pub slots : (f : ℕ) → f < 64 * length left → slot_in left f ≡ get theirs.slots f
  pub rooms : (i : ℕ) → i < length left → (page_in left i).room ≡ get_or theirs.rooms i false
  pub below : (f : ℕ) → f < 64 * length left → get now.slots f ≡ get mine.slots f
  pub above : (f : ℕ) → 64 * length left ≤ f → get now.slots f ≡ or_other (get theirs.slots f) (get mine.slots f)
  pub kept : (f : ℕ) → HasRoom mine.rooms f → HasRoom now.rooms f
  pub come : (f : ℕ) → 64 * length left ≤ f → HasRoom theirs.rooms f → HasRoom now.rooms f

-- none has come yet
pub taken_start : (mine : Paged) (pages : List PageContent) → AreLong pages → length (rooms_of pages) ≤ length mine.rooms → AreTaken mine (record { slots = table_of pages; rooms = rooms_of pages }) mine pages
taken_start mine pages long fits = record {
  long = long;
  fits = (let count : length (rooms_of pages) ≡ length pages = length-map pages (λ (p : PageContent). p.room) in omega (arith, fits, count));
  slots = λ f low. sym (paged pages long f);
  rooms = λ i low. sym (room_of pages i);
  below = λ f low. refl;
  above = λ f past. none_other (get (table_of pages) f) (get mine.slots f) (none_past pages long f past);
  kept = λ f room. room;
  come = λ f past room.
      let none : (page_in pages (f / 64)).room ≡ false = ap (λ (p : PageContent). p.room) (get_or_past pages (f / 64) no_page (omega (arith, past))) in
      absurd (let no : false ≡ true = sym none ∙ sym (room_of pages (f / 64)) ∙ room in cc);
}

long_front : (pages : List PageContent) (page : PageContent) → AreLong (pages ++ page ∷ []) → AreLong pages × (length page.slots ≡ 64)
long_front [] page long = (tt, long.0)
long_front (p ∷ ps) page long = (let rest = long_front ps page long.1 in ((long.0, rest.0), rest.1))

-- the last of those that are left comes
module _ (mine theirs now later : Paged) (left new : List PageContent) (page : PageContent) (so : AreTaken mine theirs now left) (is : left ≡ new ++ page ∷ []) where
  count_left : length left ≡ length new + 1
  count_left = ap length is ∙ length-append new (page ∷ [])

  last : page_in left (length new) ≡ page
  last = ap (λ ps. page_in ps (length new)) is ∙ get_or_push new page no_page (length new) refl

  front : (i : ℕ) → i < length new → page_in left i ≡ page_in new i
  front i low = ap (λ ps. page_in ps i) is ∙ get_or_append_left new (page ∷ []) no_page i low

  longs : AreLong new × (length page.slots ≡ 64)
  longs = long_front new page (subst AreLong is so.long)

  -- what is open in it is what the second place gave
  pub its_slots : (f : ℕ) → f / 64 ≡ length new → get_or page.slots (f % 64) None ≡ get theirs.slots f
  its_slots f here =
      ap (λ (p : PageContent). get_or p.slots (f % 64) None) (sym last) ∙ ap (λ i. get_or (page_in left i).slots (f % 64) None) (sym here)
      ∙ so.slots f (omega (arith, here, count_left))

  pub last_fits : length new < length now.rooms
  last_fits = omega (arith, count_left, so.fits)

  -- one of the two has nothing open there
  pub last_apart : (mine.slots ≡ empty) ⊎ (theirs.slots ≡ empty) → ((i : ℕ) → i < 64 → get now.slots (64 * length new + i) ≡ None) ⊎ ((i : ℕ) → get_or page.slots i None ≡ None)
  last_apart (inl none) = inl (λ i low. so.below (64 * length new + i) (omega (arith, low, count_left)) ∙ ap (λ (m : FinMap nat_cmp ℕ). get m (64 * length new + i)) none ∙ get-empty nat_cmp (64 * length new + i))
  last_apart (inr none) = inr (λ i. elim (cases_lt i 64) [
    | inl low ↦
        let place : (64 * length new + i) % 64 ≡ i = omega (arith, low) in
        ap (λ k. get_or page.slots k None) (sym place) ∙ its_slots (64 * length new + i) (omega (arith, low)) ∙ ap (λ (m : FinMap nat_cmp ℕ). get m (64 * length new + i)) none ∙ get-empty nat_cmp (64 * length new + i)
    | inr past ↦ get_or_past page.slots i None (omega (arith, past, longs.1))
  ])

  module _ (here : (i : ℕ) → i < 64 → get later.slots (64 * length new + i) ≡ or_other (get_or page.slots i None) (get now.slots (64 * length new + i)))
      (others : (f : ℕ) → f / 64 ≢ length new → get later.slots f ≡ get now.slots f)
      (rooms : later.rooms ≡ set now.rooms (length new) (get_or now.rooms (length new) false || page.room)) where
    room_here : (f : ℕ) → f / 64 ≡ length new → get_or later.rooms (f / 64) false ≡ (get_or now.rooms (f / 64) false || page.room)
    room_here f is = ap (λ rs. get_or rs (f / 64) false) rooms ∙ get_or-set_at now.rooms (length new) (f / 64) (get_or now.rooms (length new) false || page.room) false is last_fits ∙ ap (λ i. get_or now.rooms i false || page.room) (sym is)

    room_apart : (f : ℕ) → f / 64 ≢ length new → get_or later.rooms (f / 64) false ≡ get_or now.rooms (f / 64) false
    room_apart f away = ap (λ rs. get_or rs (f / 64) false) rooms ∙ get_or-set_other now.rooms (length new) (f / 64) (get_or now.rooms (length new) false || page.room) false away

    room_stays : (f : ℕ) → HasRoom now.rooms f → HasRoom later.rooms f
    room_stays f room = elim (cases_eq (f / 64) (length new)) [
      | inl here ↦ room_here f here ∙ left_true (get_or now.rooms (f / 64) false) page.room room
      | inr away ↦ room_apart f away ∙ room
    ]

    here_at : (f : ℕ) → f / 64 ≡ length new → get later.slots f ≡ or_other (get theirs.slots f) (get mine.slots f)
    here_at f is =
        let whole : f ≡ 64 * length new + f % 64 = omega (arith, is) in
        ap (get later.slots) whole ∙ here (f % 64) (omega arith)
        ∙ ap (λ g. or_other (get_or page.slots (f % 64) None) (get now.slots g)) (sym whole)
        ∙ ap (λ x. or_other x (get now.slots f)) (its_slots f is)
        ∙ ap (or_other (get theirs.slots f)) (so.below f (omega (arith, is, count_left)))

    pub taken_more : AreTaken mine theirs later new
    taken_more = record {
      long = longs.0;
      fits = (let same : length later.rooms ≡ length now.rooms = ap length rooms ∙ length-set now.rooms (length new) (get_or now.rooms (length new) false || page.room) in omega (arith, same, count_left, so.fits));
      slots = λ f low. ap (λ (p : PageContent). get_or p.slots (f % 64) None) (sym (front (f / 64) (omega (arith, low)))) ∙ so.slots f (omega (arith, low, count_left));
      rooms = λ i low. ap (λ (p : PageContent). p.room) (sym (front i low)) ∙ so.rooms i (omega (arith, low, count_left));
      below = λ f low. others f (away f low) ∙ so.below f (omega (arith, low, count_left));
      above = λ f past. elim (cases_eq (f / 64) (length new)) [
        | inl here ↦ here_at f here
        | inr away ↦ others f away ∙ so.above f (behind f past away)
      ];
      kept = λ f room. room_stays f (so.kept f room);
      come = λ f past room. elim (cases_eq (f / 64) (length new)) [
        | inl here ↦
            let its : page.room ≡ true = ap (λ (p : PageContent). p.room) (sym last) ∙ so.rooms (length new) (omega (arith, count_left)) ∙ ap (λ i. get_or theirs.rooms i false) (sym here) ∙ room in
            room_here f here ∙ right_true (get_or now.rooms (f / 64) false) page.room its
        | inr away ↦ room_stays f (so.come f (behind f past away) room)
      ];
    }
      where
        away : (f : ℕ) → f < 64 * length new → f / 64 ≢ length new
        away f low e = omega (arith, low, e)

        behind : (f : ℕ) → 64 * length new ≤ f → f / 64 ≢ length new → 64 * length left ≤ f
        behind f past away = (let no : f / 64 ≢ length new = away in omega (arith, past, count_left))

-- all have come
module _ (mine theirs now : Paged) (so : AreTaken mine theirs now []) where
  pub taken_mine : theirs.slots ≡ empty → now.slots ≡ mine.slots
  taken_mine none = same_map nat_cmp_total nat_cmp-IsAntisymmetric _ _ (λ f. so.above f (omega arith) ∙ sym (none_other (get theirs.slots f) (get mine.slots f) (ap (λ (m : FinMap nat_cmp ℕ). get m f) none ∙ get-empty nat_cmp f)))

  pub taken_theirs : mine.slots ≡ empty → now.slots ≡ theirs.slots
  taken_theirs none = same_map nat_cmp_total nat_cmp-IsAntisymmetric _ _ (λ f. so.above f (omega arith) ∙ sym (other_none (get theirs.slots f) (get mine.slots f) (ap (λ (m : FinMap nat_cmp ℕ). get m f) none ∙ get-empty nat_cmp f)))

  pub taken_rooms : (f : ℕ) → (HasRoom mine.rooms f) ⊎ (HasRoom theirs.rooms f) → HasRoom now.rooms f
  taken_rooms f (inl room) = so.kept f room
  taken_rooms f (inr room) = so.come f (omega arith) room

-- how many pages there are, by what a contract sees of them
pub rooms_long : (pages : List PageContent) (seen : Paged) → ◌≡◌ {A = Paged} (record { slots = table_of pages; rooms = rooms_of pages }) seen → length seen.rooms ≡ length pages
rooms_long pages seen is = ap (λ (p : Paged). length p.rooms) (sym is) ∙ length-map pages (λ (p : PageContent). p.room)

-- at a place without room nothing is open
module _ (pages : List PageContent) (bits : List ℕ) (marked : AreMarked pages bits) (seen : Paged) (is : seen_of pages ≡ seen) (n : ℕ) (page : PageContent) (low : n < length pages) (at : page ≡ get_or pages n page) (no_room : page.room ≡ false) where
  here_in : page ≡ page_in pages n
  here_in = get_or_read pages n page low at no_page

  pub place_none : (i : ℕ) → i < 64 → get seen.slots (64 * n + i) ≡ None
  place_none i small =
      sym (seen_word pages bits marked seen is n i page small here_in)
      ∙ ap (λ (p : PageContent). get_or p.slots i None) (here_in ∙ marked.bare n (ap (λ (p : PageContent). p.room) (sym here_in) ∙ no_room)) ∙ none_given 64 i

  pub place_bare : get_or seen.rooms n false ≡ false
  place_bare = ap (λ (p : Paged). get_or p.rooms n false) (sym is) ∙ room_of pages n ∙ ap (λ (p : PageContent). p.room) (sym here_in) ∙ no_room
