-- What is found by words of bits: the lowest descriptor that is free, or open, or of which something is
-- noted.
use Rattle.std.proofs.Common.{◌≡◌, ◌≢◌, ℕ, ◌+◌, ◌-◌, ◌*◌, ◌/◌, ◌%◌, ◌^◌, ◌<◌, ◌≤◌, List, get_or, Bool, true, false, not, Option, Some, None, nat_cmp, refl, sym, ap, subst, ◌∙◌, arith, inl, inr}
use Rattle.std.specs.Int.{bit_at, bit_not}
use Rattle.std.specs.List.{list_any}
use Rattle.std.specs.Option.{is_none, is_some}
use Rattle.std.proofs.lemmas.Bool.{cases_lt}
use Rattle.std.proofs.lemmas.Nat.Bits.{bit_at_not}
use Rattle.model.specs.FiniteMap.{FinMap, get}
use Rattle.fdtable.specs.Pages.{AreMarked, HasRoom, PageContent, is_full}
use Rattle.fdtable.specs.Lowest.{IsFree, IsOpenFrom}
use Rattle.fdtable.specs.Patches.{Given, IsLaid, or_before}
use Rattle.fdtable.specs.Words.{IsLowestClear, as_bit, bit_in}
use Rattle.fdtable.proofs.Laws.{none_unless}
use Rattle.fdtable.proofs.Bits.{AreSet, IsFound, Shows, found_next}
use Rattle.fdtable.proofs.Paged.{any_free, long_at, one_bit, page_in, paged, table_of, word_full}
use mir.Syntax.{w64}

-- a bit for each place that has something, and for each that has not
module _ {X : Type 0} (at : ℕ → Option X) where
  abbrev pub taken : ℕ → ℕ
  taken f = as_bit (is_some (at f))

  abbrev pub untaken : ℕ → ℕ
  untaken f = 1 - as_bit (is_some (at f))

module _ {X : Type 0} where
  zero_none : (o : Option X) → as_bit (is_some o) ≡ 0 → o ≡ None
  zero_none None e = refl
  zero_none (Some x) e = absurd cc

  one_some : (o : Option X) → as_bit (is_some o) ≡ 1 → o ≢ None
  one_some None e none = absurd cc
  one_some (Some x) e none = absurd cc

  some_one : (o : Option X) → o ≢ None → as_bit (is_some o) ≡ 1
  some_one None some = absurd (some refl)
  some_one (Some x) some = refl

  less_zero : (o : Option X) → 1 - as_bit (is_some o) ≡ 0 → o ≢ None
  less_zero None e none = (let one : 1 - 0 ≡ 0 = e in absurd (omega (arith, one)))
  less_zero (Some x) e none = absurd cc

  less_one : (o : Option X) → 1 - as_bit (is_some o) ≡ 1 → o ≡ None
  less_one None e = refl
  less_one (Some x) e = (let one : 1 - 1 ≡ 1 = e in absurd (omega (arith, one)))

  none_less : (o : Option X) → o ≡ None → 1 - as_bit (is_some o) ≡ 1
  none_less o e = ap (λ o. 1 - as_bit (is_some o)) e

  module _ (at : ℕ → Option X) (first : ℕ) where
    pub taken_below : (end : ℕ) → AreSet (taken at) first end → (f : ℕ) → first ≤ f → f < end → at f ≢ None
    taken_below end set f from low = one_some (at f) (set f from low)

    pub below_taken : (end : ℕ) → ((f : ℕ) → first ≤ f → f < end → at f ≢ None) → AreSet (taken at) first end
    below_taken end some f from low = some_one (at f) (some f from low)

    pub untaken_below : (end : ℕ) → AreSet (untaken at) first end → (f : ℕ) → first ≤ f → f < end → at f ≡ None
    untaken_below end set f from low = less_one (at f) (set f from low)

    pub below_untaken : (end : ℕ) → ((f : ℕ) → first ≤ f → f < end → at f ≡ None) → AreSet (untaken at) first end
    below_untaken end none f from low = none_less (at f) (none f from low)

    -- the lowest that has nothing
    pub free_found : (place : ℕ) → IsFound (taken at) first place → at place ≡ None
    free_found place is = zero_none (at place) is.clear

    -- the lowest that has something
    pub taken_found : (place : ℕ) → IsFound (untaken at) first place → at place ≢ None
    taken_found place is = less_zero (at place) is.clear

  -- nothing up to the last page, and nothing behind it
  pub none_behind : (at : ℕ → Option X) (first pages index : ℕ) → pages ≤ index → ((f : ℕ) → first ≤ f → f < 64 * index → at f ≡ None) → ((f : ℕ) → at f ≢ None → f < 64 * pages) → (f : ℕ) → first ≤ f → at f ≡ None
  none_behind at first pages index all so_far low f from = none_unless (at f) (λ some. let near : f < 64 * pages = low f some in some (so_far f from (omega (arith, near, all))))

  -- the other bits of a word
  pub shows_untaken : (at : ℕ → Option X) (index word : ℕ) → word < 2 ^ 64 → Shows (taken at) index word → Shows (untaken at) index (bit_not w64 word)
  shows_untaken at index word small shows i low = bit_at_not w64 word i small low ∙ ap (λ b. 1 - b) (shows i low)

-- all of a full page are open
pub full_open : (pages : List PageContent) (bits : List ℕ) → AreMarked pages bits → (f : ℕ) → bit_in bits (f / 64) ≡ 1 → get (table_of pages) f ≢ None
full_open pages bits marked f set none =
    let full : is_full (page_in pages (f / 64)) ≡ true = one_bit (is_full (page_in pages (f / 64))) (sym (marked.full (f / 64)) ∙ set) in
    let free : list_any is_none (page_in pages (f / 64)).slots ≡ true = any_free (page_in pages (f / 64)).slots (f % 64) (omega (arith, long_at pages marked.long (f / 64))) (sym (paged pages marked.long f) ∙ none) in
    absurd (let no : false ≡ true = ap not (sym free) ∙ full in cc)

-- the lowest that is free behind full pages
module _ (pages : List PageContent) (bits : List ℕ) (marked : AreMarked pages bits) (first index word : ℕ) (so_far : AreSet (taken (get (table_of pages))) first (64 * (first / 64 + 1)))
    (set : (i : ℕ) → first / 64 + 1 ≤ i → i < index → bit_in bits i ≡ 1) (behind : first / 64 + 1 ≤ index) (shows : Shows (taken (get (table_of pages))) index word) where
  all_set : AreSet (taken (get (table_of pages))) first (64 * index)
  all_set f from low = elim (cases_lt f (64 * (first / 64 + 1))) [
    | inl near ↦ so_far f from near
    | inr far ↦ some_one (get (table_of pages) f) (full_open pages bits marked f (set (f / 64) (omega (arith, far)) (omega (arith, low))))
  ]

  pub found_behind : (b place : ℕ) → IsLowestClear word (Some b) → place ≡ index * 64 + b → IsFound (taken (get (table_of pages))) first place
  found_behind b place lowest is = found_next (taken (get (table_of pages))) first index word shows all_set b place (omega (arith, behind)) lowest is

-- the same of any table that these pages give
pub seen_behind : (pages : List PageContent) (bits : List ℕ) → AreMarked pages bits → (table : FinMap nat_cmp ℕ) → table_of pages ≡ table → (first index word : ℕ) → AreSet (taken (get table)) first (64 * (first / 64 + 1))
    → ((i : ℕ) → first / 64 + 1 ≤ i → i < index → bit_in bits i ≡ 1) → first / 64 + 1 ≤ index → Shows (taken (get table)) index word → (b place : ℕ) → IsLowestClear word (Some b) → place ≡ index * 64 + b → IsFound (taken (get table)) first place
seen_behind pages bits marked table is first index word so_far set behind shows b place lowest at =
    subst (λ (m : FinMap nat_cmp ℕ). IsFound (taken (get m)) first place) is
    (found_behind pages bits marked first index word (subst (λ (m : FinMap nat_cmp ℕ). AreSet (taken (get m)) first (64 * (first / 64 + 1))) (sym is) so_far) set behind
    (subst (λ (m : FinMap nat_cmp ℕ). Shows (taken (get m)) index word) (sym is) shows) b place lowest at)

-- and a page with a free one has it
pub not_all : (pages : List PageContent) (bits : List ℕ) (index word : ℕ) → AreMarked pages bits → bit_in bits index ≡ 0 → ((i : ℕ) → i < 64 → bit_at word i ≡ as_bit (is_some (get_or (page_in pages index).slots i None))) → IsLowestClear word None → ⊥
not_all pages bits index word marked clear shows none = word_full (page_in pages index) word (long_at pages marked.long index) shows (sym (marked.full index) ∙ clear) none

-- there is room for what is open, up to one descriptor more
pub room_next : (table : FinMap nat_cmp ℕ) (room more : List Bool) (from f : ℕ) → ((g : ℕ) → g < from → get table g ≢ None → HasRoom room g) → IsOpenFrom table from (Some f) → HasRoom more f → ((g : ℕ) → HasRoom room g → HasRoom more g) → (g : ℕ) → g < f + 1 → get table g ≢ None → HasRoom more g
room_next table room more from f so_far found here kept g low some = elim (cases_lt g from) [
  | inl before ↦ kept g (so_far g before some)
  | inr high ↦ elim (cases_lt g f) [
    | inl between ↦ absurd (some (found.2 g high between))
    | inr last ↦ (let same : f ≡ g = omega (arith, low, last) in subst (HasRoom more) same here)
  ]
]

-- and for all of it
pub room_all : (table : FinMap nat_cmp ℕ) (room : List Bool) (from : ℕ) → ((g : ℕ) → g < from → get table g ≢ None → HasRoom room g) → IsOpenFrom table from None → (g : ℕ) → get table g ≢ None → HasRoom room g
room_all table room from so_far none g some = elim (cases_lt g from) [
  | inl before ↦ so_far g before some
  | inr high ↦ absurd (some (none g high))
]

-- a free descriptor of a table with a patch on top is one of the table that it leaves
pub laid_free : (patch : Given) (before laid : FinMap nat_cmp ℕ) (first f : ℕ) → IsLaid patch before laid → IsFound (taken (λ g. or_before (get patch g) (get before g))) first f → IsFree laid first f
laid_free patch before laid first f is found = (
  found.from,
  is f ∙ free_found (λ g. or_before (get patch g) (get before g)) first f found,
  λ g from low none. taken_below (λ g. or_before (get patch g) (get before g)) first f found.below g from low (sym (is g) ∙ none),
)
