-- What pages give, descriptor by descriptor.
use Rattle.std.proofs.Common.{◌≡◌, ◌≢◌, ℕ, suc, ◌+◌, ◌-◌, ◌*◌, ◌/◌, ◌%◌, ◌<◌, ◌≤◌, List, [], ◌∷◌, ◌++◌, length, length-append, get_or, replicate, Bool, true, false, not, Option, Some, None, nat_cmp, Result, Ok, Err, OnOk, OnErr, refl, sym, ap, ◌∙◌, arith, inl, inr}
use Rattle.std.proofs.Math.ListN.{set}
use Rattle.std.specs.List.{AllByRecursion, list_any}
use Rattle.std.specs.Option.{is_none, is_some}
use Rattle.std.specs.Cmp.{nat_cmp_total}
use Rattle.std.specs.Int.{bit_at}
use Rattle.std.proofs.lemmas.Bool.{cases_eq, cases_lt, true_from_ne_false}
use Rattle.std.proofs.lemmas.Grind.{get_or-set_at}
use Rattle.std.proofs.lemmas.List.{get_or_append_left, get_or-append_right, get_or_past, get_or-set_other, length-set}
use Rattle.model.specs.FiniteMap.{FinMap, get, from_entries, same_map, nat_cmp-IsAntisymmetric}
use Rattle.model.specs.Places.{placed}
use Rattle.model.proofs.Laws.{get-placed, get_same, get_other, removed_same, removed_other}
use Rattle.fdtable.specs.Pages.{AreMarked, HasRoom, PageContent, Paged, given_at, is_full, most_pages, no_page, rooms_of, slots_of}
use Rattle.fdtable.specs.Words.{IsLowestClear, as_bit, bit_in}
use Rattle.ids.specs.declared.limits.TheConstants.{DESCRIPTORS}

abbrev pub AreLong : List PageContent → Type 0
AreLong pages = AllByRecursion (λ page. length page.slots ≡ 64) pages

abbrev pub page_in : List PageContent → ℕ → PageContent
page_in pages index = get_or pages index no_page

abbrev pub slot_in : List PageContent → ℕ → Option ℕ
slot_in pages f = get_or (page_in pages (f / 64)).slots (f % 64) None

-- what all pages are as one table
abbrev pub table_of : List PageContent → FinMap nat_cmp ℕ
table_of pages = from_entries (placed 0 (slots_of pages))

-- an empty page gives nothing
pub none_given : (n i : ℕ) → get_or {A = Option ℕ} (replicate n None) i None ≡ None
none_given ℕ.zero i = refl
none_given (suc n) ℕ.zero = refl
none_given (suc n) (suc i) = none_given n i

in_row : (pages : List PageContent) → AreLong pages → (f : ℕ) → get_or (slots_of pages) f None ≡ slot_in pages f
in_row [] long f = sym (none_given 64 (f % 64))
in_row (p ∷ ps) long f = elim (cases_lt f 64) [
  | inl low ↦ (
      let first : f / 64 ≡ 0 = omega (arith, low) in
      let place : f % 64 ≡ f = omega (arith, low) in
      get_or_append_left p.slots (slots_of ps) None f (omega (arith, low, long.0))
      ∙ sym (ap (λ i. get_or (get_or (p ∷ ps) i no_page).slots (f % 64) None) first ∙ ap (λ i. get_or p.slots i None) place))
  | inr high ↦ (
      let page : f / 64 ≡ suc ((f - 64) / 64) = omega (arith, high) in
      let place : f % 64 ≡ (f - 64) % 64 = omega (arith, high) in
      get_or-append_right p.slots (slots_of ps) 64 f None long.0 high
      ∙ in_row ps long.1 (f - 64)
      ∙ sym (ap (λ i. get_or (get_or (p ∷ ps) i no_page).slots (f % 64) None) page ∙ ap (λ i. get_or (get_or ps ((f - 64) / 64) no_page).slots i None) place))
]

-- a table gives what its page does
pub paged : (pages : List PageContent) → AreLong pages → (f : ℕ) → get (table_of pages) f ≡ slot_in pages f
paged pages long f = get-placed (slots_of pages) f ∙ in_row pages long f

-- a descriptor of one page
pub paged_at : (pages : List PageContent) → AreLong pages → (n i : ℕ) → i < 64 → get (table_of pages) (64 * n + i) ≡ get_or (page_in pages n).slots i None
paged_at pages long n i low =
    let page : (64 * n + i) / 64 ≡ n = omega (arith, low) in
    let place : (64 * n + i) % 64 ≡ i = omega (arith, low) in
    paged pages long (64 * n + i) ∙ ap (λ k. get_or (page_in pages k).slots ((64 * n + i) % 64) None) page ∙ ap (λ k. get_or (page_in pages n).slots k None) place

-- behind the last page nothing is open
pub none_past : (pages : List PageContent) → AreLong pages → (f : ℕ) → 64 * length pages ≤ f → get (table_of pages) f ≡ None
none_past pages long f past = paged pages long f ∙ ap (λ (p : PageContent). get_or p.slots (f % 64) None) (get_or_past pages (f / 64) no_page (omega (arith, past))) ∙ none_given 64 (f % 64)

pub room_of : (pages : List PageContent) (i : ℕ) → get_or (rooms_of pages) i false ≡ (page_in pages i).room
room_of [] i = refl
room_of (p ∷ ps) ℕ.zero = refl
room_of (p ∷ ps) (suc i) = room_of ps i

-- there is room for what is open
pub has_room : (pages : List PageContent) (bits : List ℕ) → AreMarked pages bits → (f : ℕ) → get (table_of pages) f ≢ None → HasRoom (rooms_of pages) f
has_room pages bits marked f some =
    room_of pages (f / 64)
    ∙ true_from_ne_false (page_in pages (f / 64)).room (λ e. some (
    paged pages marked.long f ∙ ap (λ (p : PageContent). get_or p.slots (f % 64) None) (marked.bare (f / 64) e) ∙ none_given 64 (f % 64)))

pub long_at : (pages : List PageContent) → AreLong pages → (i : ℕ) → length (page_in pages i).slots ≡ 64
long_at [] long i = refl
long_at (p ∷ ps) long ℕ.zero = long.0
long_at (p ∷ ps) long (suc i) = long_at ps long.1 i

long_set : (pages : List PageContent) → AreLong pages → (i : ℕ) (page : PageContent) → length page.slots ≡ 64 → AreLong (set pages i page)
long_set [] long i page is = tt
long_set (p ∷ ps) long ℕ.zero page is = (is, long.1)
long_set (p ∷ ps) long (suc i) page is = (long.0, long_set ps long.1 i page is)

pub long_push : (pages : List PageContent) → AreLong pages → (page : PageContent) → length page.slots ≡ 64 → AreLong (pages ++ page ∷ [])
long_push [] long page is = (is, tt)
long_push (p ∷ ps) long page is = (long.0, long_push ps long.1 page is)

-- one page is another now
module _ (pages : List PageContent) (long : AreLong pages) (n : ℕ) (page : PageContent) (low : n < length pages) (its_long : length page.slots ≡ 64) where
  pub set_here : (f : ℕ) → f / 64 ≡ n → get (table_of (set pages n page)) f ≡ get_or page.slots (f % 64) None
  set_here f is =
      paged (set pages n page) (long_set pages long n page its_long) f
      ∙ ap (λ (p : PageContent). get_or p.slots (f % 64) None) (get_or-set_at pages n (f / 64) page no_page is low)

  pub set_apart : (f : ℕ) → f / 64 ≢ n → get (table_of (set pages n page)) f ≡ get (table_of pages) f
  set_apart f away =
      paged (set pages n page) (long_set pages long n page its_long) f
      ∙ ap (λ (p : PageContent). get_or p.slots (f % 64) None) (get_or-set_other pages n (f / 64) page no_page away)
      ∙ sym (paged pages long f)

  pub marked_set : (bits later : List ℕ) → AreMarked pages bits → (page.room ≡ false → page ≡ no_page) → bit_in later n ≡ as_bit (is_full page) → ((i : ℕ) → i ≢ n → bit_in later i ≡ bit_in bits i) → length later ≡ length bits → AreMarked (set pages n page) later
  marked_set bits later marked bare here others count =
      let same : length (set pages n page) ≡ length pages = length-set pages n page in
      record {
        few = omega (arith, marked.few, same);
        long = long_set pages long n page its_long;
        bare = λ i. elim (cases_eq i n) as (λ _. (page_in (set pages n page) i).room ≡ false → page_in (set pages n page) i ≡ no_page) [
          | inl is ↦ λ e.
              let now : page_in (set pages n page) i ≡ page = get_or-set_at pages n i page no_page is low in
              now ∙ bare (sym (ap (λ (p : PageContent). p.room) now) ∙ e)
          | inr away ↦ λ e.
              let now : page_in (set pages n page) i ≡ page_in pages i = get_or-set_other pages n i page no_page away in
              now ∙ marked.bare i (sym (ap (λ (p : PageContent). p.room) now) ∙ e)
        ];
        words = omega (arith, marked.words, same, count);
        few_words = omega (arith, marked.few_words, count);
        full = λ i. elim (cases_eq i n) [
          | inl is ↦ ap (bit_in later) is ∙ here ∙ ap (λ p. as_bit (is_full p)) (sym (get_or-set_at pages n i page no_page is low))
          | inr away ↦ others i away ∙ marked.full i ∙ ap (λ p. as_bit (is_full p)) (sym (get_or-set_other pages n i page no_page away))
        ];
      }

pub given_same : (f : ℕ) (o : Option ℕ) (table : FinMap nat_cmp ℕ) → get (given_at f o table) f ≡ o
given_same f (Some d) table = get_same table f d
given_same f None table = removed_same table f

pub given_other : (f : ℕ) (o : Option ℕ) (table : FinMap nat_cmp ℕ) (q : ℕ) → q ≢ f → get (given_at f o table) q ≡ get table q
given_other f (Some d) table q away = get_other table f q d away
given_other f None table q away = removed_other table f q away

-- one descriptor of a page is open on this now, or closed
abbrev pub put_in : PageContent → ℕ → Option ℕ → PageContent
put_in page i o = record page { slots = set page.slots i o }

module _ (pages : List PageContent) (long : AreLong pages) (f : ℕ) (o : Option ℕ) (low : f / 64 < length pages) where
  pub put_long : length (put_in (page_in pages (f / 64)) (f % 64) o).slots ≡ 64
  put_long = length-set (page_in pages (f / 64)).slots (f % 64) o ∙ long_at pages long (f / 64)

  elsewhere : (q : ℕ) → q / 64 ≡ f / 64 → q ≢ f → q % 64 ≢ f % 64
  elsewhere q is away e = away (let same : q ≡ f = omega (arith, is, e) in same)

  in_page : (q : ℕ) → q / 64 ≡ f / 64 → get_or (set (page_in pages (f / 64)).slots (f % 64) o) (q % 64) None ≡ get (given_at f o (table_of pages)) q
  in_page q is = elim (cases_eq q f) [
    | inl e ↦
        let place : q % 64 ≡ f % 64 = ap (λ i. i % 64) e in
        let inside : f % 64 < length (page_in pages (f / 64)).slots = omega (arith, long_at pages long (f / 64)) in
        get_or-set_at (page_in pages (f / 64)).slots (f % 64) (q % 64) o None place inside
        ∙ sym (ap (get (given_at f o (table_of pages))) e ∙ given_same f o (table_of pages))
    | inr away ↦
        get_or-set_other (page_in pages (f / 64)).slots (f % 64) (q % 64) o None (elsewhere q is away)
        ∙ ap (λ k. get_or (page_in pages k).slots (q % 64) None) (sym is)
        ∙ sym (given_other f o (table_of pages) q away ∙ paged pages long q)
  ]

  pub put_slot : table_of (set pages (f / 64) (put_in (page_in pages (f / 64)) (f % 64) o)) ≡ given_at f o (table_of pages)
  put_slot = same_map nat_cmp_total nat_cmp-IsAntisymmetric _ _ (λ q. elim (cases_eq (q / 64) (f / 64)) [
    | inl is ↦ set_here pages long (f / 64) (put_in (page_in pages (f / 64)) (f % 64) o) low put_long q is ∙ in_page q is
    | inr away ↦ set_apart pages long (f / 64) (put_in (page_in pages (f / 64)) (f % 64) o) low put_long q away ∙ sym (given_other f o (table_of pages) q (λ e. away (ap (λ i. i / 64) e)))
  ])

-- whether none of a row is free
pub any_free : (xs : List (Option ℕ)) (i : ℕ) → i < length xs → get_or xs i None ≡ None → list_any is_none xs ≡ true
any_free [] i low none = absurd (omega (arith, low))
any_free (None ∷ xs) ℕ.zero low none = refl
any_free (Some d ∷ xs) ℕ.zero low none = absurd cc
any_free (None ∷ xs) (suc i) low none = refl
any_free (Some d ∷ xs) (suc i) low none = any_free xs i (omega (arith, low)) none

no_free : (xs : List (Option ℕ)) → ((i : ℕ) → i < length xs → is_some (get_or xs i None) ≡ true) → list_any is_none xs ≡ false
no_free [] all = refl
no_free (None ∷ xs) all = absurd (let no : false ≡ true = all 0 (omega arith) in cc)
no_free (Some d ∷ xs) all = no_free xs (λ i low. all (suc i) (omega (arith, low)))

pub one_bit : (b : Bool) → as_bit b ≡ 1 → b ≡ true
one_bit true e = refl
one_bit false e = absurd cc

pub zero_bit : (o : Option ℕ) → as_bit (is_some o) ≡ 0 → o ≡ None
zero_bit None e = refl
zero_bit (Some d) e = absurd cc

-- a page is full where its word has no bit that is clear
pub full_word : (page : PageContent) (word : ℕ) (r : Option ℕ) → length page.slots ≡ 64 → ((i : ℕ) → i < 64 → bit_at word i ≡ as_bit (is_some (get_or page.slots i None))) → IsLowestClear word r → is_none r ≡ is_full page
full_word page word None long bits lowest = sym (ap not (no_free page.slots (λ i low. let small : i < 64 = omega (arith, low, long) in one_bit (is_some (get_or page.slots i None)) (sym (bits i small) ∙ lowest i small))))
full_word page word (Some b) long bits lowest = sym (ap not (any_free page.slots b (omega (arith, lowest.0, long)) (zero_bit (get_or page.slots b None) (sym (bits b lowest.0) ∙ lowest.1))))

-- and a page that is not full has one
pub word_full : (page : PageContent) (word : ℕ) → length page.slots ≡ 64 → ((i : ℕ) → i < 64 → bit_at word i ≡ as_bit (is_some (get_or page.slots i None))) → as_bit (is_full page) ≡ 0 → IsLowestClear word None → ⊥
word_full page word long bits not_full lowest = (let full : true ≡ is_full page = full_word page word None long bits lowest in let one : 1 ≡ as_bit (is_full page) = ap as_bit full in omega (arith, one, not_full))

-- more words, with the same bits
pub marked_longer : (pages : List PageContent) (bits later : List ℕ) → AreMarked pages bits → ((i : ℕ) → bit_in later i ≡ bit_in bits i) → length bits ≤ length later → length later ≤ most_pages → AreMarked pages later
marked_longer pages bits later marked same longer few = record {
  few = marked.few;
  long = marked.long;
  bare = marked.bare;
  words = omega (arith, marked.words, longer);
  few_words = few;
  full = λ i. same i ∙ marked.full i;
}

-- one page more, in which nothing is open
same_push : (pages : List PageContent) (i : ℕ) → page_in (pages ++ no_page ∷ []) i ≡ page_in pages i
same_push [] ℕ.zero = refl
same_push [] (suc i) = refl
same_push (p ∷ ps) ℕ.zero = refl
same_push (p ∷ ps) (suc i) = same_push ps i

pub marked_push : (pages : List PageContent) (bits : List ℕ) → AreMarked pages bits → length pages < 64 * length bits → length pages < most_pages → AreMarked (pages ++ no_page ∷ []) bits
marked_push pages bits marked words few =
    let count : length (pages ++ no_page ∷ []) ≡ length pages + 1 = length-append pages (no_page ∷ []) in
    record {
      few = omega (arith, count, few);
      long = long_push pages marked.long no_page refl;
      bare = λ i e. same_push pages i ∙ marked.bare i (sym (ap (λ (p : PageContent). p.room) (same_push pages i)) ∙ e);
      words = omega (arith, count, words);
      few_words = marked.few_words;
      full = λ i. marked.full i ∙ ap (λ p. as_bit (is_full p)) (sym (same_push pages i));
    }

pub table_push : (pages : List PageContent) → AreLong pages → table_of (pages ++ no_page ∷ []) ≡ table_of pages
table_push pages long = same_map nat_cmp_total nat_cmp-IsAntisymmetric _ _ (λ f.
    paged (pages ++ no_page ∷ []) (long_push pages long no_page refl) f
    ∙ ap (λ (p : PageContent). get_or p.slots (f % 64) None) (same_push pages (f / 64))
    ∙ sym (paged pages long f))

pub room_push : (pages : List PageContent) (f : ℕ) → HasRoom (rooms_of pages) f → HasRoom (rooms_of (pages ++ no_page ∷ [])) f
room_push pages f room = room_of (pages ++ no_page ∷ []) (f / 64) ∙ ap (λ (p : PageContent). p.room) (same_push pages (f / 64)) ∙ sym (room_of pages (f / 64)) ∙ room

-- a page has more room, or as much
module _ (pages : List PageContent) (bits : List ℕ) (marked : AreMarked pages bits) (n : ℕ) (page : PageContent) (low : n < length pages) (slots : page.slots ≡ (page_in pages n).slots) where
  its_length : length page.slots ≡ 64
  its_length = ap length slots ∙ long_at pages marked.long n

  pub marked_room : (page.room ≡ false → page ≡ no_page) → AreMarked (set pages n page) bits
  marked_room bare = marked_set pages marked.long n page low its_length bits bits marked bare (marked.full n ∙ ap (λ xs. as_bit (not (list_any is_none xs))) (sym slots)) (λ i away. refl) refl

  pub table_room : table_of (set pages n page) ≡ table_of pages
  table_room = same_map nat_cmp_total nat_cmp-IsAntisymmetric _ _ (λ f. elim (cases_eq (f / 64) n) [
    | inl is ↦
        set_here pages marked.long n page low its_length f is ∙ ap (λ xs. get_or xs (f % 64) None) slots
        ∙ ap (λ i. get_or (page_in pages i).slots (f % 64) None) (sym is) ∙ sym (paged pages marked.long f)
    | inr away ↦ set_apart pages marked.long n page low its_length f away
  ])

  pub room_more : ((page_in pages n).room ≡ true → page.room ≡ true) → (f : ℕ) → HasRoom (rooms_of pages) f → HasRoom (rooms_of (set pages n page)) f
  room_more more f room = room_of (set pages n page) (f / 64) ∙ elim (cases_eq (f / 64) n) [
    | inl is ↦ ap (λ (p : PageContent). p.room) (get_or-set_at pages n (f / 64) page no_page is low) ∙ more (ap (λ i. (page_in pages i).room) (sym is) ∙ sym (room_of pages (f / 64)) ∙ room)
    | inr away ↦ ap (λ (p : PageContent). p.room) (get_or-set_other pages n (f / 64) page no_page away) ∙ sym (room_of pages (f / 64)) ∙ room
  ]

-- which pages have room, once one page is another
pub rooms_set : (pages : List PageContent) (n : ℕ) (page : PageContent) → rooms_of (set pages n page) ≡ set (rooms_of pages) n page.room
rooms_set [] n page = refl
rooms_set (p ∷ ps) ℕ.zero page = refl
rooms_set (p ∷ ps) (suc n) page = ap (λ rs. p.room ∷ rs) (rooms_set ps n page)

-- and where that page has as much room as before
pub rooms_kept : (pages : List PageContent) (n : ℕ) (page : PageContent) → page.room ≡ (page_in pages n).room → rooms_of (set pages n page) ≡ rooms_of pages
rooms_kept [] n page is = refl
rooms_kept (p ∷ ps) ℕ.zero page is = ap (λ r. r ∷ rooms_of ps) is
rooms_kept (p ∷ ps) (suc n) page is = ap (λ rs. p.room ∷ rs) (rooms_kept ps n page is)

-- what a contract sees of pages
abbrev pub seen_of : List PageContent → Paged
seen_of pages = record { slots = table_of pages; rooms = rooms_of pages }

module _ (pages : List PageContent) (bits : List ℕ) (marked : AreMarked pages bits) (seen : Paged) (is : seen_of pages ≡ seen) where
  some_in : (f : ℕ) → get seen.slots f ≢ None → get (table_of pages) f ≢ None
  some_in f some none = some (ap (λ (p : Paged). get p.slots f) (sym is) ∙ none)

  pub seen_low : (f : ℕ) → get seen.slots f ≢ None → f < 64 * length pages
  seen_low f some = elim (cases_lt f (64 * length pages)) [
    | inl low ↦ low
    | inr past ↦ absurd (some_in f some (none_past pages marked.long f past))
  ]

  pub seen_small : (f : ℕ) → get seen.slots f ≢ None → f < DESCRIPTORS
  seen_small f some = (let low : f < 64 * length pages = seen_low f some in omega (arith, low, marked.few))

  pub seen_room : (f : ℕ) → get seen.slots f ≢ None → HasRoom seen.rooms f
  seen_room f some = ap (λ (p : Paged). get_or p.rooms (f / 64) false) (sym is) ∙ has_room pages bits marked f (some_in f some)

  -- a descriptor of a page that is there, and of one that is not
  pub seen_at : (f n i : ℕ) (page : PageContent) → f / 64 ≡ n → f % 64 ≡ i → page ≡ page_in pages n → get_or page.slots i None ≡ get seen.slots f
  seen_at f n i page at its here =
      ap (λ (p : PageContent). get_or p.slots i None) here ∙ ap (λ k. get_or (page_in pages k).slots i None) (sym at) ∙ ap (λ k. get_or (page_in pages (f / 64)).slots k None) (sym its)
      ∙ sym (paged pages marked.long f) ∙ ap (λ (p : Paged). get p.slots f) is

  pub seen_past : (f n : ℕ) → f / 64 ≡ n → length pages ≤ n → None ≡ get seen.slots f
  seen_past f n at past = sym (none_past pages marked.long f (omega (arith, at, past))) ∙ ap (λ (p : Paged). get p.slots f) is

  -- the bits of a page that is there, and of one that is not
  pub seen_word : (n i : ℕ) (page : PageContent) → i < 64 → page ≡ page_in pages n → get_or page.slots i None ≡ get seen.slots (64 * n + i)
  seen_word n i page low here =
      ap (λ (p : PageContent). get_or p.slots i None) here ∙ sym (paged_at pages marked.long n i low) ∙ ap (λ (p : Paged). get p.slots (64 * n + i)) is

-- where there is room a page is there
pub room_low : (pages : List PageContent) (f : ℕ) → HasRoom (rooms_of pages) f → f / 64 < length pages
room_low pages f room = elim (cases_lt (f / 64) (length pages)) [
  | inl low ↦ low
  | inr past ↦ absurd (let no : false ≡ true = sym (ap (λ (p : PageContent). p.room) (get_or_past pages (f / 64) no_page past)) ∙ sym (room_of pages (f / 64)) ∙ room in cc)
]

-- one descriptor of a page with room is open on this now, or closed
module _ (pages : List PageContent) (bits : List ℕ) (marked : AreMarked pages bits) (f : ℕ) (o : Option ℕ) (has : HasRoom (rooms_of pages) f) (page : PageContent) (is : page ≡ put_in (page_in pages (f / 64)) (f % 64) o) where
  its_long : length page.slots ≡ 64
  its_long = ap (λ (p : PageContent). length p.slots) is ∙ put_long pages marked.long f o (room_low pages f has)

  its_room : page.room ≡ (page_in pages (f / 64)).room
  its_room = ap (λ (p : PageContent). p.room) is

  pub put_marked : (word : ℕ) (r : Option ℕ) (later : List ℕ) → ((i : ℕ) → i < 64 → bit_at word i ≡ as_bit (is_some (get_or page.slots i None))) → IsLowestClear word r → bit_in later (f / 64) ≡ as_bit (is_none r)
      → ((i : ℕ) → i ≢ f / 64 → bit_in later i ≡ bit_in bits i) → length later ≡ length bits → AreMarked (set pages (f / 64) page) later
  put_marked word r later shows lowest here others count =
      marked_set pages marked.long (f / 64) page (room_low pages f has) its_long bits later marked
      (λ e. absurd (let no : false ≡ true = sym e ∙ its_room ∙ sym (room_of pages (f / 64)) ∙ has in cc)) (here ∙ ap as_bit (full_word page word r its_long shows lowest)) others count

  pub put_table : table_of (set pages (f / 64) page) ≡ given_at f o (table_of pages)
  put_table = ap (λ (p : PageContent). table_of (set pages (f / 64) p)) is ∙ put_slot pages marked.long f o (room_low pages f has)

  pub put_rooms : rooms_of (set pages (f / 64) page) ≡ rooms_of pages
  put_rooms = rooms_kept pages (f / 64) page its_room

-- what a page is once room was asked for
pub promise_slots : {A E : Type 0} (r : Result A E) (old new : PageContent) → OnOk r (new ≡ record old { room = true }) → OnErr r (new ≡ old) → new.slots ≡ old.slots
promise_slots (Ok x) old new ok err = ap (λ (p : PageContent). p.slots) ok
promise_slots (Err e) old new ok err = ap (λ (p : PageContent). p.slots) err

-- it has no less room
pub promise_more : {A E : Type 0} (r : Result A E) (old new : PageContent) → OnOk r (new ≡ record old { room = true }) → OnErr r (new ≡ old) → old.room ≡ true → new.room ≡ true
promise_more (Ok x) old new ok err room = ap (λ (p : PageContent). p.room) ok
promise_more (Err e) old new ok err room = ap (λ (p : PageContent). p.room) err ∙ room

-- without room nothing is open in it
pub promise_bare : {A E : Type 0} (r : Result A E) (old new : PageContent) → OnOk r (new ≡ record old { room = true }) → OnErr r (new ≡ old) → (old.room ≡ false → old ≡ no_page) → new.room ≡ false → new ≡ no_page
promise_bare (Ok x) old new ok err bare e = absurd (let no : true ≡ false = sym (ap (λ (p : PageContent). p.room) ok) ∙ e in cc)
promise_bare (Err e) old new ok err bare none = err ∙ bare (sym (ap (λ (p : PageContent). p.room) err) ∙ none)

-- and its descriptors have room, unless memory was refused
pub promise_has : {A E : Type 0} (r : Result A E) (pages : List PageContent) (f : ℕ) (new : PageContent) → f / 64 < length pages → OnOk r (new ≡ record (page_in pages (f / 64)) { room = true }) → OnOk r (HasRoom (rooms_of (set pages (f / 64) new)) f)
promise_has (Ok x) pages f new low ok = room_of (set pages (f / 64) new) (f / 64) ∙ ap (λ (p : PageContent). p.room) (get_or-set_at pages (f / 64) (f / 64) new no_page refl low ∙ ok)
promise_has (Err e) pages f new low ok = tt
