-- What is noted in pages and words, descriptor by descriptor.
use Rattle.std.proofs.Common.{◌≡◌, ◌≢◌, ℕ, suc, ◌+◌, ◌-◌, ◌*◌, ◌/◌, ◌%◌, ◌^◌, ◌<◌, ◌≤◌, bit_and, bit_or, max, min, ◌==◌, ◌⊎◌, cond, Bool, true, false, List, [], length, get_or, map, Option, Some, None, nat_cmp, Result, Ok, Err, OnErr, refl, sym, ap, ap₂, subst, ◌∙◌, arith, inl, inr}
use Rattle.std.specs.Int.{bit_at, bit_not}
use Rattle.std.specs.Option.{is_none, is_some}
use Rattle.std.specs.Cmp.{nat_cmp_total}
use Rattle.std.proofs.lemmas.Bool.{cases_eq, cases_lt}
use Rattle.std.proofs.lemmas.List.{get_or_past}
use Rattle.std.proofs.lemmas.Nat.Bits.{bit_at-lt, bit_at_and, bit_at_not, bit_at_or}
use Rattle.model.specs.FiniteMap.{FinMap, empty, get, from_entries, get-empty, insert, same_map, nat_cmp-IsAntisymmetric}
use Rattle.model.specs.Places.{placed}
use Rattle.model.specs.Plan.{rising}
use Rattle.model.specs.State.{mapped}
use Rattle.model.proofs.Laws.{get-placed, get_same, get_other}
use Rattle.fdtable.specs.Pages.{HasRoom, Paged, given_at, most_pages}
use Rattle.fdtable.specs.Patches.{Given, IsPatch, noted_at, noted_by, laid_at, notes_of, or_before}
use Rattle.ids.specs.declared.limits.TheConstants.{DESCRIPTORS}
use Rattle.fdtable.specs.Words.{as_bit, bit_in}
use Rattle.fdtable.proofs.Laws.{none_unless}
use Rattle.fdtable.proofs.Bits.{bit_past, shows_words}
use Rattle.fdtable.proofs.Paged.{given_same, given_other}
use mir.Syntax.{w64}

module _ {X : Type 0} where
  long_rising : (h : ℕ → Option X) (first count : ℕ) → length (map h (rising first count)) ≡ count
  long_rising h first ℕ.zero = refl
  long_rising h first (suc count) = ap suc (long_rising h (suc first) count)

  at_rising : (h : ℕ → Option X) (first count i : ℕ) → i < count → get_or (map h (rising first count)) i None ≡ h (first + i)
  at_rising h first ℕ.zero i low = absurd (omega (arith, low))
  at_rising h first (suc count) ℕ.zero low = let same : first ≡ first + 0 = omega arith in ap h same
  at_rising h first (suc count) (suc i) low = let next : suc first + i ≡ first + suc i = omega arith in at_rising h (suc first) count i (omega (arith, low)) ∙ ap h next

-- all that is noted as one map
abbrev pub notes : Paged → List ℕ → Given
notes given closed = from_entries (placed 0 (notes_of given closed))

-- which gives what is noted of each descriptor
pub noted_is : (given : Paged) (closed : List ℕ) → IsPatch given closed → (f : ℕ) → get (notes given closed) f ≡ noted_at given closed f
noted_is given closed so f = get-placed (notes_of given closed) f ∙ elim (cases_lt f (64 * (length given.rooms + length closed))) [
  | inl low ↦ at_rising (noted_at given closed) 0 (64 * (length given.rooms + length closed)) f low ∙ (let same : 0 + f ≡ f = omega arith in ap (noted_at given closed) same)
  | inr past ↦
      get_or_past (notes_of given closed) f None (let long : length (notes_of given closed) ≡ 64 * (length given.rooms + length closed) = long_rising (noted_at given closed) 0 (64 * (length given.rooms + length closed)) in omega (arith, long, past))
      ∙ sym (none_unless (noted_at given closed f) (λ some. let place = so.places f some in omega (arith, place.1, past)))
]

-- the same by what was read of a descriptor and of its bit
pub noted_as : (given : Paged) (closed : List ℕ) → IsPatch given closed → (seen : Given) → notes given closed ≡ seen → (f : ℕ) (o : Option ℕ) (bit : ℕ) → o ≡ get given.slots f → bit ≡ bit_in closed f → noted_by o bit ≡ get seen f
noted_as given closed so seen is f o bit slot here = ap₂ noted_by slot here ∙ sym (noted_is given closed so f) ∙ ap (λ (m : Given). get m f) is

-- there is room for what is noted
pub noted_room : (given : Paged) (closed : List ℕ) → IsPatch given closed → (f : ℕ) → get (notes given closed) f ≢ None → HasRoom given.rooms f × (f / 64 < length closed)
noted_room given closed so f some = so.places f (λ none. some (noted_is given closed so f ∙ none))

-- with more room the same is noted
module _ (given more : Paged) (closed longer : List ℕ) (so : IsPatch given closed) (slots : more.slots ≡ given.slots) (bits : (f : ℕ) → bit_in longer f ≡ bit_in closed f) where
  same_at : (f : ℕ) → noted_at more longer f ≡ noted_at given closed f
  same_at f = ap₂ noted_by (ap (λ (m : FinMap nat_cmp ℕ). get m f) slots) (bits f)

  pub grown : ((f : ℕ) → HasRoom given.rooms f → HasRoom more.rooms f) → length closed ≤ length longer → length longer ≤ most_pages → IsPatch more longer
  grown rooms long few = record {
    places = λ f some. (let place = so.places f (λ none. some (same_at f ∙ none)) in (rooms f place.0, omega (arith, place.1, long)));
    few = few;
  }

  pub grown_same : IsPatch more longer → notes more longer ≡ notes given closed
  grown_same now = same_map nat_cmp_total nat_cmp-IsAntisymmetric _ _ (λ f. noted_is more longer now f ∙ same_at f ∙ sym (noted_is given closed so f))

  -- and so the same patch is seen
  pub grown_view : ((f : ℕ) → HasRoom given.rooms f → HasRoom more.rooms f) → length closed ≤ length longer → length longer ≤ most_pages → (seen : Given) → notes given closed ≡ seen → notes more longer ≡ seen
  grown_view rooms long few seen is = grown_same (grown rooms long few) ∙ is

-- what holds whatever came is so at an error
pub on_err : {A E : Type 0} (r : Result A E) (P : Type 0) → P → OnErr r P
on_err (Ok x) P p = tt
on_err (Err e) P p = p

-- a note in which a bit says that it closes
noted_new : (note : Option ℕ) → noted_by note (as_bit (is_none note)) ≡ Some note
noted_new (Some d) = refl
noted_new None = refl

-- one descriptor more is noted, where there is room
module _ (given now : Paged) (closed later : List ℕ) (f : ℕ) (note : Option ℕ) (so : IsPatch given closed) (slots : now.slots ≡ given_at f note given.slots) (rooms : now.rooms ≡ given.rooms)
    (here : bit_in later f ≡ as_bit (is_none note)) (others : (q : ℕ) → q ≢ f → bit_in later q ≡ bit_in closed q) (count : length later ≡ length closed) where
  noted_here : noted_at now later f ≡ Some note
  noted_here = ap₂ noted_by (ap (λ (m : FinMap nat_cmp ℕ). get m f) slots ∙ given_same f note given.slots) here ∙ noted_new note

  noted_other : (q : ℕ) → q ≢ f → noted_at now later q ≡ noted_at given closed q
  noted_other q away = ap₂ noted_by (ap (λ (m : FinMap nat_cmp ℕ). get m q) slots ∙ given_other f note given.slots q away) (others q away)

  pub noted_patch : HasRoom given.rooms f → f / 64 < length closed → IsPatch now later
  noted_patch room long = record {
    places = λ q some. elim (cases_eq q f) [
      | inl e ↦ (subst (λ (r : List Bool). HasRoom r q) (sym rooms) (subst (HasRoom given.rooms) (sym e) room), omega (arith, e, long, count))
      | inr away ↦ (let place = so.places q (λ none. some (noted_other q away ∙ none)) in (subst (λ (r : List Bool). HasRoom r q) (sym rooms) place.0, omega (arith, place.1, count)))
    ];
    few = omega (arith, so.few, count);
  }

  pub noted_insert : IsPatch now later → notes now later ≡ insert (notes given closed) f note
  noted_insert is = same_map nat_cmp_total nat_cmp-IsAntisymmetric _ _ (λ q. noted_is now later is q ∙ elim (cases_eq q f) [
    | inl e ↦ ap (noted_at now later) e ∙ noted_here ∙ sym (ap (get (insert (notes given closed) f note)) e ∙ get_same (notes given closed) f note)
    | inr away ↦ noted_other q away ∙ sym (get_other (notes given closed) f q note away ∙ noted_is given closed so q)
  ])

-- a note in room that came for it
module _ (given more now : Paged) (closed longer later : List ℕ) (f : ℕ) (note : Option ℕ) (so : IsPatch given closed)
    (same : more.slots ≡ given.slots) (bits : (q : ℕ) → bit_in longer q ≡ bit_in closed q) (kept : (q : ℕ) → HasRoom given.rooms q → HasRoom more.rooms q) (long : length closed ≤ length longer) (few : length longer ≤ most_pages)
    (slots : now.slots ≡ given_at f note more.slots) (rooms : now.rooms ≡ more.rooms) (here : bit_in later f ≡ as_bit (is_none note)) (others : (q : ℕ) → q ≢ f → bit_in later q ≡ bit_in longer q) (count : length later ≡ length longer)
    (room : HasRoom more.rooms f) (low : f / 64 < length longer) where
  more_patch : IsPatch more longer
  more_patch = grown given more closed longer so same bits kept long few

  pub made_patch : IsPatch now later
  made_patch = noted_patch more now longer later f note more_patch slots rooms here others count room low

  pub made_notes : (seen : Given) → notes given closed ≡ seen → notes now later ≡ insert seen f note
  made_notes seen is =
      noted_insert more now longer later f note more_patch slots rooms here others count made_patch
      ∙ ap (λ (m : Given). insert m f note) (grown_same given more closed longer so same bits more_patch ∙ is)

-- whether something is noted
pub noted_bit : (given : Option ℕ) (bit : ℕ) → bit < 2 → max (as_bit (is_some given)) bit ≡ as_bit (is_some (noted_by given bit))
noted_bit None ℕ.zero low = omega arith
noted_bit None (suc ℕ.zero) low = omega arith
noted_bit None (suc (suc b)) low = absurd (omega (arith, low))
noted_bit (Some d) bit low = (let most : max 1 bit ≡ 1 = omega (arith, low) in most)

-- whether a descriptor is open with a note on top
pub over_bit : (given before : Option ℕ) (bit : ℕ) → bit < 2 → max (min (as_bit (is_some before)) (1 - bit)) (as_bit (is_some given)) ≡ as_bit (is_some (or_before (noted_by given bit) before))
over_bit (Some d) None bit low = (let most : max (min 0 (1 - bit)) 1 ≡ 1 = omega (arith, low) in most)
over_bit (Some d) (Some e) bit low = (let most : max (min 1 (1 - bit)) 1 ≡ 1 = omega (arith, low) in most)
over_bit None before (suc (suc b)) low = absurd (omega (arith, low))
over_bit None None ℕ.zero low = omega arith
over_bit None (Some e) ℕ.zero low = omega arith
over_bit None before (suc ℕ.zero) low = (let least : max (min (as_bit (is_some before)) (1 - 1)) 0 ≡ 0 = omega arith in least)

noted_bare : (given : Option ℕ) (bit : ℕ) → bit ≡ 0 → noted_by given bit ≡ mapped Some given
noted_bare (Some d) bit is = refl
noted_bare None bit is = ap (noted_by None) is

-- where no bit says that a descriptor was closed, what is given is noted
module _ (given : Paged) (closed : List ℕ) (bare : (i : ℕ) → bit_in closed i ≡ 0) where
  noted_given : (f : ℕ) → noted_at given closed f ≡ mapped Some (get given.slots f)
  noted_given f = noted_bare (get given.slots f) (bit_in closed f) (bare f)

  not_given : (f : ℕ) → noted_at given closed f ≢ None → get given.slots f ≢ None
  not_given f some none = some (noted_given f ∙ ap (mapped Some) none)

  pub given_patch : ((f : ℕ) → get given.slots f ≢ None → HasRoom given.rooms f × (f / 64 < length closed)) → length closed ≤ most_pages → IsPatch given closed
  given_patch rooms few = record {
    places = λ f some. rooms f (not_given f some);
    few = few;
  }

  pub given_notes : IsPatch given closed → (f : ℕ) → get (notes given closed) f ≡ mapped Some (get given.slots f)
  given_notes so f = noted_is given closed so f ∙ noted_given f

-- nothing is noted
pub no_patch : (given : Paged) → given.slots ≡ empty → IsPatch given []
no_patch given none = given_patch given [] (λ i. bit_past [] i (omega arith)) (λ f some. absurd (some (ap (λ (m : FinMap nat_cmp ℕ). get m f) none ∙ get-empty nat_cmp f))) (omega arith)

pub no_notes : (given : Paged) → given.slots ≡ empty → notes given [] ≡ empty
no_notes given none = same_map nat_cmp_total nat_cmp-IsAntisymmetric _ _ (λ f.
    given_notes given [] (λ i. bit_past [] i (omega arith)) (no_patch given none) f
    ∙ ap (mapped Some) (ap (λ (m : FinMap nat_cmp ℕ). get m f) none ∙ get-empty nat_cmp f)
    ∙ sym (get-empty nat_cmp f))

-- a noted descriptor is one that a process may have
pub noted_low : (given : Paged) (closed : List ℕ) → IsPatch given closed → (f : ℕ) → get (notes given closed) f ≢ None → f < DESCRIPTORS
noted_low given closed so f some = (let place = noted_room given closed so f some in omega (arith, place.1, so.few))

-- what is open with notes on top is given, or was open before
no_over : (bit : ℕ) → or_before (noted_by None bit) None ≡ None
no_over bit = elim (bit == 1) as (λ b. or_before (cond b (Some None) None) None ≡ None) [ true ↦ refl | false ↦ refl ]

pub over_either : (given before : Option ℕ) (bit : ℕ) → or_before (noted_by given bit) before ≢ None → (given ≢ None) ⊎ (before ≢ None)
over_either (Some d) before bit some = inl (λ e. absurd cc)
over_either None (Some d) bit some = inr (λ e. absurd cc)
over_either None None bit some = absurd (some (no_over bit))

-- what a change of one descriptor leaves is what it is open on then
pub given_laid : (f : ℕ) (o : Option ℕ) (table : FinMap nat_cmp ℕ) → given_at f o table ≡ laid_at f (Some o) table
given_laid f (Some d) table = refl
given_laid f None table = refl

-- the words of what is noted, and of what is open with notes on top of a table
module _ (given : Paged) (closed : List ℕ) (so : IsPatch given closed) (index word bits i : ℕ) (low : i < 64) (shows : bit_at word i ≡ as_bit (is_some (get given.slots (64 * index + i)))) (is : bits ≡ get_or closed index 0) where
  closed_bit : bit_at bits i ≡ bit_in closed (64 * index + i)
  closed_bit = ap (λ w. bit_at w i) is ∙ shows_words closed index i low

  one_or_none : bit_in closed (64 * index + i) < 2
  one_or_none = bit_at-lt (get_or closed ((64 * index + i) / 64) 0) ((64 * index + i) % 64)

  pub noted_shows : bit_at (bit_or word bits) i ≡ as_bit (is_some (get (notes given closed) (64 * index + i)))
  noted_shows =
      bit_at_or word bits i ∙ ap₂ max shows closed_bit ∙ noted_bit (get given.slots (64 * index + i)) (bit_in closed (64 * index + i)) one_or_none
      ∙ ap (λ n. as_bit (is_some n)) (sym (noted_is given closed so (64 * index + i)))

  pub over_shows : (before : FinMap nat_cmp ℕ) (table : ℕ) → bits < 2 ^ 64 → bit_at table i ≡ as_bit (is_some (get before (64 * index + i)))
      → bit_at (bit_or (bit_and table (bit_not w64 bits)) word) i ≡ as_bit (is_some (or_before (get (notes given closed) (64 * index + i)) (get before (64 * index + i))))
  over_shows before table small its_bits =
      bit_at_or (bit_and table (bit_not w64 bits)) word i
      ∙ ap₂ max (bit_at_and table (bit_not w64 bits) i ∙ ap₂ min its_bits (bit_at_not w64 bits i small low ∙ ap (λ b. 1 - b) closed_bit)) shows
      ∙ over_bit (get given.slots (64 * index + i)) (get before (64 * index + i)) (bit_in closed (64 * index + i)) one_or_none
      ∙ ap (λ n. as_bit (is_some (or_before n (get before (64 * index + i))))) (sym (noted_is given closed so (64 * index + i)))

-- what is open with notes on top is given, or was open before
pub laid_either : (given : Paged) (closed : List ℕ) → IsPatch given closed → (before : FinMap nat_cmp ℕ) (f : ℕ) → or_before (get (notes given closed) f) (get before f) ≢ None → (get given.slots f ≢ None) ⊎ (get before f ≢ None)
laid_either given closed so before f some = over_either (get given.slots f) (get before f) (bit_in closed f) (λ none. some (ap (λ n. or_before n (get before f)) (noted_is given closed so f) ∙ none))
