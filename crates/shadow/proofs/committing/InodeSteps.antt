-- The changes of inodes, made in the store one inode after the other.
use Rattle.std.proofs.Common.{◌≡◌, ◌≢◌, ℕ, ◌≤◌, Bool, true, false, List, [], ◌∷◌, Option, Some, None, is_some, nat_cmp, refl, sym, ap, subst, ◌∙◌, inl, inr}
use Rattle.std.specs.List.Sorted.{IsStrictlySortedBy}
use Rattle.std.specs.Map.{keys_of}
use Rattle.std.specs.Option.{option_map}
use Rattle.std.proofs.lemmas.Bool.{cases_eq}
use Rattle.model.specs.FiniteMap.{entries, get}
use Rattle.model.specs.State.{Name}
use Rattle.call_laws.proofs.Laws.{some_same}
use Rattle.dirlist.specs.Listing.{Listing}
use Rattle.dirlist.specs.Patches.{Notes}
use Rattle.store.specs.Laid.{laid_listing}
use Rattle.store.specs.Numbers.{Numbers, present}
use Rattle.store.specs.Places.{altered, installed, is_shown, listing_at, listing_in, may_be_named, may_be_named_by, shown_stage, with_listing}
use Rattle.store.specs.declared.Place.{Place}
use Rattle.store.specs.declared.Stage.{Stage}
use Rattle.store.specs.declared.Stage.TheVariants.{Coming, Held, Removed}
use Rattle.store.specs.declared.Object.TheVariants.{Directory as A_directory}
use Rattle.store.proofs.Laws.{MayBeNamed, altered-alike, altered-same, left-altered, place-altered, place-other}
use Rattle.notes.specs.declared.change.InodeChange.{InodeChange}
use Rattle.notes.specs.declared.change.Contents.{Contents}
use Rattle.notes.specs.declared.change.Contents.TheVariants.{Same, Names, Bytes, Pipe as Piped, Fixed as As_fixed}
use Rattle.notes.specs.Patches.{kept_at}
use Rattle.shadow.specs.Laid.{AreReady, IsCarried, IsCarriedBy, IsReady, IsReadyContents, IsReadyDirectory, IsReadyFile, IsReadyPipe, named_by, shown_if}
use Rattle.notes.proofs.Laws.{first_absent, first_kept, later_kept, not_first, rest_sorted}

-- what is shown from now on may be named as before
made_named : (made : Bool) (place : Place) → may_be_named (Some (shown_if made place)) ≡ may_be_named (Some place)
made_named false place = refl
made_named true place = by_stage place.stage
  where
    by_stage : (t : Stage) → may_be_named_by (shown_stage t) ≡ may_be_named_by t
    by_stage Coming = refl
    by_stage Held = refl
    by_stage Removed = refl

-- the numbers that are given may be named where the same numbers may be
pub numbers_stay : (s t : Numbers) → ((m : ℕ) → may_be_named (get s.places m) ≡ true → may_be_named (get t.places m) ≡ true) → (gs : List (Name × Option ℕ)) → MayBeNamed s gs → MayBeNamed t gs
numbers_stay s t same [] all = tt
numbers_stay s t same ((x, Some m) ∷ gs) all = (same m all.0, numbers_stay s t same gs all.1)
numbers_stay s t same ((x, None) ∷ gs) all = (tt, numbers_stay s t same gs all.1)

-- a new object is shown first
pub shown_first : (made : Bool) (s t : Numbers) (n : ℕ) → made ≡ true → t ≡ altered installed s n → t ≡ altered (shown_if made) s n
shown_first true s t n new is = is ∙ altered-alike installed (shown_if true) s n (λ place. refl)
shown_first false s t n new is = absurd cc

pub shown_already : (made : Bool) (s t : Numbers) (n : ℕ) → made ≡ false → t ≡ s → t ≡ altered (shown_if made) s n
shown_already true s t n old is = absurd cc
shown_already false s t n old is = is ∙ sym (altered-same (shown_if false) s n (λ place. refl))

-- then the notes of a directory can be laid
module _ (s t : Numbers) (n : ℕ) (c : InodeChange) (notes : Notes) (ready : IsReadyDirectory s n c notes) (is : t ≡ altered (shown_if (is_some c.made)) s n) where
  abbrev made : Bool
  made = is_some c.made

  place_then : get t.places n ≡ option_map (shown_if made) (get s.places n)
  place_then = ap (λ (t : Numbers). get t.places n) is ∙ place-altered (shown_if made) s n

  there_then : get t.places n ≡ Some (present (A_directory ready.listing))
  there_then = place_then ∙ ready.there

  pub then_shown : is_shown (get t.places n) ≡ true
  then_shown = ap is_shown there_then

  pub then_room : (listing : Listing) → listing_at t n ≡ Some listing → c.promised ≤ listing.promised
  then_room listing there = subst (λ (l : Listing). c.promised ≤ l.promised) (some_same ready.listing listing (sym (ap listing_in there_then) ∙ there)) ready.room

  pub then_numbers : MayBeNamed t (entries notes)
  then_numbers = numbers_stay s t (λ m named. ap (λ (t : Numbers). may_be_named (get t.places m)) is ∙ left-altered may_be_named (shown_if made) (made_named made) s n m ∙ named) (entries notes) ready.numbers

-- and all of its changes are made
module _ (s t u : Numbers) (n : ℕ) (made : Bool) (notes : Notes) (promised : ℕ) (shown : t ≡ altered (shown_if made) s n) (laid : u ≡ altered (with_listing (laid_listing (entries notes) promised)) t n) where
  pub laid_root : u.root ≡ s.root
  laid_root = ap (λ (u : Numbers). u.root) laid ∙ ap (λ (t : Numbers). t.root) shown

  pub laid_here : get u.places n ≡ option_map (named_by made notes promised) (get s.places n)
  laid_here =
      ap (λ (u : Numbers). get u.places n) laid ∙ place-altered (with_listing (laid_listing (entries notes) promised)) t n
      ∙ ap (option_map (with_listing (laid_listing (entries notes) promised))) (ap (λ (t : Numbers). get t.places n) shown ∙ place-altered (shown_if made) s n)
      ∙ by_place (get s.places n)
    where
      by_place : (o : Option Place) → option_map (with_listing (laid_listing (entries notes) promised)) (option_map (shown_if made) o) ≡ option_map (named_by made notes promised) o
      by_place (Some place) = refl
      by_place None = refl

  pub laid_elsewhere : (m : ℕ) → m ≢ n → get u.places m ≡ get s.places m
  laid_elsewhere m away =
      ap (λ (u : Numbers). get u.places m) laid ∙ place-other (with_listing (laid_listing (entries notes) promised)) t n m away
      ∙ ap (λ (t : Numbers). get t.places m) shown ∙ place-other (shown_if made) s n m away

-- what the changes make of the store
pub record AreCarried (changes : List (ℕ × InodeChange)) (old new : Numbers) : Type 0 where
  pub root : new.root ≡ old.root
  pub rights : new.rights ≡ old.rights
  pub places : (n : ℕ) → IsCarried (kept_at changes n) (get old.places n) (get new.places n)

pub carried_none : (s : Numbers) → AreCarried [] s s
carried_none s = record { root = refl; rights = refl; places = λ n. refl }

-- what may be named may be named later
carried_named : (c : InodeChange) (w : Contents) (before after : Option Place) → IsCarriedBy c w before after → may_be_named before ≡ true → may_be_named after ≡ true
carried_named c Same before after is named = ap may_be_named is ∙ named
carried_named c (Names fresh notes) before after is named = ap may_be_named is ∙ by_place before ∙ named
  where
    by_place : (o : Option Place) → may_be_named (option_map (named_by (is_some c.made) notes c.promised) o) ≡ may_be_named o
    by_place (Some place) = made_named (is_some c.made) place
    by_place None = refl
carried_named c (Bytes fresh bytes) before after is named = ap may_be_named is.place
carried_named c (Piped (Some new) changes) before after is named = ap may_be_named is
carried_named c (Piped None changes) before after is named = ap may_be_named is.is
carried_named c (As_fixed fixed) before after is named = ap may_be_named is

-- the changes of the first inode are made
module _ (n : ℕ) (c : InodeChange) (rest : List (ℕ × InodeChange)) (sorted : IsStrictlySortedBy nat_cmp (keys_of ((n, c) ∷ rest)))
    (s t : Numbers) (here : IsCarried (Some c) (get s.places n) (get t.places n)) (others : (m : ℕ) → m ≢ n → get t.places m ≡ get s.places m) where
  abbrev whole : List (ℕ × InodeChange)
  whole = (n, c) ∷ rest

  pub carried_first : (u : Numbers) → t.root ≡ s.root → t.rights ≡ s.rights → AreCarried rest t u → AreCarried whole s u
  carried_first u root rights later = record {
    root = later.root ∙ root;
    rights = later.rights ∙ rights;
    places = λ m. elim (cases_eq m n) [
      | inl same ↦ subst (λ (m : ℕ). IsCarried (kept_at whole m) (get s.places m) (get u.places m)) (sym same) at_first
      | inr away ↦ subst (λ (o : Option InodeChange). IsCarried o (get s.places m) (get u.places m)) (sym (later_kept n c rest m away))
          (subst (λ (o : Option Place). IsCarried (kept_at rest m) o (get u.places m)) (others m away) (later.places m))
    ];
  }
    where
      stays : get u.places n ≡ get t.places n
      stays = subst (λ (o : Option InodeChange). IsCarried o (get t.places n) (get u.places n)) (first_absent n c rest sorted) (later.places n)

      at_first : IsCarried (kept_at whole n) (get s.places n) (get u.places n)
      at_first = subst (λ (o : Option InodeChange). IsCarried o (get s.places n) (get u.places n)) (sym (first_kept n c rest))
          (subst (λ (o : Option Place). IsCarried (Some c) (get s.places n) o) (sym stays) here)

  named_later : (m : ℕ) → may_be_named (get s.places m) ≡ true → may_be_named (get t.places m) ≡ true
  named_later m named = elim (cases_eq m n) [
    | inl same ↦ ap (λ (m : ℕ). may_be_named (get t.places m)) same ∙ carried_named c c.contents (get s.places n) (get t.places n) here (ap (λ (m : ℕ). may_be_named (get s.places m)) (sym same) ∙ named)
    | inr away ↦ ap may_be_named (others m away) ∙ named
  ]

  -- and those behind it can be made still
  pub ready_later : AreReady whole s → AreReady rest t
  ready_later ready m d there = by_contents d.contents (ready m d (later_kept n c rest m away ∙ there))
    where
      away : m ≢ n
      away = not_first n c rest sorted m d there

      by_contents : (w : Contents) → IsReadyContents s m d w → IsReadyContents t m d w
      by_contents Same h = h
      by_contents (Names fresh notes) h = record {
        listing = h.listing;
        there = ap (option_map (shown_if (is_some d.made))) (others m away) ∙ h.there;
        room = h.room;
        added = h.added;
        numbers = numbers_stay s t named_later (entries notes) h.numbers;
      }
      by_contents (Bytes fresh bytes) h = subst (λ (o : Option Place). IsReadyFile (is_some d.made) o) (sym (others m away)) h
      by_contents (Piped fresh changes) h = subst (IsReadyPipe fresh changes) (sym (others m away)) h
      by_contents (As_fixed fixed) h = others m away ∙ h

pub first_ready : (n : ℕ) (c : InodeChange) (rest : List (ℕ × InodeChange)) (s : Numbers) → AreReady ((n, c) ∷ rest) s → IsReady s n c
first_ready n c rest s ready = ready n c (first_kept n c rest)

-- what is left of the changes can be made, and then all are made
pub record Carries (start now : Numbers) (all rest : List (ℕ × InodeChange)) : Type 0 where
  pub ready : AreReady rest now
  pub ends : (t : Numbers) → AreCarried rest now t → AreCarried all start t
  pub sorted : IsStrictlySortedBy nat_cmp (keys_of rest)

pub carries_nothing : (start : Numbers) (all : List (ℕ × InodeChange)) → AreReady all start → IsStrictlySortedBy nat_cmp (keys_of all) → Carries start start all all
carries_nothing start all ready sorted = record { ready = ready; ends = λ t h. h; sorted = sorted }

pub carries_on : (start now : Numbers) (all : List (ℕ × InodeChange)) (n : ℕ) (c : InodeChange) (rest : List (ℕ × InodeChange)) → Carries start now all ((n, c) ∷ rest) → (after : Numbers)
    → after.root ≡ now.root → after.rights ≡ now.rights → IsCarried (Some c) (get now.places n) (get after.places n) → ((m : ℕ) → m ≢ n → get after.places m ≡ get now.places m) → Carries start after all rest
carries_on start now all n c rest carries after root rights here others = record {
  ready = ready_later n c rest carries.sorted now after here others carries.ready;
  ends = λ t h. carries.ends t (carried_first n c rest carries.sorted now after here others t root rights h);
  sorted = rest_sorted n c rest carries.sorted;
}

pub all_carried : (start now : Numbers) (all : List (ℕ × InodeChange)) → Carries start now all [] → AreCarried all start now
all_carried start now all carries = carries.ends now (carried_none now)
