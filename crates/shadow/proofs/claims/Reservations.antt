-- Changes of the store that are not seen in the state: numbers are reserved and given back, and promises come and go.
use Rattle.std.proofs.Common.{◌≡◌, ◌≢◌, ℕ, ◌+◌, Bool, true, false, cond, not, Option, Some, None, refl, sym, ap, subst, ◌∙◌, arith, lt-ltb, inl, inr}
use Rattle.std.specs.Prelude.{⊤}
use Rattle.std.specs.Option.{option_map, option_and_then}
use Rattle.std.proofs.lemmas.Bool.{cases_eq}
use Rattle.std.specs.Ordering.{nat_cmp}
use Rattle.model.specs.FiniteMap.{FinMap, get, insert, remove, empty, get-empty}
use Rattle.model.specs.State.{Kernel, name_cmp, kind, mapped, names_of_inode, links}
use Rattle.model.specs.Changes.{holders, openings, tidy}
use Rattle.model.specs.Moments.{Setup, start}
use Rattle.model.specs.Steps.{IsNowhere}
use Rattle.model.proofs.Laws.{get_same, get_other}
use Rattle.call_laws.specs.CallLaws.{CallLaws}
use Rattle.call_laws.specs.Numbers.{UnusedNumbersAreNowhere}
use Rattle.call_laws.specs.WellFormed.{CanBeNamed, WellFormed}
use Rattle.call_laws.proofs.Laws.{none_count, not_none, unset as none_set}
use Rattle.dirlist.specs.Listing.{Listing}
use Rattle.store.specs.Links.{links_in}
use Rattle.store.specs.Numbers.{IsFirstRoot, Numbers, coming, held, if_held, no_names, object_at, present}
use Rattle.store.specs.Places.{altered, hidden, is_over, is_over_by, has_room, listing_of, changed_object, with_listing, more_room, less_room, lost, released, swept, unset}
use Rattle.store.specs.Shown.{inodes, descriptions, inode_in, inode_of, description_in, description_of, shown_at}
use Rattle.store.specs.declared.Place.{Place}
use Rattle.store.specs.declared.Stage.{Stage}
use Rattle.store.specs.declared.Stage.TheVariants.{Coming, Held, Removed}
use Rattle.store.specs.declared.Object.{Object}
use Rattle.store.specs.declared.Object.TheVariants.{Directory as Kept_directory, File as Kept_file, Pipe as Kept_pipe, Fixed as Kept_fixed, Description as Kept_description, Nothing}
use Rattle.freeing_laws.specs.Pipes.{ArePair}
use Rattle.store.proofs.Laws.{rights-swept}
use Rattle.shadow.specs.Stored.{FitsStage, IsBare, IsStaged, IsUnsettled, Processes, Sound, state_of, stored}
use Rattle.shadow.proofs.shared.PlaceLemmas.{get_chosen, remove_absent, place_altered, place_other, place_over, place_swept_other, swept_stays, without_place}
use Rattle.shadow.proofs.claims.ClaimCounts.{IsAwaited, with_place}

-- what is shown of files and descriptions was shown before
abbrev pub ShowsNoMore : Numbers → Numbers → Type 0
ShowsNoMore s after = (n : ℕ) (object : Object) → listing_of object ≡ None → object_at after n ≡ Some object → object_at s n ≡ Some object

pub same_state : (ps : Processes) (s after : Numbers) → inodes after ≡ inodes s → after.rights ≡ s.rights → descriptions after ≡ descriptions s → state_of ps after ≡ state_of ps s
same_state ps s after is rights opened_same = λ i. stored ps (is i) (rights i) (opened_same i)

pub same_sound : (ps : Processes) (s after : Numbers) → Sound ps s → after.root ≡ s.root → inodes after ≡ inodes s → after.rights ≡ s.rights → descriptions after ≡ descriptions s
    → ((n : ℕ) → IsStaged (get after.places n)) → ShowsNoMore s after → Sound ps after
same_sound ps s after sound root is rights opened_same staged shows =
    let same : state_of ps after ≡ state_of ps s = same_state ps s after is rights opened_same in
    record {
      root = root ∙ sound.root;
      well = subst WellFormed (sym same) sound.well;
      tidied = subst (λ (k : Kernel). tidy k ≡ k) (sym same) sound.tidied;
      staged = staged;
      counted = record {
        openings = λ n file there. sound.counted.openings n file (shows n (Kept_file file) refl there) ∙ ap (λ (k : Kernel). openings k n) (sym same);
        holders = λ d opened there. sound.counted.holders d opened (shows d (Kept_description opened) refl there) ∙ ap (λ (k : Kernel). holders k d) (sym same);
        pipes = λ p pipe there. subst (λ m. ArePair m p pipe.reader pipe.writer) (sym opened_same) (sound.counted.pipes p pipe (shows p (Kept_pipe pipe) refl there));
      };
    }

-- a change of one place, and a sweep after it
pub altered_staged : (f : Place → Place) (s : Numbers) (n : ℕ) → ((m : ℕ) → IsStaged (get s.places m)) → IsStaged (option_map f (get s.places n)) → (m : ℕ) → IsStaged (get (altered f s n).places m)
altered_staged f s n staged one m = elim (cases_eq m n) [
  | inl same ↦ subst IsStaged (sym (ap (get (altered f s n).places) same ∙ place_altered f s n)) one
  | inr away ↦ subst IsStaged (sym (place_other f s n m away)) (staged m)
]

swept_staged : (s : Numbers) (n : ℕ) → ((m : ℕ) → m ≢ n → IsStaged (get s.places m)) → (is_over (get s.places n) ≡ false → IsStaged (get s.places n)) → (m : ℕ) → IsStaged (get (swept s n).places m)
swept_staged s n others one m = elim (cases_eq m n) [
  | inl same ↦ subst (λ m. IsStaged (get (swept s n).places m)) (sym same) (by_test (is_over (get s.places n)) refl)
  | inr away ↦ subst IsStaged (sym (place_swept_other s n m away)) (others m away)
]
  where
    by_test : (b : Bool) → is_over (get s.places n) ≡ b → IsStaged (get (swept s n).places n)
    by_test true over = subst IsStaged (sym (place_over s n over)) tt
    by_test false left = subst (λ t. IsStaged (get t.places n)) (sym (swept_stays s n left)) (one left)

pub altered_swept_staged : (f : Place → Place) (s : Numbers) (n : ℕ) → ((m : ℕ) → IsStaged (get s.places m)) → (is_over (option_map f (get s.places n)) ≡ false → IsStaged (option_map f (get s.places n)))
    → (m : ℕ) → IsStaged (get (swept (altered f s n) n).places m)
altered_swept_staged f s n staged one = swept_staged (altered f s n) n (λ m away. subst IsStaged (sym (place_other f s n m away)) (staged m))
    (λ left. subst IsStaged (sym (place_altered f s n)) (one (ap is_over (sym (place_altered f s n)) ∙ left)))

not_false : (b : Bool) → not b ≡ false → b ≡ true
not_false true e = refl
not_false false e = absurd cc

-- what is removed and not over has room
pub hidden_staged : (o : Option Place) → is_over (option_map hidden o) ≡ false → IsStaged (option_map hidden o)
hidden_staged None left = tt
hidden_staged (Some place) left = not_false (has_room (listing_of place.object)) left

abbrev IsSomething : Object → Type 0
IsSomething Nothing = ⊥
IsSomething (Kept_directory l) = ⊤
IsSomething (Kept_file file) = ⊤
IsSomething (Kept_pipe pipe) = ⊤
IsSomething (Kept_fixed fixed) = ⊤
IsSomething (Kept_description opened) = ⊤

something : (l : Listing) → Kept_directory l ≢ Nothing
something l e = subst IsSomething e tt

-- one promise more
more_staged : (o : Option Place) → IsStaged o → IsStaged (option_map (with_listing more_room) o)
more_staged None fits = tt
more_staged (Some place) fits = by_stage place.stage place.object fits
  where
    by_stage : (t : Stage) (object : Object) → FitsStage t object → FitsStage t (changed_object more_room object)
    by_stage Coming (Kept_directory l) fits = fits
    by_stage Held (Kept_directory l) fits = something (more_room l)
    by_stage Removed (Kept_directory l) fits = lt-ltb 0 (l.promised + 1) (omega arith)
    by_stage t (Kept_file file) fits = fits
    by_stage t (Kept_pipe pipe) fits = fits
    by_stage t (Kept_fixed fixed) fits = fits
    by_stage t (Kept_description opened) fits = fits
    by_stage t Nothing fits = fits

-- and one less
less_staged : (o : Option Place) → IsStaged o → is_over (option_map (with_listing less_room) o) ≡ false → IsStaged (option_map (with_listing less_room) o)
less_staged None fits left = tt
less_staged (Some place) fits left = by_stage place.stage place.object fits left
  where
    by_stage : (t : Stage) (object : Object) → FitsStage t object → is_over_by t (has_room (listing_of (changed_object less_room object))) ≡ false → FitsStage t (changed_object less_room object)
    by_stage Coming (Kept_directory l) fits left = fits
    by_stage Held (Kept_directory l) fits left = something (less_room l)
    by_stage Removed (Kept_directory l) fits left = not_false (has_room (listing_of (changed_object less_room (Kept_directory l)))) left
    by_stage t (Kept_file file) fits left = fits
    by_stage t (Kept_pipe pipe) fits left = fits
    by_stage t (Kept_fixed fixed) fits left = fits
    by_stage t (Kept_description opened) fits left = fits
    by_stage t Nothing fits left = fits

-- files and descriptions, where the place of a directory changes
none_is_some : {A : Type 0} {Q : Type 0} (x : A) → None ≡ Some x → Q
none_is_some x e = absurd (not_none x (sym e))

no_listing : (l : Listing) (object : Object) → Kept_directory l ≡ object → listing_of object ≡ None → ⊥
no_listing l object is none = not_none l (ap listing_of is ∙ none)

some_object : (a b : Object) → Some a ≡ Some b → a ≡ b
some_object a b e = ap (λ (o : Option Object). or_object a o) e
  where
    or_object : Object → Option Object → Object
    or_object d (Some k) = k
    or_object d None = d

shows_in : (f : Listing → Listing) (s : Numbers) (d : ℕ) → ShowsNoMore s (altered (with_listing f) s d)
shows_in f s d n object none is = elim (cases_eq n d) [
  | inl same ↦ ap (object_at s) same ∙ by_place (get s.places d) (sym (ap held (place_altered (with_listing f) s d)) ∙ ap (object_at (altered (with_listing f) s d)) (sym same) ∙ is)
  | inr away ↦ ap held (sym (place_other (with_listing f) s d n away)) ∙ is
]
  where
    by_stage : (t : Stage) (o : Object) → if_held t (changed_object f o) ≡ Some object → if_held t o ≡ Some object
    by_stage Held (Kept_directory l) is = absurd (no_listing (f l) object (some_object (Kept_directory (f l)) object is) none)
    by_stage Held (Kept_file file) is = is
    by_stage Held (Kept_pipe pipe) is = is
    by_stage Held (Kept_fixed fixed) is = is
    by_stage Held (Kept_description opened) is = is
    by_stage Held Nothing is = is
    by_stage Coming o is = is
    by_stage Removed o is = is

    by_place : (o : Option Place) → held (option_map (with_listing f) o) ≡ Some object → held o ≡ Some object
    by_place None is = is
    by_place (Some place) is = by_stage place.stage place.object is

shows_swept : (s : Numbers) (d : ℕ) → ShowsNoMore s (swept s d)
shows_swept s d n object none is = elim (cases_eq n d) [
  | inl same ↦ ap (object_at s) same ∙ by_test (is_over (get s.places d)) refl (ap (object_at (swept s d)) (sym same) ∙ is)
  | inr away ↦ ap held (sym (place_swept_other s d n away)) ∙ is
]
  where
    by_test : (b : Bool) → is_over (get s.places d) ≡ b → object_at (swept s d) d ≡ Some object → object_at s d ≡ Some object
    by_test true over is = none_is_some object (sym (ap held (place_over s d over)) ∙ is)
    by_test false left is = ap (λ (t : Numbers). object_at t d) (sym (swept_stays s d left)) ∙ is

shows_hidden : (s : Numbers) (d : ℕ) → ShowsNoMore s (altered hidden s d)
shows_hidden s d n object none is = elim (cases_eq n d) [
  | inl same ↦ by_place (get s.places d) (sym (ap held (place_altered hidden s d)) ∙ ap (object_at (altered hidden s d)) (sym same) ∙ is)
  | inr away ↦ ap held (sym (place_other hidden s d n away)) ∙ is
]
  where
    by_place : (o : Option Place) → held (option_map hidden o) ≡ Some object → object_at s n ≡ Some object
    by_place None is = none_is_some object is
    by_place (Some place) is = none_is_some object is

swept_root : (s : Numbers) (n : ℕ) → (swept s n).root ≡ s.root
swept_root s n = by_test (is_over (get s.places n))
  where
    by_test : (b : Bool) → (cond b (without_place s n) s).root ≡ s.root
    by_test true = refl
    by_test false = refl

pub promised_sound : (ps : Processes) (s after : Numbers) (d : ℕ) → Sound ps s → after ≡ altered (with_listing more_room) s d → inodes after ≡ inodes s → descriptions after ≡ descriptions s → Sound ps after
promised_sound ps s after d sound is shown opened_same = same_sound ps s after sound (ap (λ (t : Numbers). t.root) is) shown (ap (λ (t : Numbers). t.rights) is) opened_same
    (subst (λ (t : Numbers). (n : ℕ) → IsStaged (get t.places n)) (sym is) (altered_staged (with_listing more_room) s d sound.staged (more_staged (get s.places d) (sound.staged d))))
    (subst (ShowsNoMore s) (sym is) (shows_in more_room s d))

-- of what is removed no rights are set any more
pub released_rights : (ps : Processes) (s after : Numbers) (d : ℕ) → Sound ps s → after ≡ released s d → inodes after ≡ inodes s → after.rights ≡ s.rights
released_rights ps s after d sound is shown = ap (λ (t : Numbers). t.rights) is ∙ rights-swept (altered (with_listing less_room) s d) d none
  where
    none : is_over (get (altered (with_listing less_room) s d).places d) ≡ true → get s.rights d ≡ None
    none over = none_set (state_of ps s) d sound.well
        (ap (λ m. get m d) (sym shown) ∙ ap (λ (t : Numbers). get (inodes t) d) is
        ∙ get_chosen inode_in (released s d).places d ∙ ap (option_and_then inode_in) (place_over (altered (with_listing less_room) s d) d over))

pub released_sound : (ps : Processes) (s after : Numbers) (d : ℕ) → Sound ps s → after ≡ released s d → inodes after ≡ inodes s → descriptions after ≡ descriptions s → Sound ps after
released_sound ps s after d sound is shown opened_same = same_sound ps s after sound (ap (λ (t : Numbers). t.root) is ∙ swept_root (altered (with_listing less_room) s d) d) shown (released_rights ps s after d sound is shown) opened_same
    (subst (λ (t : Numbers). (n : ℕ) → IsStaged (get t.places n)) (sym is) (altered_swept_staged (with_listing less_room) s d sound.staged (less_staged (get s.places d) (sound.staged d))))
    (subst (ShowsNoMore s) (sym is) (λ n object none there. shows_in less_room s d n object none (shows_swept (altered (with_listing less_room) s d) d n object none there)))

-- what is to come is not seen
coming_unseen : {X : Type 0} (b : Bool) (n : ℕ) (f : Object → Option X) (o : Option Place) → IsAwaited b n o → option_and_then (λ (place : Place). shown_at place.stage (f place.object)) o ≡ None
coming_unseen b n f None some = refl
coming_unseen b n f (Some place) some = by_stage place.stage place.object b some
  where
    by_stage : (t : Stage) (object : Object) (b : Bool) → IsAwaited b n (Some (record { stage = t; object = object })) → shown_at t (f object) ≡ None
    by_stage Coming object b some = refl
    by_stage Removed object b some = refl
    by_stage Held object true some = absurd (omega arith)
    by_stage Held object false some = absurd (omega arith)

pub no_inode : (b : Bool) (s : Numbers) (n : ℕ) → IsAwaited b n (get s.places n) → get (inodes s) n ≡ None
no_inode b s n some = get_chosen inode_in s.places n ∙ coming_unseen b n inode_of (get s.places n) some

pub no_description : (b : Bool) (s : Numbers) (n : ℕ) → IsAwaited b n (get s.places n) → get (descriptions s) n ≡ None
no_description b s n some = get_chosen description_in s.places n ∙ coming_unseen b n description_of (get s.places n) some

-- a number of an object to come is given back
module _ (ps : Processes) (s after : Numbers) (b : Bool) (n : ℕ) (some : IsAwaited b n (get s.places n)) (sound : Sound ps s) (shown : inodes after ≡ remove (inodes s) n) (unset_too : after.rights ≡ remove s.rights n) (opened_same : descriptions after ≡ remove (descriptions s) n) where
  same_rights : after.rights ≡ s.rights
  same_rights = unset_too ∙ remove_absent s.rights n (none_set (state_of ps s) n sound.well (no_inode b s n some))

  pub given_back_state : state_of ps after ≡ state_of ps s
  given_back_state = same_state ps s after (shown ∙ remove_absent (inodes s) n (no_inode b s n some)) same_rights (opened_same ∙ remove_absent (descriptions s) n (no_description b s n some))

  pub given_back_sound : after ≡ lost s n → Sound ps after
  given_back_sound is = same_sound ps s after sound (ap (λ (t : Numbers). t.root) is ∙ swept_root (altered hidden (unset s n) n) n)
      (shown ∙ remove_absent (inodes s) n (no_inode b s n some)) same_rights (opened_same ∙ remove_absent (descriptions s) n (no_description b s n some))
      (subst (λ (t : Numbers). (n : ℕ) → IsStaged (get t.places n)) (sym is) (altered_swept_staged hidden (unset s n) n sound.staged (hidden_staged (get s.places n))))
      (subst (ShowsNoMore s) (sym is) (λ m object none there. shows_hidden (unset s n) n m object none (shows_swept (altered hidden (unset s n) n) n m object none there)))

-- no name gives what is to come, and it has no names
pub links_links_in : (k : Kernel) (n : ℕ) → links k n ≡ links_in k.inodes n
unfolding links
links_links_in k n = refl

pub coming_unnamed : (ps : Processes) (s : Numbers) (b : Bool) (n : ℕ) → Sound ps s → IsAwaited b n (get s.places n) → links_in (inodes s) n ≡ 0
coming_unnamed ps s b n sound some =
    sym (links_links_in (state_of ps s) n) ∙ none_count (state_of ps s) n (λ d x is. subst CanBeNamed (ap (mapped kind) (no_inode b s n some)) (sound.well.names d x n is))

pub coming_bare : (s : Numbers) (b : Bool) (n : ℕ) → IsAwaited b n (get s.places n) → names_of_inode (get (inodes s) n) ≡ empty
coming_bare s b n some = ap names_of_inode (no_inode b s n some)

-- a number that is reserved
pub bare_names : (object : Object) → IsBare object → names_of_inode (inode_of object) ≡ empty
bare_names (Kept_directory l) bare = bare.0
bare_names Nothing bare = refl
bare_names (Kept_file file) bare = absurd bare
bare_names (Kept_pipe pipe) bare = absurd bare
bare_names (Kept_fixed fixed) bare = absurd bare
bare_names (Kept_description opened) bare = absurd bare

unsettled : (object : Object) → IsBare object → IsUnsettled object
unsettled (Kept_directory l) bare = λ x. ap (λ (ns : FinMap name_cmp ℕ). get ns x) bare.0 ∙ get-empty name_cmp x
unsettled Nothing bare = tt
unsettled (Kept_file file) bare = absurd bare
unsettled (Kept_pipe pipe) bare = absurd bare
unsettled (Kept_fixed fixed) bare = absurd bare
unsettled (Kept_description opened) bare = absurd bare

shows_coming : (s : Numbers) (n : ℕ) (o : Object) → ShowsNoMore s (with_place s n (coming o))
shows_coming s n o m object none is = elim (cases_eq m n) [
  | inl same ↦ none_is_some object (sym (ap held (ap (get (insert s.places n (coming o))) same ∙ get_same s.places n (coming o))) ∙ is)
  | inr away ↦ ap held (sym (get_other s.places n m (coming o) away)) ∙ is
]

pub reserved_sound : (ps : Processes) (s after : Numbers) (n : ℕ) (object : Object) → Sound ps s → IsBare object → after ≡ with_place s n (coming object) → inodes after ≡ inodes s → descriptions after ≡ descriptions s → Sound ps after
reserved_sound ps s after n object sound bare is shown opened_same = same_sound ps s after sound (ap (λ (t : Numbers). t.root) is) shown (ap (λ (t : Numbers). t.rights) is) opened_same
    (subst (λ (t : Numbers). (n : ℕ) → IsStaged (get t.places n)) (sym is) staged) (subst (ShowsNoMore s) (sym is) (shows_coming s n object))
  where
    staged : (m : ℕ) → IsStaged (get (insert s.places n (coming object)) m)
    staged m = elim (cases_eq m n) [
      | inl here ↦ subst IsStaged (sym (ap (get (insert s.places n (coming object))) here ∙ get_same s.places n _)) (unsettled object bare)
      | inr away ↦ subst IsStaged (sym (get_other s.places n m _ away)) (sound.staged m)
    ]

-- a number that is not in use is nowhere
pub unused_nowhere : UnusedNumbersAreNowhere → (ps : Processes) (s : Numbers) (n : ℕ) → Sound ps s → get s.places n ≡ None → IsNowhere (state_of ps s) n
unused_nowhere law ps s n sound none = law (state_of ps s) n sound.well (get_chosen inode_in s.places n ∙ ap (option_and_then inode_in) none) (get_chosen description_in s.places n ∙ ap (option_and_then description_in) none)

-- the first form
pub first_sound : CallLaws WellFormed → (ps : Processes) (setup : Setup) (s : Numbers) → state_of ps s ≡ start 0 setup → s.root ≡ 0 → IsFirstRoot s → Sound ps s
first_sound laws ps setup s is root first = record {
  root = root;
  well = subst WellFormed (sym is) (laws.well_start 0 setup);
  tidied = subst (λ (k : Kernel). tidy k ≡ k) (sym is) (laws.tidy_start 0 setup);
  staged = staged;
  counted = record {
    openings = λ n file there. absurd (only n (Kept_file file) refl there);
    holders = λ d opened there. absurd (only d (Kept_description opened) refl there);
    pipes = λ p pipe there. absurd (only p (Kept_pipe pipe) refl there);
  };
}
  where
    at_root : get s.places s.root ≡ Some (present (Kept_directory no_names))
    at_root = ap (λ m. get m s.root) first ∙ get_same empty s.root _

    at_other : (n : ℕ) → n ≢ s.root → get s.places n ≡ None
    at_other n away = ap (λ m. get m n) first ∙ get_other empty s.root n _ away ∙ get-empty nat_cmp n

    staged : (n : ℕ) → IsStaged (get s.places n)
    staged n = elim (cases_eq n s.root) [
      | inl same ↦ subst IsStaged (sym (ap (get s.places) same ∙ at_root)) (something no_names)
      | inr away ↦ subst IsStaged (sym (at_other n away)) tt
    ]

    only : (n : ℕ) (object : Object) → listing_of object ≡ None → object_at s n ≡ Some object → ⊥
    only n object none there = elim (cases_eq n s.root) [
      | inl same ↦ no_listing no_names object (some_object (Kept_directory no_names) object (sym (ap held (ap (get s.places) same ∙ at_root)) ∙ there)) none
      | inr away ↦ none_is_some object (sym (ap held (at_other n away)) ∙ there)
    ]
