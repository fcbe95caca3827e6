-- What is said of a committed state, said of what is stored.
use Rattle.std.proofs.Common.{◌≡◌, ◌≢◌, ℕ, ◌+◌, ◌<◌, Bool, true, false, Option, Some, None, refl, sym, ap, subst, ◌∙◌, arith, inl, inr, map}
use Rattle.std.specs.Option.{option_and_then}
use Rattle.std.proofs.lemmas.Bool.{cases_eq}
use Rattle.std.proofs.lemmas.List.{length-map}
use Rattle.model.proofs.Laws.{get_other}
use Rattle.model.specs.FiniteMap.{empty, get, insert}
use Rattle.model.specs.State.{A_directory, Directory, kind, mapped}
use Rattle.model.specs.Moments.{Setup, start}
use Rattle.call_laws.proofs.Laws.{not_none}
use Rattle.store.specs.Numbers.{Numbers, coming}
use Rattle.store.specs.Shown.{descriptions, inode_in, inode_of, inodes, shown_at}
use Rattle.store.specs.declared.Place.{Place}
use Rattle.store.specs.declared.Stage.{Stage}
use Rattle.store.specs.declared.Stage.TheVariants.{Coming, Held, Removed}
use Rattle.store.specs.declared.Object.{Object}
use Rattle.store.specs.declared.Object.TheVariants.{Directory as Kept_directory, File as Kept_file, Pipe as Kept_pipe, Fixed as Kept_fixed, Description as Kept_description, Nothing}
use Rattle.shadow.specs.Committed.{Committed}
use Rattle.shadow.specs.Claims.{Claim, IsDirectory, KeepsMore, Stays, new_number, reserved}
use Rattle.shadow.specs.Looks.{DirectoriesAreKept}
use Rattle.shadow.specs.Stored.{Processes, committed_of, reserve_in, state_of}
use Rattle.shadow.proofs.shared.ProcessLemmas.{begun, fresh}
use Rattle.shadow.proofs.claims.ClaimCounts.{IsAwaited, IsListed, listed_of, met, met_is, of_listed, stays_listed, with_place}
use Rattle.shadow.proofs.shared.PlaceLemmas.{get_chosen}
use Rattle.shadow.proofs.shared.FixedKinds.{no_directory}

met_new : (s : Numbers) (b : Bool) (n : ℕ) → 0 < met s (new_number b n) → IsAwaited b n (get s.places n)
met_new s true n some = some
met_new s false n some = some

module _ (ps : Processes) (s : Numbers) (v : Committed) (is : committed_of ps s ≡ v) where
  pub met_of : (c : Claim) → met s c ≡ reserved v c
  met_of c = sym (met_is ps s c) ∙ ap (λ (x : Committed). reserved x c) is

  pub some_of : (c : Claim) → 0 < reserved v c → 0 < met s c
  some_of c some = let same : met s c ≡ reserved v c = met_of c in omega arith

  pub awaited_of : (b : Bool) (n : ℕ) → 0 < reserved v (new_number b n) → IsAwaited b n (get s.places n)
  awaited_of b n some = met_new s b n (some_of (new_number b n) some)

  pub listed_in : (n : ℕ) → IsDirectory v.reserves n → IsListed (get s.places n)
  listed_in n there = listed_of ps s n (subst (λ (x : Committed). IsDirectory x.reserves n) (sym is) there)

  -- what the store keeps is what is kept
  pub less_of : (after : Numbers) (less : Claim → ℕ) → ((c : Claim) → met after c + less c ≡ met s c) → KeepsMore (committed_of ps after) v less
  less_of after less h c =
      let now : reserved (committed_of ps after) c ≡ met after c = met_is ps after c in
      let was : met s c ≡ reserved v c = met_of c in
      let one : met after c + less c ≡ met s c = h c in omega arith

  pub more_of : (after : Numbers) (more : Claim → ℕ) → ((c : Claim) → met after c ≡ met s c + more c) → KeepsMore v (committed_of ps after) more
  more_of after more h c =
      let now : reserved (committed_of ps after) c ≡ met after c = met_is ps after c in
      let was : met s c ≡ reserved v c = met_of c in
      let one : met after c ≡ met s c + more c = h c in omega arith

-- what is shown as a directory is one
shown_listed : (t : Stage) (object : Object) → mapped kind (shown_at t (inode_of object)) ≡ Some A_directory → IsListed (Some (record { stage = t; object = object }))
shown_listed Coming object is = absurd (not_none A_directory (sym is))
shown_listed Removed object is = absurd (not_none A_directory (sym is))
shown_listed Held (Kept_directory l) is = λ e. not_none l.promised e
shown_listed Held (Kept_file file) is = absurd cc
shown_listed Held (Kept_pipe pipe) is = absurd cc
shown_listed Held (Kept_fixed fixed) is = no_directory fixed is
shown_listed Held (Kept_description opened) is = absurd (not_none A_directory (sym is))
shown_listed Held Nothing is = absurd (not_none A_directory (sym is))

pub directories_kept : (ps : Processes) (s : Numbers) → DirectoriesAreKept (committed_of ps s)
directories_kept ps s d is = of_listed ps s d (by_place (get s.places d) (ap (mapped kind) (sym (get_chosen inode_in s.places d)) ∙ is))
  where
    by_place : (o : Option Place) → mapped kind (option_and_then inode_in o) ≡ Some A_directory → IsListed o
    by_place None is = absurd (not_none A_directory (sym is))
    by_place (Some place) is = shown_listed place.stage place.object is

-- the first state
pub first_state : (ps : Processes) (setup : Setup) (s : Numbers) → ps ≡ record { list = map fresh setup.priorities; bounds = setup.bounds } → s.root ≡ 0 → inodes s ≡ insert empty s.root (Directory empty) → descriptions s ≡ empty → s.rights ≡ empty → state_of ps s ≡ start 0 setup
first_state ps setup s list root shown opened_same unset =
    ap (λ ps. state_of ps s) list ∙ (λ i. record {
      root = 0;
      inodes = (shown ∙ ap (λ r. insert empty r (Directory empty)) root) i;
      rights = unset i;
      descriptions = opened_same i;
      processes = sym (begun setup.priorities setup.bounds) i;
      made = length-map setup.priorities fresh i;
      bounds = setup.bounds;
    })

-- a reserved number is in use, and what was in use stays so
pub now_used : (ps : Processes) (s : Numbers) (n : ℕ) (place : Place) → get s.places n ≡ Some place → get (committed_of ps s).reserves n ≢ None
now_used ps s n place there none = not_none _ (sym (get_chosen reserve_in s.places n ∙ ap (option_and_then reserve_in) there) ∙ none)

pub stays_with : (ps : Processes) (s : Numbers) (v : Committed) → committed_of ps s ≡ v → (n : ℕ) (object : Object) → get s.places n ≡ None → Stays v (committed_of ps (with_place s n (coming object)))
stays_with ps s v is n object unused = record {
  used = λ q none. ap (λ (x : Committed). get x.reserves q) (sym is) ∙ get_chosen reserve_in s.places q ∙ ap (option_and_then reserve_in) (was q none);
  directories = λ q there. of_listed ps (with_place s n (coming object)) q (stays_listed s q n object unused (listed_in ps s v is q there));
}
  where
    bare : (o : Option Place) → option_and_then reserve_in o ≡ None → o ≡ None
    bare None e = refl
    bare (Some place) e = absurd (not_none _ e)

    was : (q : ℕ) → get (committed_of ps (with_place s n (coming object))).reserves q ≡ None → get s.places q ≡ None
    was q none = elim (cases_eq q n) [
      | inl here ↦ ap (get s.places) here ∙ unused
      | inr away ↦ sym (get_other s.places n q (coming object) away) ∙ bare (get (insert s.places n (coming object)) q) (sym (get_chosen reserve_in (insert s.places n (coming object)) q) ∙ none)
    ]
