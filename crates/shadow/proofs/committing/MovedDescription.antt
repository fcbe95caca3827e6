-- The offset of a description changes.
use Rattle.std.proofs.Common.{◌≡◌, ◌≢◌, ℕ, Option, Some, None, refl, sym, ap, subst, ◌∙◌}
use Rattle.std.specs.Option.{option_and_then}
use Rattle.model.specs.FiniteMap.{FinMap, get}
use Rattle.model.specs.State.{Kernel, Description, mapped}
use Rattle.model.specs.Changes.{at_offset, openings, set_offset}
use Rattle.model.proofs.Laws.{get_other, get_same}
use Rattle.freeing_laws.specs.Pipes.{ArePair}
use Rattle.freeing_laws.proofs.Openings.{openings_change_lem}
use Rattle.store.specs.Numbers.{Numbers, held}
use Rattle.store.specs.Places.{altered, changed_opened, moved_to, with_opened}
use Rattle.store.specs.Shown.{descriptions, inodes, with_offset, with_offset_by}
use Rattle.store.specs.declared.Opened.{Opened}
use Rattle.store.specs.declared.Place.{Place}
use Rattle.store.specs.declared.Stage.{Stage}
use Rattle.store.specs.declared.Stage.TheVariants.{Coming, Held, Removed}
use Rattle.store.specs.declared.Object.{Object}
use Rattle.store.specs.declared.Object.TheVariants.{Directory as A_directory, File as A_file, Pipe as A_pipe, Fixed as A_fixed}
use Rattle.store.specs.declared.Object.TheVariants.{Description as A_description, Nothing}
use Rattle.store.proofs.Laws.{descriptions-moved, inodes-opened, left-altered, place-other}
use Rattle.shadow.specs.Stored.{AreCounted, Processes, reserve_in, state_of, stored}
use Rattle.notes.specs.declared.opening.Opening.TheVariants.{Moved}
use Rattle.shadow.specs.Laid.{IsReopened, reserves_of}
use Rattle.shadow.proofs.shared.SoundnessLemmas.{counted_by, counts_of, counts_of_state, counts_stay, holders_seen}
use Rattle.shadow.proofs.shared.SoundnessLemmas.{openings_seen}
use Rattle.shadow.proofs.freeing.RemainingPlaces.{opened_staged}
use Rattle.shadow.proofs.shared.PipePairLemmas.{ends_left, pair_offset, pipe_by_opened, pipe_stood}
use Rattle.shadow.proofs.committing.DescriptionChanges.{reserve_as}

-- what a change of a description leaves of a place
module _ (f : Opened → Opened) where
  pub reserve_opened : (place : Place) → reserve_in (with_opened f place) ≡ reserve_in place
  reserve_opened place = by_object place.object
    where
      by_object : (object : Object)
          → reserve_in (record { stage = place.stage; object = changed_opened f object })
          ≡ reserve_in (record { stage = place.stage; object = object })
      by_object (A_directory listing) = refl
      by_object (A_file file) = refl
      by_object (A_pipe pipe) = refl
      by_object (A_fixed fixed) = refl
      by_object (A_description opened) = refl
      by_object Nothing = refl

  pub openings_opened : (place : Place)
      → openings_seen (held (Some (with_opened f place))) ≡ openings_seen (held (Some place))
  openings_opened place = by_stage place.stage place.object
    where
      by_stage : (t : Stage) (object : Object)
          → openings_seen (held (Some (record { stage = t; object = changed_opened f object })))
          ≡ openings_seen (held (Some (record { stage = t; object = object })))
      by_stage Coming object = refl
      by_stage Removed object = refl
      by_stage Held (A_directory listing) = refl
      by_stage Held (A_file file) = refl
      by_stage Held (A_pipe pipe) = refl
      by_stage Held (A_fixed fixed) = refl
      by_stage Held (A_description opened) = refl
      by_stage Held Nothing = refl

  -- where it leaves the count
  pub holders_opened : ((opened : Opened) → (f opened).holders ≡ opened.holders) → (place : Place)
      → holders_seen (held (Some (with_opened f place))) ≡ holders_seen (held (Some place))
  holders_opened same place = by_stage place.stage place.object
    where
      by_stage : (t : Stage) (object : Object)
          → holders_seen (held (Some (record { stage = t; object = changed_opened f object })))
          ≡ holders_seen (held (Some (record { stage = t; object = object })))
      by_stage Coming object = refl
      by_stage Removed object = refl
      by_stage Held (A_directory listing) = refl
      by_stage Held (A_file file) = refl
      by_stage Held (A_pipe pipe) = refl
      by_stage Held (A_fixed fixed) = refl
      by_stage Held (A_description opened) = ap (λ (c : ℕ). Some c) (same opened)
      by_stage Held Nothing = refl

-- the offset in the descriptions
module _ (place : ℕ) (m : FinMap _ Description) (d : ℕ) where
  offset_here : get (with_offset place m d) d ≡ mapped (at_offset place) (get m d)
  offset_here = by_old (get m d) refl
    where
      by_old : (o : Option Description) → get m d ≡ o
          → get (with_offset_by place o m d) d ≡ mapped (at_offset place) o
      by_old (Some it) is = get_same m d (at_offset place it)
      by_old None is = is

  offset_there : (e : ℕ) → e ≢ d → get (with_offset place m d) e ≡ get m e
  offset_there e away = by_old (get m d)
    where
      by_old : (o : Option Description) → get (with_offset_by place o m d) e ≡ get m e
      by_old (Some it) = get_other m d e (at_offset place it) away
      by_old None = refl

-- the state with this offset
pub offset_state : (ps : Processes) (s : Numbers) (d place : ℕ)
    → state_of ps (altered (with_opened (moved_to place)) s d)
    ≡ set_offset d place (get (descriptions s) d) (state_of ps s)
offset_state ps s d place =
    ap (λ m. stored ps m s.rights (descriptions (altered (with_opened (moved_to place)) s d)))
    (inodes-opened (moved_to place) s d)
    ∙ ap (stored ps (inodes s) s.rights) (descriptions-moved place s d) ∙ by_old (get (descriptions s) d)
  where
    by_old : (o : Option Description)
        → stored ps (inodes s) s.rights (with_offset_by place o (descriptions s) d)
        ≡ set_offset d place o (state_of ps s)
    by_old (Some it) = refl
    by_old None = refl

pub offset_counted : (ps : Processes) (s : Numbers) (d place : ℕ) → AreCounted ps s
    → AreCounted ps (altered (with_opened (moved_to place)) s d)
offset_counted ps s d place counted =
    counted_by ps t (counts_of_state (state_of ps s) (state_of ps t) t
    (λ n. ap (λ (k : Kernel). openings k n) (offset_state ps s d place)
    ∙ openings_change_lem.offset (state_of ps s) d place n)
    (openings_change_lem.by_processes (state_of ps s) (state_of ps t) refl)
    (λ p r w pair. subst (λ m. ArePair m p r w) (sym (descriptions-moved place s d))
    (pair_offset place (descriptions s) d p r w pair))
    (counts_stay (state_of ps s) s t
    (left-altered (λ o. openings_seen (held o)) (with_opened (moved_to place))
    (openings_opened (moved_to place)) s d)
    (left-altered (λ o. holders_seen (held o)) (with_opened (moved_to place))
    (holders_opened (moved_to place) (λ opened. refl)) s d)
    (ends_left (with_opened (moved_to place)) (pipe_by_opened (moved_to place)) s d)
    (counts_of ps s counted)))
  where
    t : Numbers
    t = altered (with_opened (moved_to place)) s d

-- and what is kept
pub offset_reserves : (s : Numbers) (d place n : ℕ)
    → get (reserves_of (altered (with_opened (moved_to place)) s d)) n ≡ get (reserves_of s) n
offset_reserves s d place n =
    reserve_as s (altered (with_opened (moved_to place)) s d) n
    (left-altered (option_and_then reserve_in) (with_opened (moved_to place))
    (reserve_opened (moved_to place)) s d n)

pub opening_moved : (s : Numbers) (d place : ℕ) (t : Numbers)
    → t ≡ altered (with_opened (moved_to place)) s d → IsReopened d (Moved place) s t
opening_moved s d place t is = subst (IsReopened d (Moved place) s) (sym is) (record {
  same = record {
    root = refl;
    inodes = inodes-opened (moved_to place) s d;
    rights = refl;
    staged = opened_staged (moved_to place) s d;
  };
  here = ap (λ m. get m d) (descriptions-moved place s d) ∙ offset_here place (descriptions s) d;
  others = λ e away. ap (λ m. get m e) (descriptions-moved place s d)
      ∙ offset_there place (descriptions s) d e away;
  places = λ n is away. place-other (with_opened (moved_to place)) s d n away ∙ is;
  reserve = offset_reserves s d place d;
  reserves = λ n away. offset_reserves s d place n;
  pipes = pipe_stood (with_opened (moved_to place)) (pipe_by_opened (moved_to place)) s d;
  counted = λ ps counted unheld ends. offset_counted ps s d place counted;
})
