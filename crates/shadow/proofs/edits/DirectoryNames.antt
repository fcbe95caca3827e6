-- The names of a directory change in the store, and nothing else.
use Rattle.std.proofs.Common.{◌≡◌, ℕ, ◌+◌, ◌-◌, ◌<◌, true, false, Option, Some, None, refl, sym, ap, subst, ◌∙◌, arith, eq-eqb}
use Rattle.std.specs.Option.{option_and_then}
use Rattle.model.specs.FiniteMap.{FinMap, get, insert, remove}
use Rattle.model.specs.State.{A_directory, Directory, Kernel, Kind, Name, kind, kind_of, mapped, name_cmp, names_of, names_of_inode}
use Rattle.model.specs.Changes.{clear_name, set_inode, set_name}
use Rattle.dirlist.specs.Listing.{Listing}
use Rattle.store.specs.Numbers.{Numbers, held, if_held, present}
use Rattle.store.specs.Places.{altered, is_coming, listing_at, listing_in, may_be_named, with_listing, with_name, without_name}
use Rattle.store.specs.Shown.{descriptions, inode_of, inodes}
use Rattle.store.specs.declared.Place.{Place}
use Rattle.store.specs.declared.Stage.{Stage}
use Rattle.store.specs.declared.Stage.TheVariants.{Coming, Held, Removed}
use Rattle.store.specs.declared.Object.{Object}
use Rattle.store.specs.declared.Object.TheVariants.{Directory as Kept_directory}
use Rattle.store.proofs.Laws.{altered-some, descriptions-changed, get-inodes, inodes-set, with_place}
use Rattle.call_laws.proofs.Laws.{not_none, some_same}
use Rattle.shadow.specs.Claims.{Claim, New_directory, Number, Room, as_count, number_of, room_in}
use Rattle.shadow.specs.Laid.{kept_in}
use Rattle.freeing_laws.proofs.Openings.{openings_change_lem}
use Rattle.shadow.specs.Stored.{AreCounted, IsStaged, Processes, Sound, state_of, stored}
use Rattle.shadow.proofs.shared.SoundnessLemmas.{Counts, counted_by, counts_of, counts_of_state}
use Rattle.shadow.proofs.freeing.RemainingPlaces.{kept_by, kept_is}
use Rattle.shadow.proofs.shared.PipePairLemmas.{same_pairs}
use Rattle.shadow.proofs.edits.NewInodes.{held_directory, named_in, place_counts, place_kept, place_staged, room_elsewhere}

-- What is stored on the way of an edit of names: what was counted in a state is still so.
pub record Stands (ps : Processes) (counted : Kernel) (s : Numbers) : Type 0 where
  pub staged : (n : ℕ) → IsStaged (get s.places n)
  pub counts : Counts counted s

-- what is stored stands as it is counted
pub sound_stands : (ps : Processes) (s : Numbers) → Sound ps s → Stands ps (state_of ps s) s
sound_stands ps s sound = record { staged = sound.staged; counts = counts_of ps s sound.counted }

-- where the state is another whose descriptions and processes are those of the counted one
pub stands_counted : (ps : Processes) (k l : Kernel) (s : Numbers) → state_of ps s ≡ l → l.descriptions ≡ k.descriptions → l.processes ≡ k.processes → Stands ps k s → AreCounted ps s
stands_counted ps k l s is descriptions processes stands =
    counted_by ps s (subst (λ (t : Kernel). Counts t s) (sym is)
    (counts_of_state k l s (openings_change_lem.by_descriptions k l descriptions) (openings_change_lem.by_processes k l processes) (same_pairs k l descriptions) stands.counts))

-- a directory's names become others, by a function of its listing
module _ (ps : Processes) (counted : Kernel) (s : Numbers) (d : ℕ) (f : Listing → Listing)
    (stands : Stands ps counted s) (is : kind_of (state_of ps s) d ≡ Some A_directory) where
  abbrev relisted : Numbers
  relisted = altered (with_listing f) s d

  parent : (l : Listing) × (get s.places d ≡ Some (present (Kept_directory l)))
  parent = held_directory s d is

  abbrev after : Place
  after = present (Kept_directory (f parent.0))

  relisted_is : relisted ≡ with_place s d after
  relisted_is = altered-some (with_listing f) s d (present (Kept_directory parent.0)) parent.1

  names_are : names_of (state_of ps s) d ≡ parent.0.names
  names_are = ap names_of_inode (get-inodes s d ∙ ap (λ o. option_and_then inode_of (held o)) parent.1)

  pub relisted_state : (g : FinMap name_cmp ℕ → FinMap name_cmp ℕ) → ((l : Listing) → (f l).names ≡ g l.names)
      → state_of ps relisted ≡ set_inode d (Directory (g (names_of (state_of ps s) d))) (state_of ps s)
  relisted_state g by =
      ap (λ m. stored ps m s.rights (descriptions relisted))
      (ap inodes relisted_is ∙ inodes-set s d after
      ∙ ap (λ ns. insert (inodes s) d (Directory ns)) (by parent.0 ∙ ap g (sym names_are)))
      ∙ ap (stored ps (insert (inodes s) d (Directory (g (names_of (state_of ps s) d)))) s.rights) (descriptions-changed f s d)

  pub relisted_stands : Stands ps counted relisted
  relisted_stands = record {
    staged = λ m. subst (λ (t : Numbers). IsStaged (get t.places m)) (sym relisted_is) (place_staged s d after stands.staged (λ e. cc) m);
    counts = subst (Counts counted) (sym relisted_is) (place_counts s d after counted stands.counts (λ c e. absurd (nothing c e)) (λ c e. absurd (nothing c e)) (λ ends e. absurd (not_none ends (sym e))));
  }
    where
      nothing : (c : ℕ) → None ≡ Some c → ⊥
      nothing c e = cc

-- a name goes, and a name comes
module _ (ps : Processes) (counted : Kernel) (s : Numbers) (d : ℕ) (x : Name) (stands : Stands ps counted s)
    (is : kind_of (state_of ps s) d ≡ Some A_directory) where
  pub without_state : state_of ps (altered (with_listing (without_name x)) s d) ≡ clear_name d x (state_of ps s)
  without_state = relisted_state ps counted s d (without_name x) stands is (λ names. remove names x) (λ l. refl)

  pub without_stands : Stands ps counted (altered (with_listing (without_name x)) s d)
  without_stands = relisted_stands ps counted s d (without_name x) stands is

  pub with_state : (n : ℕ) → state_of ps (named_in s d x n) ≡ set_name d x n (state_of ps s)
  with_state n = relisted_state ps counted s d (with_name x n) stands is (λ names. insert names x n) (λ l. refl)

  pub with_stands : (n : ℕ) → Stands ps counted (named_in s d x n)
  with_stands n = relisted_stands ps counted s d (with_name x n) stands is

  -- where there is room
  module _ (n : ℕ) (some_room : 0 < kept_in s (Room d)) where
    abbrev listing : Listing
    listing = (parent ps counted s d (with_name x n) stands is).0

    listing_is : get s.places d ≡ Some (present (Kept_directory listing))
    listing_is = (parent ps counted s d (with_name x n) stands is).1

    room_there : 0 < listing.promised
    room_there = let is : kept_in s (Room d) ≡ listing.promised = kept_is s (Room d) ∙ ap (kept_by (Room d)) listing_is in let some : 0 < kept_in s (Room d) = some_room in omega arith

    pub with_room : (l : Listing) → listing_at s d ≡ Some l → 0 < l.promised
    with_room l at = subst (λ (l : Listing). 0 < l.promised) (some_same listing l (sym (ap (λ o. listing_in o) listing_is) ∙ at)) room_there

    pub with_dir : is_coming (get s.places d) ≡ false
    with_dir = ap is_coming listing_is

    pub with_kept : (c : Claim) → kept_in (named_in s d x n) c + room_in d c ≡ kept_in s c
    with_kept c = ap (λ t. kept_in t c + room_in d c) (relisted_is ps counted s d (with_name x n) stands is)
        ∙ place_kept s d (present (Kept_directory (with_name x n listing))) (present (Kept_directory listing)) listing_is (room_in d) (room_elsewhere d) takes c
      where
        takes : (c : Claim) → number_of c ≡ d → kept_by c (Some (present (Kept_directory (with_name x n listing)))) + room_in d c ≡ kept_by c (Some (present (Kept_directory listing)))
        takes (Room r) same = (let one : room_in d (Room r) ≡ 1 = ap as_count (eq-eqb d r (sym same)) in let now : kept_by (Room r) (Some (present (Kept_directory (with_name x n listing)))) ≡ listing.promised - 1 = refl in let before : kept_by (Room r) (Some (present (Kept_directory listing))) ≡ listing.promised = refl in let some : 0 < listing.promised = room_there in omega arith)
        takes (New_directory m) same = refl
        takes (Number m) same = refl

-- what is shown may be named
pub shown_named : (s : Numbers) (n : ℕ) (what : Kind) → mapped kind (get (inodes s) n) ≡ Some what → may_be_named (get s.places n) ≡ true
shown_named s n what is = by_place (get s.places n) (sym (ap (mapped kind) (get-inodes s n)) ∙ is)
  where
    by_stage : (t : Stage) (object : Object) → mapped kind (option_and_then inode_of (if_held t object)) ≡ Some what → may_be_named (Some (record { stage = t; object = object })) ≡ true
    by_stage Held object is = refl
    by_stage Coming object is = refl
    by_stage Removed object is = absurd cc

    by_place : (o : Option Place) → mapped kind (option_and_then inode_of (held o)) ≡ Some what → may_be_named o ≡ true
    by_place None is = absurd cc
    by_place (Some place) is = by_stage place.stage place.object is
