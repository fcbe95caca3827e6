-- A name more for what may have several, and a name that moves, in the store.
use Rattle.std.proofs.Common.{◌≡◌, ℕ, ◌+◌, ◌<◌, ◌≤◌, ◌==◌, true, false, cond, [], ◌∷◌, Option, Some, None, refl, sym, ap, subst, ◌∙◌, arith, eq-eqb}
use Rattle.model.specs.FiniteMap.{get, remove}
use Rattle.model.specs.State.{A_directory, Kernel, Kind, Name, kind_of, names_of}
use Rattle.model.specs.Changes.{Edit, Move, Name_file, Replaced, applied, clear_name, inode_replaced, set_name, tidy}
use Rattle.call_laws.specs.Fits.{Fits}
use Rattle.call_laws.specs.WellFormed.{CanBeLinked}
use Rattle.call_laws.proofs.Laws.{has_names}
use Rattle.freeing_laws.specs.Sweep.{free_inodes}
use Rattle.freeing_laws.proofs.Laws.{sweep_is_tidy_lem}
use Rattle.dirlist.specs.Listing.{Listing}
use Rattle.store.specs.Numbers.{Numbers}
use Rattle.store.specs.Places.{altered, is_coming, listing_at, may_be_named, with_listing, without_name}
use Rattle.shadow.specs.Claims.{Claim, New_directory, Number, Room, claimed_by_one, reserved, room_in}
use Rattle.shadow.specs.Committed.{Committed}
use Rattle.freeing_laws.specs.Counts.{free_inode}
use Rattle.shadow.specs.Laid.{Frees, Holds, kept_in}
use Rattle.shadow.specs.Stored.{Processes, Sound, committed_of, state_of}
use Rattle.shadow.proofs.shared.SoundnessLemmas.{sound_after, tidied_of}
use Rattle.shadow.proofs.freeing.SoundAfterFreeing.{IsMade, freed_sound, freed_state, made_holds}
use Rattle.shadow.proofs.edits.NewInodes.{covered, named_in}
use Rattle.shadow.proofs.edits.DirectoryNames.{Stands, shown_named, sound_stands, stands_counted, with_dir, with_kept, with_room, with_stands, with_state, without_stands, without_state}
use Rattle.shadow.proofs.edits.RemovedNames.{unnamed_keeps}

-- what is claimed for a name that comes
pub link_claims : (d n : ℕ) (x : Name) (c : Claim) → claimed_by_one c [] (Name_file d x n) ≡ room_in d c
link_claims d n x (Room r) = (let one : claimed_by_one (Room r) [] (Name_file d x n) ≡ 0 + cond (d == r) 1 0 = refl in let same : room_in d (Room r) ≡ cond (d == r) 1 0 = refl in omega arith)
link_claims d n x (New_directory m) = refl
link_claims d n x (Number m) = refl

pub move_claims : (d : ℕ) (x : Name) (e : ℕ) (y : Name) (n : ℕ) (replaced : Replaced) (c : Claim) → claimed_by_one c [] (Move d x e y n replaced) ≡ room_in e c
move_claims d x e y n replaced (Room r) = (let one : claimed_by_one (Room r) [] (Move d x e y n replaced) ≡ 0 + cond (e == r) 1 0 = refl in let same : room_in e (Room r) ≡ cond (e == r) 1 0 = refl in omega arith)
move_claims d x e y n replaced (New_directory m) = refl
move_claims d x e y n replaced (Number m) = refl

pub room_here : (ps : Processes) (s : Numbers) (v : Committed) → committed_of ps s ≡ v → (d : ℕ) (e : Edit) → ((c : Claim) → claimed_by_one c [] e ≡ room_in d c) → ((c : Claim) → claimed_by_one c [] e ≤ reserved v c) → 0 < kept_in s (Room d)
room_here ps s v is d e claims covers =
    let one : claimed_by_one (Room d) [] e ≡ 1 = claims (Room d) ∙ ap (λ b. cond b 1 0) (eq-eqb d d refl) in
    covered ps s v is (Room d) (claimed_by_one (Room d) [] e) (covers (Room d)) (omega (arith, one))

module _ (ps : Processes) (s : Numbers) (d : ℕ) (x : Name) (n : ℕ) (sound : Sound ps s) (fits : Fits [] (state_of ps s) (Name_file d x n)) where
  link_applied : applied [] (Name_file d x n) (state_of ps s) ≡ set_name d x n (state_of ps s)
  unfolding applied
  link_applied = refl

  is_parent : kind_of (state_of ps s) d ≡ Some A_directory
  is_parent = fits.0.parent.directory

  link_state : state_of ps (named_in s d x n) ≡ set_name d x n (state_of ps s)
  link_state = with_state ps (state_of ps s) s d x (sound_stands ps s sound) is_parent n

  link_stands : Stands ps (state_of ps s) (named_in s d x n)
  link_stands = with_stands ps (state_of ps s) s d x (sound_stands ps s sound) is_parent n

  pub linking_made : IsMade ps ps s (named_in s d x n) [] (Name_file d x n)
  linking_made = record {
    root = refl;
    state = link_state ∙ sym link_applied;
    staged = link_stands.staged;
    counted = stands_counted ps (state_of ps s) (set_name d x n (state_of ps s)) (named_in s d x n) link_state refl refl link_stands;
  }

  pub linking_num : may_be_named (get s.places n) ≡ true
  linking_num = by_kind (kind_of (state_of ps s) n) refl fits.1
    where
      by_kind : (o : Option Kind) → kind_of (state_of ps s) n ≡ o → CanBeLinked o → may_be_named (get s.places n) ≡ true
      by_kind (Some what) is can = shown_named s n what is
      by_kind None is can = absurd can

  module _ (some_room : 0 < kept_in s (Room d)) where
    pub linking_room : (l : Listing) → listing_at s d ≡ Some l → 0 < l.promised
    linking_room = with_room ps (state_of ps s) s d x (sound_stands ps s sound) is_parent n some_room

    pub linking_dir : is_coming (get s.places d) ≡ false
    linking_dir = with_dir ps (state_of ps s) s d x (sound_stands ps s sound) is_parent n some_room

    pub linking_kept : (c : Claim) → kept_in (named_in s d x n) c + claimed_by_one c [] (Name_file d x n) ≡ kept_in s c
    linking_kept c =
        let one : kept_in (named_in s d x n) c + room_in d c ≡ kept_in s c = with_kept ps (state_of ps s) s d x (sound_stands ps s sound) is_parent n some_room c in
        let same : claimed_by_one c [] (Name_file d x n) ≡ room_in d c = link_claims d n x c in omega arith

module _ (ps : Processes) (s : Numbers) (d : ℕ) (x : Name) (e : ℕ) (y : Name) (n : ℕ) (replaced : Replaced) (sound : Sound ps s) (fits : Fits [] (state_of ps s) (Move d x e y n replaced)) where
  abbrev k : Kernel
  k = state_of ps s

  move_applied : applied [] (Move d x e y n replaced) k ≡ set_name e y n (clear_name d x k)
  unfolding applied
  move_applied = refl

  -- the store without the old name, and with the new one
  abbrev pub cleared_in : Numbers
  cleared_in = altered (with_listing (without_name x)) s d

  abbrev pub moved_in : Numbers
  moved_in = named_in cleared_in e y n

  from : kind_of k d ≡ Some A_directory
  from = fits.from.parent.directory

  cleared_state : state_of ps cleared_in ≡ clear_name d x k
  cleared_state = without_state ps k s d x (sound_stands ps s sound) from

  cleared_stands : Stands ps k cleared_in
  cleared_stands = without_stands ps k s d x (sound_stands ps s sound) from

  kinds : (m : ℕ) → kind_of (state_of ps cleared_in) m ≡ kind_of k m
  kinds m = ap (λ (l : Kernel). kind_of l m) cleared_state ∙ (has_names k d (remove (names_of k d) x) from).kinds m

  onto : kind_of (state_of ps cleared_in) e ≡ Some A_directory
  onto = kinds e ∙ fits.onto.directory

  moved_state : state_of ps moved_in ≡ set_name e y n (clear_name d x k)
  moved_state = with_state ps k cleared_in e y cleared_stands onto n ∙ ap (set_name e y n) cleared_state

  moved_stands : Stands ps k moved_in
  moved_stands = with_stands ps k cleared_in e y cleared_stands onto n

  pub moving_made : IsMade ps ps s moved_in [] (Move d x e y n replaced)
  moving_made = record {
    root = refl;
    state = moved_state ∙ sym move_applied;
    staged = moved_stands.staged;
    counted = stands_counted ps k (set_name e y n (clear_name d x k)) moved_in moved_state refl refl moved_stands;
  }

  pub moving_num : may_be_named (get cleared_in.places n) ≡ true
  moving_num = shown_named cleared_in n fits.what (kinds n ∙ fits.from.kind)

  pub moving_tidies : free_inodes (inode_replaced replaced) (applied [] (Move d x e y n replaced) k) ≡ tidy (applied [] (Move d x e y n replaced) k)
  moving_tidies = sweep_is_tidy_lem.in_turn [] k (Move d x e y n replaced) (tidied_of ps s sound) fits

  module _ (some_room : 0 < kept_in s (Room e)) where
    room_cleared : 0 < kept_in cleared_in (Room e)
    room_cleared = let same : kept_in cleared_in (Room e) ≡ kept_in s (Room e) = unnamed_keeps x s d (Room e) in let some : 0 < kept_in s (Room e) = some_room in omega arith

    pub moving_room : (l : Listing) → listing_at cleared_in e ≡ Some l → 0 < l.promised
    moving_room = with_room ps k cleared_in e y cleared_stands onto n room_cleared

    pub moving_dir : is_coming (get cleared_in.places e) ≡ false
    moving_dir = with_dir ps k cleared_in e y cleared_stands onto n room_cleared

    pub moving_kept : (c : Claim) → kept_in moved_in c + claimed_by_one c [] (Move d x e y n replaced) ≡ kept_in s c
    moving_kept c =
        let one : kept_in moved_in c + room_in e c ≡ kept_in cleared_in c = with_kept ps k cleared_in e y cleared_stands onto n room_cleared c in
        let first : kept_in cleared_in c ≡ kept_in s c = unnamed_keeps x s d c in
        let same : claimed_by_one c [] (Move d x e y n replaced) ≡ room_in e c = move_claims d x e y n replaced c in omega arith

-- what follows of the store in which the name has moved
module _ (ps : Processes) (s : Numbers) (v : Committed) (is : committed_of ps s ≡ v) (sound : Sound ps s) (d : ℕ) (x : Name) (e : ℕ) (y : Name) (n : ℕ) (replaced : Replaced)
    (fit : Fits [] v.state (Move d x e y n replaced)) (covers : (c : Claim) → claimed_by_one c [] (Move d x e y n replaced) ≤ reserved v c) where
  abbrev move : Edit
  move = Move d x e y n replaced

  pub move_fits : Fits [] (state_of ps s) move
  move_fits = subst (λ (v : Committed). Fits [] v.state move) (sym is) fit

  pub move_room : 0 < kept_in s (Room e)
  move_room = room_here ps s v is e move (move_claims d x e y n replaced) covers

  module _ (t : Numbers) (moved : t ≡ named_in (altered (with_listing (without_name x)) s d) e y n) where
    made : IsMade ps ps s t [] move
    made = subst (λ (t : Numbers). IsMade ps ps s t [] move) (sym moved) (moving_made ps s d x e y n replaced sound move_fits)

    pub moved_holds : Holds ps t
    moved_holds = made_holds ps ps s t [] move sound move_fits made

    pub moved_kept : (c : Claim) → kept_in t c + claimed_by_one c [] move ≡ kept_in s c
    moved_kept c = ap (λ (t : Numbers). kept_in t c + claimed_by_one c [] move) moved ∙ moving_kept ps s d x e y n replaced sound move_fits move_room c

    frees : free_inodes (inode_replaced replaced) (applied [] move (state_of ps s)) ≡ tidy (applied [] move (state_of ps s))
    frees = moving_tidies ps s d x e y n replaced sound move_fits

    -- where nothing had the new name
    module _ (none : inode_replaced replaced ≡ []) where
      pub moved_tidy : state_of ps t ≡ tidy (applied [] move (state_of ps s))
      moved_tidy = made.state ∙ subst (λ ns. free_inodes ns (applied [] move (state_of ps s)) ≡ tidy (applied [] move (state_of ps s))) none frees

      pub moved_sound : Sound ps t
      moved_sound = sound_after ps ps s t [] move sound move_fits moved_tidy made.root made.staged made.counted

    -- where something had it, and is freed
    module _ (former : ℕ) (some : inode_replaced replaced ≡ former ∷ []) (u : Numbers) (freed : Frees (free_inode former) ps t u) where
      frees_one : free_inode former (applied [] move (state_of ps s)) ≡ tidy (applied [] move (state_of ps s))
      frees_one = subst (λ ns. free_inodes ns (applied [] move (state_of ps s)) ≡ tidy (applied [] move (state_of ps s))) some frees

      pub over_tidy : state_of ps u ≡ tidy (applied [] move (state_of ps s))
      over_tidy = freed_state ps ps s t [] move sound move_fits made (free_inode former) frees_one u freed

      pub over_sound : Sound ps u
      over_sound = freed_sound ps ps s t [] move sound move_fits made (free_inode former) frees_one u freed

      pub over_kept : (c : Claim) → kept_in u c + claimed_by_one c [] move ≡ kept_in s c
      over_kept c = ap (λ m. m + claimed_by_one c [] move) (freed.kept c) ∙ moved_kept c
