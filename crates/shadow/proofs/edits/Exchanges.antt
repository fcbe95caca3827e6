-- Two names that change places in the store.
use Rattle.std.proofs.Common.{◌≡◌, ℕ, ◌+◌, ◌<◌, ◌≤◌, true, false, [], ◌∷◌, ◌++◌, Some, refl, sym, ap, subst, ◌∙◌, arith, eq-eqb}
use Rattle.model.specs.FiniteMap.{get, insert}
use Rattle.model.specs.State.{A_directory, Kernel, Name, kind_of, names_of}
use Rattle.model.specs.Changes.{Swap, applied, set_name, tidy}
use Rattle.call_laws.specs.Fits.{Fits}
use Rattle.call_laws.proofs.Laws.{has_names}
use Rattle.dirlist.specs.Listing.{Listing}
use Rattle.store.specs.Numbers.{Numbers}
use Rattle.store.specs.Places.{is_coming, listing_at, may_be_named}
use Rattle.shadow.specs.Claims.{Claim, New_directory, Number, Room, as_count, claimed_by_one, claimed_in, reserved, room_in}
use Rattle.shadow.specs.Committed.{Committed}
use Rattle.shadow.specs.Laid.{kept_in}
use Rattle.shadow.specs.Stored.{Processes, Sound, committed_of, state_of}
use Rattle.shadow.proofs.shared.SoundnessLemmas.{kept_of, sound_after, tidy_after}
use Rattle.shadow.proofs.freeing.SoundAfterFreeing.{IsMade}
use Rattle.shadow.proofs.claims.Rooms.{one_room, rooms_both}
use Rattle.shadow.proofs.edits.NewInodes.{named_in}
use Rattle.shadow.proofs.edits.DirectoryNames.{Stands, shown_named, sound_stands, stands_counted, with_dir, with_kept, with_room, with_stands, with_state}

-- what is claimed for two names that change places
two_rooms : (d e r : ℕ) → claimed_in (Room r) [] (d ∷ e ∷ []) ≡ room_in d (Room r) + room_in e (Room r)
two_rooms d e r =
    let both : claimed_in (Room r) [] ((d ∷ []) ++ (e ∷ [])) ≡ claimed_in (Room r) [] (d ∷ []) + claimed_in (Room r) [] (e ∷ []) = rooms_both (Room r) (d ∷ []) (e ∷ []) in
    let one : claimed_in (Room r) [] (d ∷ []) ≡ room_in d (Room r) = one_room (Room r) d in
    let other : claimed_in (Room r) [] (e ∷ []) ≡ room_in e (Room r) = one_room (Room r) e in
    both ∙ ap (λ k. k + claimed_in (Room r) [] (e ∷ [])) one ∙ ap (λ k. room_in d (Room r) + k) other

pub swap_claims : (d : ℕ) (x : Name) (n e : ℕ) (y : Name) (m : ℕ) (c : Claim) → claimed_by_one c [] (Swap d x n e y m) ≡ room_in d c + room_in e c
swap_claims d x n e y m (Room r) = two_rooms d e r
swap_claims d x n e y m (New_directory q) = refl
swap_claims d x n e y m (Number q) = refl

module _ (ps : Processes) (s : Numbers) (d : ℕ) (x : Name) (n e : ℕ) (y : Name) (m : ℕ) (sound : Sound ps s) (fits : Fits [] (state_of ps s) (Swap d x n e y m)) where
  abbrev k : Kernel
  k = state_of ps s

  swap_applied : applied [] (Swap d x n e y m) k ≡ set_name e y n (set_name d x m k)
  unfolding applied
  swap_applied = refl

  -- the store with the first name's new object, and with both
  abbrev pub half_in : Numbers
  half_in = named_in s d x m

  abbrev pub swapped_in : Numbers
  swapped_in = named_in half_in e y n

  from : kind_of k d ≡ Some A_directory
  from = fits.first.parent.directory

  half_state : state_of ps half_in ≡ set_name d x m k
  half_state = with_state ps k s d x (sound_stands ps s sound) from m

  half_stands : Stands ps k half_in
  half_stands = with_stands ps k s d x (sound_stands ps s sound) from m

  kinds : (t : ℕ) → kind_of (state_of ps half_in) t ≡ kind_of k t
  kinds t = ap (λ (l : Kernel). kind_of l t) half_state ∙ (has_names k d (insert (names_of k d) x m) from).kinds t

  onto : kind_of (state_of ps half_in) e ≡ Some A_directory
  onto = kinds e ∙ fits.second.parent.directory

  swapped_state : state_of ps swapped_in ≡ set_name e y n (set_name d x m k)
  swapped_state = with_state ps k half_in e y half_stands onto n ∙ ap (set_name e y n) half_state

  swapped_stands : Stands ps k swapped_in
  swapped_stands = with_stands ps k half_in e y half_stands onto n

  pub swapping_made : IsMade ps ps s swapped_in [] (Swap d x n e y m)
  swapping_made = record {
    root = refl;
    state = swapped_state ∙ sym swap_applied;
    staged = swapped_stands.staged;
    counted = stands_counted ps k (set_name e y n (set_name d x m k)) swapped_in swapped_state refl refl swapped_stands;
  }

  pub swapping_tidy : state_of ps swapped_in ≡ tidy (applied [] (Swap d x n e y m) k)
  swapping_tidy = swapping_made.state ∙ sym (tidy_after ps s [] (Swap d x n e y m) sound fits refl)

  pub swapping_sound : Sound ps swapped_in
  swapping_sound = sound_after ps ps s swapped_in [] (Swap d x n e y m) sound fits swapping_tidy swapping_made.root swapping_made.staged swapping_made.counted

  -- what is named may be named
  pub first_num : may_be_named (get s.places m) ≡ true
  first_num = shown_named s m fits.other fits.second.kind

  pub second_num : may_be_named (get half_in.places n) ≡ true
  second_num = shown_named half_in n fits.what (kinds n ∙ fits.first.kind)

  -- the two rooms
  module _ (rooms : (r : ℕ) → room_in d (Room r) + room_in e (Room r) ≤ kept_in s (Room r)) where
    here : (q : ℕ) → room_in q (Room q) ≡ 1
    here q = ap as_count (eq-eqb q q refl)

    some_first : 0 < kept_in s (Room d)
    some_first = let both : room_in d (Room d) + room_in e (Room d) ≤ kept_in s (Room d) = rooms d in let one : room_in d (Room d) ≡ 1 = here d in omega arith

    half_kept : (c : Claim) → kept_in half_in c + room_in d c ≡ kept_in s c
    half_kept = with_kept ps k s d x (sound_stands ps s sound) from m some_first

    some_second : 0 < kept_in half_in (Room e)
    some_second =
        let both : room_in d (Room e) + room_in e (Room e) ≤ kept_in s (Room e) = rooms e in
        let one : room_in e (Room e) ≡ 1 = here e in
        let left : kept_in half_in (Room e) + room_in d (Room e) ≡ kept_in s (Room e) = half_kept (Room e) in omega arith

    pub first_room : (l : Listing) → listing_at s d ≡ Some l → 0 < l.promised
    first_room = with_room ps k s d x (sound_stands ps s sound) from m some_first

    pub first_dir : is_coming (get s.places d) ≡ false
    first_dir = with_dir ps k s d x (sound_stands ps s sound) from m some_first

    pub second_room : (l : Listing) → listing_at half_in e ≡ Some l → 0 < l.promised
    second_room = with_room ps k half_in e y half_stands onto n some_second

    pub second_dir : is_coming (get half_in.places e) ≡ false
    second_dir = with_dir ps k half_in e y half_stands onto n some_second

    pub swapping_kept : (c : Claim) → kept_in swapped_in c + claimed_by_one c [] (Swap d x n e y m) ≡ kept_in s c
    swapping_kept c =
        let two : kept_in swapped_in c + room_in e c ≡ kept_in half_in c = with_kept ps k half_in e y half_stands onto n some_second c in
        let one : kept_in half_in c + room_in d c ≡ kept_in s c = half_kept c in
        let same : claimed_by_one c [] (Swap d x n e y m) ≡ room_in d c + room_in e c = swap_claims d x n e y m c in omega arith

-- what is known of the edit is so in what is stored
module _ (ps : Processes) (s : Numbers) (v : Committed) (is : committed_of ps s ≡ v) (d : ℕ) (x : Name) (n e : ℕ) (y : Name) (m : ℕ) where
  pub swap_fits : Fits [] v.state (Swap d x n e y m) → Fits [] (state_of ps s) (Swap d x n e y m)
  swap_fits = subst (λ (v : Committed). Fits [] v.state (Swap d x n e y m)) (sym is)

  pub swap_rooms : ((c : Claim) → claimed_by_one c [] (Swap d x n e y m) ≤ reserved v c) → (r : ℕ) → room_in d (Room r) + room_in e (Room r) ≤ kept_in s (Room r)
  swap_rooms covers r =
      let there : claimed_by_one (Room r) [] (Swap d x n e y m) ≤ reserved v (Room r) = covers (Room r) in
      let same : kept_in s (Room r) ≡ reserved v (Room r) = kept_of ps ps s v is (Room r) in
      let two : claimed_by_one (Room r) [] (Swap d x n e y m) ≡ room_in d (Room r) + room_in e (Room r) = swap_claims d x n e y m (Room r) in omega arith
