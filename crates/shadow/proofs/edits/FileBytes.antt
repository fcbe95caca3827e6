-- A file whose bytes are changed where it stands, or outside the store and swapped in again.
use Rattle.std.proofs.Common.{◌≡◌, ℕ, List, [], length, replicate, Option, Some, None, Result, Ok, Err, OnOk, OnErr, refl, sym, ap, subst, ◌∙◌}
use Rattle.std.specs.Prelude.{IsSome}
use Rattle.std.specs.Option.{option_and_then, option_map}
use Rattle.model.specs.FiniteMap.{get, insert}
use Rattle.model.specs.State.{A_file, Inode, Kernel, Directory, File, Fixed, Pipe, kind, kind_of, mapped, file_of, file_of_inode}
use Rattle.model.specs.Changes.{Put_bytes, Cut, Wipe, applied, sized, written, set_inode, tidy}
use Rattle.model.proofs.Laws.{get_same}
use Rattle.call_laws.specs.Fits.{Fits}
use Rattle.freeing_laws.proofs.Openings.{openings_change_lem}
use Rattle.objects.specs.Pieces.{FileContent}
use Rattle.store.specs.Numbers.{Numbers, held, if_held, object_at}
use Rattle.store.specs.Places.{altered, changed_file, file_in, file_of as stored_file, with_bytes, with_file}
use Rattle.store.specs.Shown.{inodes, descriptions, inode_of}
use Rattle.store.specs.declared.OpenFile.{OpenFile}
use Rattle.store.specs.declared.Place.{Place}
use Rattle.store.specs.declared.Stage.{Stage}
use Rattle.store.specs.declared.Stage.TheVariants.{Coming, Held, Removed}
use Rattle.store.specs.declared.Object.{Object}
use Rattle.store.specs.declared.Object.TheVariants.{Directory as Kept_directory, File as Kept_file, Pipe as Kept_pipe, Fixed as Kept_fixed, Description as Kept_description, Nothing}
use Rattle.store.proofs.Laws.{altered-alike, altered-twice, descriptions-filed, get-inodes, inodes-swapped, insert-held, left-altered}
use Rattle.shadow.specs.Stored.{AreCounted, Processes, Sound, state_of, stored}
use Rattle.shadow.proofs.freeing.RemainingPlaces.{file_staged}
use Rattle.shadow.proofs.shared.PipePairLemmas.{ends_left, pipe_by_file, same_pairs}
use Rattle.shadow.proofs.shared.SoundnessLemmas.{Counts, counted_by, counts_of, counts_of_state, counts_stay, holders_seen, openings_seen, sound_after, tidy_after}
use Rattle.shadow.proofs.shared.FixedKinds.{no_file}

-- what is a file in the state is one in the store
pub file_there : (s : Numbers) (n : ℕ) → mapped kind (get (inodes s) n) ≡ Some A_file → IsSome (option_and_then stored_file (object_at s n))
file_there s n is = by_object (object_at s n) (sym (ap (mapped kind) (get-inodes s n)) ∙ is)
  where
    by_object : (o : Option Object) → mapped kind (option_and_then inode_of o) ≡ Some A_file → IsSome (option_and_then stored_file o)
    by_object None is = absurd cc
    by_object (Some (Kept_directory l)) is = absurd cc
    by_object (Some (Kept_file file)) is = refl
    by_object (Some (Kept_pipe pipe)) is = absurd cc
    by_object (Some (Kept_fixed fixed)) is = no_file fixed is
    by_object (Some (Kept_description opened)) is = absurd cc
    by_object (Some Nothing) is = absurd cc

-- and what is there of it is its bytes
pub file_is : (o : Option Inode) → mapped kind o ≡ Some A_file → o ≡ Some (File (file_of_inode o))
file_is None is = absurd cc
file_is (Some (Directory names)) is = absurd cc
file_is (Some (File bytes)) is = refl
file_is (Some (Pipe bytes)) is = absurd cc
file_is (Some (Fixed fixed)) is = no_file fixed is

-- after the first swap it is one still
pub file_still : (s t : Numbers) (n : ℕ) (bytes : List ℕ) → inodes t ≡ insert (inodes s) n (File bytes) → IsSome (option_and_then stored_file (object_at t n))
file_still s t n bytes is = file_there t n (ap (λ m. mapped kind (get m n)) is ∙ ap (mapped kind) (get_same (inodes s) n (File bytes)))

-- its bytes are those that were answered
pub former_is : (s : Numbers) (n : ℕ) (content : FileContent) → IsSome (option_and_then stored_file (object_at s n)) → option_map (λ f. f.bytes) (file_in (get s.places n)) ≡ Some content
    → get (inodes s) n ≡ Some (File content.bytes)
former_is s n content there former = get-inodes s n ∙ by_place (get s.places n) there former
  where
    by_stage : (t : Stage) (object : Object) → IsSome (option_and_then stored_file (if_held t object)) → option_map (λ (f : OpenFile). f.bytes) (stored_file object) ≡ Some content
        → option_and_then inode_of (if_held t object) ≡ Some (File content.bytes)
    by_stage Coming object there former = absurd cc
    by_stage Removed object there former = absurd cc
    by_stage Held (Kept_directory l) there former = absurd cc
    by_stage Held (Kept_file file) there former = ap (mapped (λ (b : FileContent). File b.bytes)) former
    by_stage Held (Kept_pipe pipe) there former = absurd cc
    by_stage Held (Kept_fixed fixed) there former = absurd cc
    by_stage Held (Kept_description opened) there former = absurd cc
    by_stage Held Nothing there former = absurd cc

    by_place : (o : Option Place) → IsSome (option_and_then stored_file (held o)) → option_map (λ (f : OpenFile). f.bytes) (file_in o) ≡ Some content
        → option_and_then inode_of (held o) ≡ Some (File content.bytes)
    by_place None there former = absurd cc
    by_place (Some place) there former = by_stage place.stage place.object there former

-- the store with these bytes in place of the file's
abbrev pub swapped : FileContent → Numbers → ℕ → Numbers
swapped content s n = altered (with_file (with_bytes content)) s n

-- what is swapped twice is swapped once
pub swapped_twice : (a b : FileContent) (s t u : Numbers) (n : ℕ) → t ≡ swapped a s n → u ≡ swapped b t n → u ≡ swapped b s n
swapped_twice a b s t u n one two =
    two ∙ ap (λ t. swapped b t n) one ∙ altered-twice (with_file (with_bytes b)) (with_file (with_bytes a)) s n
    ∙ altered-alike (λ place. with_file (with_bytes b) (with_file (with_bytes a) place)) (with_file (with_bytes b)) s n (λ place. ap (λ (o : Object). record place { object = o }) (by_object place.object))
  where
    by_object : (o : Object) → changed_file (with_bytes b) (changed_file (with_bytes a) o) ≡ changed_file (with_bytes b) o
    by_object (Kept_directory l) = refl
    by_object (Kept_file file) = refl
    by_object (Kept_pipe pipe) = refl
    by_object (Kept_fixed fixed) = refl
    by_object (Kept_description opened) = refl
    by_object Nothing = refl

module _ (ps : Processes) (s : Numbers) (n : ℕ) (b : FileContent) (sound : Sound ps s) (file : kind_of (state_of ps s) n ≡ Some A_file) where
  abbrev k : Kernel
  k = state_of ps s

  there : IsSome (option_and_then stored_file (object_at s n))
  there = file_there s n file

  -- the state with other bytes
  pub swapped_state : state_of ps (swapped b s n) ≡ set_inode n (File b.bytes) k
  swapped_state = ap (λ m. stored ps m s.rights (descriptions (swapped b s n))) (inodes-swapped b s n there) ∙ ap (stored ps (insert (inodes s) n (File b.bytes)) s.rights) (descriptions-filed (with_bytes b) s n)

  pub swapped_counted : AreCounted ps (swapped b s n)
  swapped_counted = counted_by ps (swapped b s n) (subst (λ (l : Kernel). Counts l (swapped b s n)) (sym swapped_state)
      (counts_of_state k (set_inode n (File b.bytes) k) (swapped b s n) (openings_change_lem.by_descriptions k (set_inode n (File b.bytes) k) refl) (openings_change_lem.by_processes k (set_inode n (File b.bytes) k) refl) (same_pairs k (set_inode n (File b.bytes) k) refl)
      (counts_stay k s (swapped b s n) (λ m. left-altered (λ o. openings_seen (held o)) (with_file (with_bytes b)) (λ place. files place.stage place.object) s n m)
      (λ m. left-altered (λ o. holders_seen (held o)) (with_file (with_bytes b)) (λ place. held_by place.stage place.object) s n m) (ends_left (with_file (with_bytes b)) (pipe_by_file (with_bytes b)) s n) (counts_of ps s sound.counted))))
    where
      files : (t : Stage) (object : Object) → openings_seen (if_held t (changed_file (with_bytes b) object)) ≡ openings_seen (if_held t object)
      files Coming object = refl
      files Removed object = refl
      files Held (Kept_directory l) = refl
      files Held (Kept_file file) = refl
      files Held (Kept_pipe pipe) = refl
      files Held (Kept_fixed fixed) = refl
      files Held (Kept_description opened) = refl
      files Held Nothing = refl

      held_by : (t : Stage) (object : Object) → holders_seen (if_held t (changed_file (with_bytes b) object)) ≡ holders_seen (if_held t object)
      held_by Coming object = refl
      held_by Removed object = refl
      held_by Held (Kept_directory l) = refl
      held_by Held (Kept_file file) = refl
      held_by Held (Kept_pipe pipe) = refl
      held_by Held (Kept_fixed fixed) = refl
      held_by Held (Kept_description opened) = refl
      held_by Held Nothing = refl

  -- the same bytes
  pub unswapped_state : get (inodes s) n ≡ Some (File b.bytes) → state_of ps (swapped b s n) ≡ k
  unswapped_state same = swapped_state ∙ ap (λ m. stored ps m s.rights (descriptions s)) (insert-held (inodes s) n (File b.bytes) same)

  pub unswapped_sound : get (inodes s) n ≡ Some (File b.bytes) → Sound ps (swapped b s n)
  unswapped_sound same = record {
    root = sound.root;
    well = subst Rattle.call_laws.specs.WellFormed.WellFormed (sym (unswapped_state same)) sound.well;
    tidied = subst (λ (l : Kernel). tidy l ≡ l) (sym (unswapped_state same)) sound.tidied;
    staged = file_staged (with_bytes b) s n sound.staged;
    counted = swapped_counted;
  }

  -- a file that is written, and one that is cut
  pub written_state : (place : ℕ) (bytes : List ℕ) (before : ℕ) → b.bytes ≡ written (file_of k n) place bytes → state_of ps (swapped b s n) ≡ applied [] (Put_bytes n place bytes before) k
  unfolding applied
  written_state place bytes before is = swapped_state ∙ ap (λ bs. set_inode n (File bs) k) is

  pub wiped_state : (place count : ℕ) → b.bytes ≡ written (file_of k n) place (replicate count 0) → state_of ps (swapped b s n) ≡ applied [] (Wipe n place count) k
  unfolding applied
  wiped_state place count is = swapped_state ∙ ap (λ bs. set_inode n (File bs) k) is

  pub cut_state : (before after : ℕ) → b.bytes ≡ sized after (file_of k n) → state_of ps (swapped b s n) ≡ applied [] (Cut n before after) k
  unfolding applied
  cut_state before after is = swapped_state ∙ ap (λ bs. set_inode n (File bs) k) is

  pub written_sound : (place : ℕ) (bytes : List ℕ) → b.bytes ≡ written (file_of k n) place bytes → Sound ps (swapped b s n)
  written_sound place bytes is =
      let fits : Fits [] k (Put_bytes n place bytes (length (file_of k n))) = (file, refl) in
      sound_after ps ps s (swapped b s n) [] (Put_bytes n place bytes (length (file_of k n))) sound fits
      (written_state place bytes (length (file_of k n)) is ∙ sym (tidy_after ps s [] (Put_bytes n place bytes (length (file_of k n))) sound fits refl)) refl (file_staged (with_bytes b) s n sound.staged) swapped_counted

  -- a write of zeros is sound, wherever they end, and so is the state with them
  pub wiped_sound : (place count : ℕ) → b.bytes ≡ written (file_of k n) place (replicate count 0) → Sound ps (swapped b s n)
  wiped_sound place count is = written_sound place (replicate count 0) is

  pub cut_sound : (after : ℕ) → b.bytes ≡ sized after (file_of k n) → Sound ps (swapped b s n)
  cut_sound after is =
      let fits : Fits [] k (Cut n (length (file_of k n)) after) = (file, refl) in
      sound_after ps ps s (swapped b s n) [] (Cut n (length (file_of k n)) after) sound fits
      (cut_state (length (file_of k n)) after is ∙ sym (tidy_after ps s [] (Cut n (length (file_of k n)) after) sound fits refl)) refl (file_staged (with_bytes b) s n sound.staged) swapped_counted

-- whether memory was refused or not
pub either_way : {A E P Q C : Type 0} (r : Result A E) → OnOk r P → OnErr r Q → (P → C) → (Q → C) → C
either_way (Ok x) h g f e = f h
either_way (Err x) h g f e = e g
