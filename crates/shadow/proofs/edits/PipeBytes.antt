-- Bytes pass through a pipe of the committed state.
use Rattle.std.proofs.Common.{◌≡◌, ℕ, ◌+◌, ◌-◌, ◌≤◌, false, List, [], ◌++◌, length, drop, Option, Some, None, refl, sym, ap, subst, ◌∙◌, arith}
use Rattle.std.specs.Option.{option_and_then}
use Rattle.std.proofs.lemmas.List.{append-nil}
use Rattle.ids.specs.declared.limits.TheConstants.{PIPE_CAPACITY}
use Rattle.model.specs.FiniteMap.{get, insert}
use Rattle.model.specs.State.{A_pipe, Kernel, Pipe, kind, mapped, pipe_of, pipe_of_inode}
use Rattle.model.specs.Changes.{Append, Edit, Take, applied, set_inode}
use Rattle.call_laws.specs.Fits.{Fits}
use Rattle.freeing_laws.specs.Sweep.{loses}
use Rattle.freeing_laws.proofs.Openings.{openings_change_lem}
use Rattle.store.specs.Numbers.{Numbers, held, if_held, object_at}
use Rattle.store.specs.Places.{IsRoomy, altered, changed_pipe, passed, pipe_of as stored_pipe, with_pipe}
use Rattle.store.specs.Shown.{descriptions, inode_of, inodes}
use Rattle.store.specs.declared.OpenPipe.{OpenPipe}
use Rattle.store.specs.declared.Stage.{Stage}
use Rattle.store.specs.declared.Stage.TheVariants.{Coming, Held, Removed}
use Rattle.store.specs.declared.Object.{Object}
use Rattle.store.specs.declared.Object.TheVariants.{Directory as Kept_directory, File as Kept_file, Pipe as Kept_pipe, Fixed as Kept_fixed, Description as Kept_description, Nothing}
use Rattle.store.proofs.Laws.{get-inodes, left-altered}
use Rattle.shadow.specs.Claims.{Claim, KeepsSame, New_directory, Number, Room}
use Rattle.shadow.specs.Committed.{Committed}
use Rattle.shadow.specs.Laid.{kept_in}
use Rattle.shadow.specs.Stored.{AreCounted, FitsStage, IsStaged, Processes, Sound, committed_of, state_of, stored}
use Rattle.shadow.proofs.shared.SoundnessLemmas.{Counts, counted_by, counts_of, counts_of_state, counts_stay, holders_seen, openings_seen, same_of, sound_after, state_is, tidy_after}
use Rattle.shadow.proofs.freeing.RemainingPlaces.{altered_staged, kept_alike, kept_by}
use Rattle.shadow.proofs.shared.PipePairLemmas.{ends_by_pipe, ends_seen, same_pairs}
use Rattle.shadow.proofs.shared.FixedKinds.{no_pipe}

-- a pipe of the state is one of the store
abbrev pub IsPipeThere : Option Object → Type 0
IsPipeThere o = (pipe : OpenPipe) × (o ≡ Some (Kept_pipe pipe))

pub pipe_there : (o : Option Object) → mapped kind (option_and_then inode_of o) ≡ Some A_pipe → IsPipeThere o
pipe_there None is = absurd cc
pipe_there (Some (Kept_directory l)) is = absurd cc
pipe_there (Some (Kept_file file)) is = absurd cc
pipe_there (Some (Kept_pipe pipe)) is = (pipe, refl)
pipe_there (Some (Kept_fixed fixed)) is = no_pipe fixed is
pipe_there (Some (Kept_description opened)) is = absurd cc
pipe_there (Some Nothing) is = absurd cc

-- what is taken is there, and what is appended fits
pub roomy : (s : Numbers) (n taken : ℕ) (appended : List ℕ) → mapped kind (get (inodes s) n) ≡ Some A_pipe → taken ≤ length (pipe_of_inode (get (inodes s) n))
    → length (pipe_of_inode (get (inodes s) n)) - taken + length appended ≤ PIPE_CAPACITY → IsRoomy taken appended (option_and_then stored_pipe (object_at s n))
roomy s n taken appended is low fits = subst (λ o. IsRoomy taken appended (option_and_then stored_pipe o)) (sym there.1) (
    let same : length (pipe_of_inode (get (inodes s) n)) ≡ length there.0.bytes = ap (λ o. length (pipe_of_inode o)) (get-inodes s n ∙ ap (option_and_then inode_of) there.1) in
    let first : taken ≤ length there.0.bytes = omega (arith, low, same) in
    let second : length there.0.bytes - taken + length appended ≤ PIPE_CAPACITY = omega (arith, fits, same) in
    (first, second))
  where
    there : IsPipeThere (object_at s n)
    there = pipe_there (object_at s n) (sym (ap (mapped kind) (get-inodes s n)) ∙ is)

-- a change of a pipe leaves what is kept, what is staged, and the counts
module _ (f : OpenPipe → OpenPipe) where
  claims : (c : Claim) (t : Stage) (object : Object) → kept_by c (Some (record { stage = t; object = changed_pipe f object })) ≡ kept_by c (Some (record { stage = t; object = object }))
  claims c t (Kept_directory l) = refl
  claims c t (Kept_file file) = refl
  claims (Room r) t (Kept_pipe pipe) = refl
  claims (New_directory m) t (Kept_pipe pipe) = refl
  claims (Number m) t (Kept_pipe pipe) = refl
  claims c t (Kept_fixed fixed) = refl
  claims c t (Kept_description opened) = refl
  claims c t Nothing = refl

  pub pipe_keeps : (s : Numbers) (n : ℕ) (c : Claim) → kept_in (altered (with_pipe f) s n) c ≡ kept_in s c
  pipe_keeps s n = kept_alike s (altered (with_pipe f) s n) (λ m c. left-altered (kept_by c) (with_pipe f) (λ place. claims c place.stage place.object) s n m)

  pipe_fits : (t : Stage) (object : Object) → FitsStage t object → FitsStage t (changed_pipe f object)
  pipe_fits t (Kept_directory l) fits = fits
  pipe_fits t (Kept_file file) fits = fits
  pipe_fits Coming (Kept_pipe pipe) fits = absurd fits
  pipe_fits Held (Kept_pipe pipe) fits = λ e. cc
  pipe_fits Removed (Kept_pipe pipe) fits = absurd cc
  pipe_fits t (Kept_fixed fixed) fits = fits
  pipe_fits t (Kept_description opened) fits = fits
  pipe_fits t Nothing fits = fits

  pub pipe_staged : (s : Numbers) (n : ℕ) → ((m : ℕ) → IsStaged (get s.places m)) → (m : ℕ) → IsStaged (get (altered (with_pipe f) s n).places m)
  pipe_staged = altered_staged (with_pipe f) (λ place. pipe_fits place.stage place.object)

  files : (t : Stage) (object : Object) → openings_seen (if_held t (changed_pipe f object)) ≡ openings_seen (if_held t object)
  files Coming object = refl
  files Removed object = refl
  files Held (Kept_directory l) = refl
  files Held (Kept_file file) = refl
  files Held (Kept_pipe pipe) = refl
  files Held (Kept_fixed fixed) = refl
  files Held (Kept_description opened) = refl
  files Held Nothing = refl

  held_by : (t : Stage) (object : Object) → holders_seen (if_held t (changed_pipe f object)) ≡ holders_seen (if_held t object)
  held_by Coming object = refl
  held_by Removed object = refl
  held_by Held (Kept_directory l) = refl
  held_by Held (Kept_file file) = refl
  held_by Held (Kept_pipe pipe) = refl
  held_by Held (Kept_fixed fixed) = refl
  held_by Held (Kept_description opened) = refl
  held_by Held Nothing = refl

-- bytes are taken and appended by an edit
module _ (ps : Processes) (s : Numbers) (n taken : ℕ) (appended : List ℕ) (v : Committed) (is : committed_of ps s ≡ v) (sound : Sound ps s) (e : Edit) (fit : Fits [] v.state e) (none_lost : loses e ≡ false)
    (makes : applied [] e (state_of ps s) ≡ set_inode n (Pipe (drop taken (pipe_of (state_of ps s) n) ++ appended)) (state_of ps s))
    (t : Numbers) (changed : t ≡ altered (with_pipe (passed taken appended)) s n)
    (shown : inodes t ≡ insert (inodes s) n (Pipe (drop taken (pipe_of_inode (get (inodes s) n)) ++ appended))) (same : descriptions t ≡ descriptions s) where
  abbrev k : Kernel
  k = state_of ps s

  fits : Fits [] (state_of ps s) e
  fits = subst (λ (v : Committed). Fits [] v.state e) (sym is) fit

  made : state_of ps t ≡ applied [] e k
  made =
      ap (λ m. stored ps m t.rights (descriptions t)) shown
      ∙ ap (λ r. stored ps (insert (inodes s) n (Pipe (drop taken (pipe_of_inode (get (inodes s) n)) ++ appended))) r (descriptions t)) (ap (λ (t : Numbers). t.rights) changed)
      ∙ ap (stored ps (insert (inodes s) n (Pipe (drop taken (pipe_of_inode (get (inodes s) n)) ++ appended))) s.rights) same ∙ sym makes

  counts : Counts k (altered (with_pipe (passed taken appended)) s n)
  counts = counts_stay k s (altered (with_pipe (passed taken appended)) s n)
      (λ m. left-altered (λ o. openings_seen (held o)) (with_pipe (passed taken appended)) (λ place. files (passed taken appended) place.stage place.object) s n m)
      (λ m. left-altered (λ o. holders_seen (held o)) (with_pipe (passed taken appended)) (λ place. held_by (passed taken appended) place.stage place.object) s n m)
      (λ m. left-altered (λ o. ends_seen (held o)) (with_pipe (passed taken appended)) (ends_by_pipe (passed taken appended) (λ pipe. refl)) s n m)
      (counts_of ps s sound.counted)

  counted : AreCounted ps t
  counted = counted_by ps t (counts_of_state k (state_of ps t) t
      (openings_change_lem.by_descriptions k (state_of ps t) same) (openings_change_lem.by_processes k (state_of ps t) refl)
      (same_pairs k (state_of ps t) same) (subst (Counts k) (sym changed) counts))

  pub passing_sound : Sound ps t
  passing_sound = sound_after ps ps s t [] e sound fits (made ∙ sym (tidy_after ps s [] e sound fits none_lost))
      (ap (λ (t : Numbers). t.root) changed) (subst (λ (t : Numbers). (m : ℕ) → IsStaged (get t.places m)) (sym changed) (pipe_staged (passed taken appended) s n sound.staged)) counted

  pub passing_state : state_of ps t ≡ applied [] e v.state
  passing_state = state_is ps ps s v is (state_of ps t) (applied [] e) made

  pub passing_kept : KeepsSame v (committed_of ps t)
  passing_kept = same_of ps ps s v is t (λ c. ap (λ (t : Numbers). kept_in t c) changed ∙ pipe_keeps (passed taken appended) s n c)

-- the two edits
pub taking : (k : Kernel) (n count : ℕ) → applied [] (Take n count) k ≡ set_inode n (Pipe (drop count (pipe_of k n) ++ [])) k
unfolding applied
taking k n count = ap (λ bytes. set_inode n (Pipe bytes) k) (sym (append-nil (drop count (pipe_of k n))))

pub appending : (k : Kernel) (n : ℕ) (bytes : List ℕ) → applied [] (Append n bytes) k ≡ set_inode n (Pipe (drop 0 (pipe_of k n) ++ bytes)) k
unfolding applied
appending k n bytes = refl
