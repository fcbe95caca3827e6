-- A name goes in the store.
use Rattle.std.proofs.Common.{◌≡◌, ℕ, [], Some, refl, sym, ◌∙◌}
use Rattle.model.specs.State.{Kernel, Name}
use Rattle.model.specs.Changes.{Unname_directory, Unname_file, applied, clear_name, tidy}
use Rattle.call_laws.specs.Fits.{Fits}
use Rattle.freeing_laws.specs.Counts.{free_inode}
use Rattle.freeing_laws.proofs.Laws.{sweep_is_tidy_lem}
use Rattle.store.specs.Numbers.{Numbers}
use Rattle.store.specs.Places.{altered, changed_object, with_listing, without_name}
use Rattle.store.specs.declared.Stage.{Stage}
use Rattle.store.specs.declared.Object.{Object}
use Rattle.store.specs.declared.Object.TheVariants.{Directory as Kept_directory, File as Kept_file, Pipe as Kept_pipe, Fixed as Kept_fixed}
use Rattle.store.specs.declared.Object.TheVariants.{Description as Kept_description, Nothing}
use Rattle.store.proofs.Laws.{left-altered}
use Rattle.notes.specs.declared.change.Made.{Made as What}
use Rattle.notes.specs.declared.change.Made.TheVariants.{Directory as A_directory, File as A_file, Pipe as A_pipe, Fixed as A_fixed}
use Rattle.shadow.specs.Claims.{Claim, New_directory, Number, Room}
use Rattle.shadow.specs.Laid.{kept_in}
use Rattle.notes.specs.Steps.{unnaming}
use Rattle.shadow.specs.Stored.{Processes, Sound, state_of}
use Rattle.shadow.proofs.shared.SoundnessLemmas.{tidied_of}
use Rattle.shadow.proofs.freeing.SoundAfterFreeing.{IsMade}
use Rattle.shadow.proofs.freeing.RemainingPlaces.{kept_alike, kept_by}
use Rattle.shadow.proofs.edits.DirectoryNames.{sound_stands, stands_counted, without_stands, without_state}

-- a name that goes leaves what is kept
unnamed_claims : (x : Name) (c : Claim) (t : Stage) (object : Object)
    → kept_by c (Some (record { stage = t; object = changed_object (without_name x) object }))
    ≡ kept_by c (Some (record { stage = t; object = object }))
unnamed_claims x (Room r) t (Kept_directory l) = refl
unnamed_claims x (New_directory m) t (Kept_directory l) = refl
unnamed_claims x (Number m) t (Kept_directory l) = refl
unnamed_claims x c t (Kept_file file) = refl
unnamed_claims x c t (Kept_pipe pipe) = refl
unnamed_claims x c t (Kept_fixed fixed) = refl
unnamed_claims x c t (Kept_description opened) = refl
unnamed_claims x c t Nothing = refl

pub unnamed_keeps : (x : Name) (s : Numbers) (d : ℕ) (c : Claim)
    → kept_in (altered (with_listing (without_name x)) s d) c ≡ kept_in s c
unnamed_keeps x s d = kept_alike s (altered (with_listing (without_name x)) s d)
    (λ m c. left-altered (kept_by c) (with_listing (without_name x))
    (λ place. unnamed_claims x c place.stage place.object) s d m)

module _ (ps : Processes) (s : Numbers) (d : ℕ) (x : Name) (n : ℕ) (sound : Sound ps s) where
  abbrev k : Kernel
  k = state_of ps s

  abbrev mid : Numbers
  mid = altered (with_listing (without_name x)) s d

  clears_directory : applied [] (Unname_directory d x n) k ≡ clear_name d x k
  unfolding applied
  clears_directory = refl

  clears_file : applied [] (Unname_file d x n) k ≡ clear_name d x k
  unfolding applied
  clears_file = refl

  unnaming_file : Fits [] k (Unname_file d x n) → IsMade ps ps s mid [] (Unname_file d x n)
  unnaming_file fits =
      let parent = fits.parent.directory in
      let stands = without_stands ps k s d x (sound_stands ps s sound) parent in
      let state = without_state ps k s d x (sound_stands ps s sound) parent in
      record {
        root = refl;
        state = state ∙ sym clears_file;
        staged = stands.staged;
        counted = stands_counted ps k (clear_name d x k) mid state refl refl stands;
      }

  pub unnaming_made : (what : What) → Fits [] k (unnaming what d x n)
      → IsMade ps ps s mid [] (unnaming what d x n)
  unnaming_made A_directory fits =
      let parent = fits.0.parent.directory in
      let stands = without_stands ps k s d x (sound_stands ps s sound) parent in
      let state = without_state ps k s d x (sound_stands ps s sound) parent in
      record {
        root = refl;
        state = state ∙ sym clears_directory;
        staged = stands.staged;
        counted = stands_counted ps k (clear_name d x k) mid state refl refl stands;
      }
  unnaming_made A_file fits = unnaming_file fits
  unnaming_made A_pipe fits = unnaming_file fits
  unnaming_made A_fixed fits = unnaming_file fits

  pub unnaming_tidies : (what : What) → Fits [] k (unnaming what d x n)
      → free_inode n (applied [] (unnaming what d x n) k)
      ≡ tidy (applied [] (unnaming what d x n) k)
  unnaming_tidies A_directory fits =
      sweep_is_tidy_lem.one [] k (Unname_directory d x n) (tidied_of ps s sound) fits
  unnaming_tidies A_file fits =
      sweep_is_tidy_lem.one [] k (Unname_file d x n) (tidied_of ps s sound) fits
  unnaming_tidies A_pipe fits =
      sweep_is_tidy_lem.one [] k (Unname_file d x n) (tidied_of ps s sound) fits
  unnaming_tidies A_fixed fits =
      sweep_is_tidy_lem.one [] k (Unname_file d x n) (tidied_of ps s sound) fits
