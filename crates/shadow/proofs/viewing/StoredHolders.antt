-- The holders of a description, by their stored count.
use Rattle.std.proofs.Common.{◌≡◌, ℕ, Option, Some, None, refl, sym, ap, ◌∙◌}
use Rattle.std.specs.Option.{option_and_then}
use Rattle.std.specs.Prelude.{false, true}
use Rattle.model.specs.FiniteMap.{get}
use Rattle.model.specs.Changes.{holders}
use Rattle.freeing_laws.proofs.Openings.{openings_change_lem}
use Rattle.store.specs.Numbers.{Numbers, held, object_at}
use Rattle.store.specs.Places.{holders_at, holders_of, opened_in, opened_of}
use Rattle.store.specs.Shown.{description_of, descriptions}
use Rattle.store.specs.declared.Place.{Place}
use Rattle.store.specs.declared.Stage.{Stage}
use Rattle.store.specs.declared.Stage.TheVariants.{Coming, Held, Removed}
use Rattle.store.specs.declared.Object.{Object}
use Rattle.store.specs.declared.Object.TheVariants.{Directory as Kept_directory, File as Kept_file, Pipe as Kept_pipe, Fixed as Kept_fixed, Description as Kept_description, Nothing}
use Rattle.store.proofs.Laws.{get-descriptions}
use Rattle.shadow.specs.Stored.{FitsStage, IsStaged, Processes, Sound, state_of}

module _ (ps : Processes) (s : Numbers) (sound : Sound ps s) (d : ℕ) where
  -- what is no description has no holders
  none_held : get (descriptions s) d ≡ None → holders (state_of ps s) d ≡ 0
  none_held none = openings_change_lem.unheld (state_of ps s) d (λ pid f gives.
      let there = sound.well.slots pid f d gives in
      absurd (let no : None ≡ Some there.0 = sym none ∙ there.1 in cc))

  by_object : (object : Object) → object_at s d ≡ Some object → holders_of (opened_of object) ≡ holders (state_of ps s) d
  by_object (Kept_description opened) is = sound.counted.holders d opened is
  by_object (Kept_directory listing) is = sym (none_held (get-descriptions s d ∙ ap (option_and_then description_of) is))
  by_object (Kept_file file) is = sym (none_held (get-descriptions s d ∙ ap (option_and_then description_of) is))
  by_object (Kept_pipe pipe) is = sym (none_held (get-descriptions s d ∙ ap (option_and_then description_of) is))
  by_object (Kept_fixed fixed) is = sym (none_held (get-descriptions s d ∙ ap (option_and_then description_of) is))
  by_object Nothing is = sym (none_held (get-descriptions s d ∙ ap (option_and_then description_of) is))

  -- nor has what is not shown
  not_coming : (object : Object) → FitsStage Coming object → holders_of (opened_of object) ≡ 0
  not_coming (Kept_directory listing) fits = refl
  not_coming (Kept_file file) fits = absurd fits
  not_coming (Kept_pipe pipe) fits = absurd fits
  not_coming (Kept_fixed fixed) fits = absurd fits
  not_coming (Kept_description opened) fits = absurd fits
  not_coming Nothing fits = refl

  not_lost : (object : Object) → FitsStage Removed object → holders_of (opened_of object) ≡ 0
  not_lost (Kept_directory listing) fits = refl
  not_lost (Kept_file file) fits = refl
  not_lost (Kept_pipe pipe) fits = refl
  not_lost (Kept_fixed fixed) fits = refl
  not_lost (Kept_description opened) fits = absurd (let no : false ≡ true = fits in cc)
  not_lost Nothing fits = refl

  by_stage : (t : Stage) (object : Object) → get s.places d ≡ Some (record { stage = t; object = object }) → FitsStage t object → holders_of (opened_of object) ≡ holders (state_of ps s) d
  by_stage Held object is fits = by_object object (ap held is)
  by_stage Coming object is fits = not_coming object fits ∙ sym (none_held (get-descriptions s d ∙ ap (λ o. option_and_then description_of (held o)) is))
  by_stage Removed object is fits = not_lost object fits ∙ sym (none_held (get-descriptions s d ∙ ap (λ o. option_and_then description_of (held o)) is))

  by_place : (o : Option Place) → get s.places d ≡ o → IsStaged o → holders_of (opened_in o) ≡ holders (state_of ps s) d
  by_place None is staged = sym (none_held (get-descriptions s d ∙ ap (λ o. option_and_then description_of (held o)) is))
  by_place (Some place) is staged = by_stage place.stage place.object is staged

  -- the stored count is that of the state
  pub stored_holders : holders_at s d ≡ holders (state_of ps s) d
  stored_holders = by_place (get s.places d) refl (sound.staged d)
