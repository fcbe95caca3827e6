-- The offset of a description changes in the committed state.
use Rattle.std.proofs.Common.{◌≡◌, ℕ, ◌+◌, List, refl, sym, ap, subst, ◌∙◌, arith}
use Rattle.model.specs.FiniteMap.{get}
use Rattle.model.specs.Changes.{Set_offset, applied, set_offset, tidy}
use Rattle.call_laws.specs.Fits.{Fits}
use Rattle.store.specs.Numbers.{Numbers}
use Rattle.store.specs.Places.{altered, moved_to, with_opened}
use Rattle.store.specs.Shown.{descriptions}
use Rattle.shadow.specs.Claims.{Claim, New_directory, Number, Room, claimed_by_one, number_of}
use Rattle.shadow.specs.Committed.{Committed}
use Rattle.shadow.specs.Laid.{Frees, kept_in}
use Rattle.shadow.specs.Stored.{Processes, Sound, committed_of, state_of}
use Rattle.shadow.proofs.shared.SoundnessLemmas.{state_is, tidy_after}
use Rattle.shadow.proofs.freeing.SoundAfterFreeing.{IsMade, freed_sound, freed_state, made_holds}
use Rattle.shadow.proofs.freeing.RemainingPlaces.{opened_staged}
use Rattle.shadow.proofs.committing.MovedDescription.{offset_counted, offset_reserves, offset_state}
use Rattle.shadow.proofs.edits.SlotChanges.{frees_nothing, kept_met, met_by}

claims_none : (c : Claim) (chosen : List ℕ) (d place : ℕ)
    → claimed_by_one c chosen (Set_offset d place) ≡ 0
claims_none (Room r) chosen d place = refl
claims_none (New_directory m) chosen d place = refl
claims_none (Number m) chosen d place = refl

module _ (ps : Processes) (s : Numbers) (v : Committed) (is : committed_of ps s ≡ v)
    (chosen : List ℕ) (d place : ℕ) (sound : Sound ps s)
    (fits : Fits chosen v.state (Set_offset d place)) (t : Numbers)
    (moved : t ≡ altered (with_opened (moved_to place)) s d) where
  stored_fits : Fits chosen (state_of ps s) (Set_offset d place)
  stored_fits = subst (λ (v : Committed). Fits chosen v.state (Set_offset d place)) (sym is) fits

  moves : applied chosen (Set_offset d place) (state_of ps s)
      ≡ set_offset d place (get (descriptions s) d) (state_of ps s)
  unfolding applied
  moves = refl

  made : IsMade ps ps s t chosen (Set_offset d place)
  made = subst (λ (t : Numbers). IsMade ps ps s t chosen (Set_offset d place)) (sym moved) (record {
    root = refl;
    state = offset_state ps s d place ∙ sym moves;
    staged = opened_staged (moved_to place) s d sound.staged;
    counted = offset_counted ps s d place sound.counted;
  })

  freed : Frees (λ k. k) ps t t
  freed = frees_nothing ps t
      (made_holds ps ps s t chosen (Set_offset d place) sound stored_fits made)

  tidies : applied chosen (Set_offset d place) (state_of ps s)
      ≡ tidy (applied chosen (Set_offset d place) (state_of ps s))
  tidies = sym (tidy_after ps s chosen (Set_offset d place) sound stored_fits refl)

  pub moving_sound : Sound ps t
  moving_sound = freed_sound ps ps s t chosen (Set_offset d place) sound stored_fits made (λ k. k)
      tidies t freed

  pub moving_state : state_of ps t ≡ tidy (applied chosen (Set_offset d place) v.state)
  moving_state = state_is ps ps s v is (state_of ps t)
      (λ k. tidy (applied chosen (Set_offset d place) k))
      (freed_state ps ps s t chosen (Set_offset d place) sound stored_fits made (λ k. k) tidies t
      freed)

  pub moving_kept : (c : Claim)
      → kept_in t c + claimed_by_one c chosen (Set_offset d place) ≡ kept_in s c
  moving_kept c =
      let same : kept_in t c ≡ kept_in s c = ap (λ (t : Numbers). kept_in t c) moved
      ∙ kept_met (altered (with_opened (moved_to place)) s d) c
      ∙ ap (met_by c) (offset_reserves s d place (number_of c)) ∙ sym (kept_met s c) in
      let none : claimed_by_one c chosen (Set_offset d place) ≡ 0 = claims_none c chosen d place in
      omega arith
