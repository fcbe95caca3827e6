-- The permissions and the owner of an inode are set in the committed state.
use Rattle.std.proofs.Common.{◌≡◌, ◌≢◌, ℕ, [], None, refl, sym, ap, subst, ◌∙◌}
use Rattle.model.specs.FiniteMap.{get}
use Rattle.model.specs.State.{Rights, kind, mapped}
use Rattle.model.specs.Changes.{Set_rights, applied}
use Rattle.call_laws.specs.Fits.{Fits}
use Rattle.freeing_laws.proofs.Openings.{openings_change_lem}
use Rattle.store.specs.Numbers.{Numbers}
use Rattle.store.specs.Shown.{inodes}
use Rattle.shadow.specs.Claims.{Claim, KeepsSame}
use Rattle.shadow.specs.Committed.{Committed}
use Rattle.shadow.specs.Laid.{kept_in}
use Rattle.shadow.specs.Stored.{AreCounted, IsStaged, Processes, Sound, committed_of, state_of}
use Rattle.shadow.proofs.shared.SoundnessLemmas.{Counts, counted_by, counts_of, counts_of_state}
use Rattle.shadow.proofs.shared.SoundnessLemmas.{counts_stay, same_of, sound_after, state_is, tidy_after}
use Rattle.shadow.proofs.freeing.RemainingPlaces.{kept_alike}
use Rattle.shadow.proofs.committing.RightsSteps.{with_rights}

module _ (ps : Processes) (s : Numbers) (n : ℕ) (rights : Rights) where
  abbrev now : Numbers
  now = with_rights s n rights

  made_now : state_of ps now ≡ applied [] (Set_rights n rights) (state_of ps s)
  unfolding applied
  made_now = refl

  counts : AreCounted ps s → Counts (state_of ps now) now
  counts counted = counts_of_state (state_of ps s) (state_of ps now) now
      (openings_change_lem.by_descriptions (state_of ps s) (state_of ps now) refl)
      (openings_change_lem.by_processes (state_of ps s) (state_of ps now) refl)
      (λ p r w pair. pair)
      (counts_stay (state_of ps s) s now (λ m. refl) (λ d. refl) (λ p. refl)
      (counts_of ps s counted))

  kept_now : (c : Claim) → kept_in now c ≡ kept_in s c
  kept_now = kept_alike s now (λ m c. refl)

  module _ (v : Committed) (is : committed_of ps s ≡ v) (fit : Fits [] v.state (Set_rights n rights))
    where
      fits : Fits [] (state_of ps s) (Set_rights n rights)
      fits = subst (λ (v : Committed). Fits [] v.state (Set_rights n rights)) (sym is) fit

      pub inode_there : get (inodes s) n ≢ None
      inode_there none = fits (ap (mapped kind) none)

      module _ (t : Numbers) (set : t ≡ now) where
        made : state_of ps t ≡ applied [] (Set_rights n rights) (state_of ps s)
        made = ap (λ (t : Numbers). state_of ps t) set ∙ made_now

        pub setting_sound : Sound ps s → Sound ps t
        setting_sound sound = sound_after ps ps s t [] (Set_rights n rights) sound fits
            (made ∙ sym (tidy_after ps s [] (Set_rights n rights) sound fits refl))
            (ap (λ (t : Numbers). t.root) set)
            (subst (λ (t : Numbers). (m : ℕ) → IsStaged (get t.places m)) (sym set) sound.staged)
            (subst (λ (t : Numbers). AreCounted ps t) (sym set)
            (counted_by ps now (counts sound.counted)))

        pub setting_state : state_of ps t ≡ applied [] (Set_rights n rights) v.state
        setting_state =
            state_is ps ps s v is (state_of ps t) (applied [] (Set_rights n rights)) made

        pub setting_kept : KeepsSame v (committed_of ps t)
        setting_kept = same_of ps ps s v is t
            (λ c. ap (λ (t : Numbers). kept_in t c) set ∙ kept_now c)
