-- The steps of a commit, one after the other.
use Rattle.std.proofs.Common.{◌≡◌, ℕ, ◌+◌, List, sym, subst, subst₂}
use Rattle.model.specs.State.{Kernel}
use Rattle.model.specs.Changes.{tidy}
use Rattle.model.specs.Effects.{Effect, all_done}
use Rattle.fdtable.specs.Patches.{Given}
use Rattle.freeing_laws.specs.Sweep.{AllFit, all_closed, free_inodes}
use Rattle.std.specs.Map.{keys_of}
use Rattle.store.specs.Numbers.{Numbers}
use Rattle.shadow.specs.Agrees.{Agrees}
use Rattle.shadow.specs.Claims.{Claim, Covers, KeepsMore, claimed}
use Rattle.shadow.specs.Committed.{Committed}
use Rattle.shadow.specs.Laid.{AreReopened, AreReslotted, Frees, Holds, given_in, kept_in}
use Rattle.notes.specs.Patches.{Patches}
use Rattle.shadow.specs.Stored.{Processes, Sound, committed_of, state_of}
use Rattle.shadow.proofs.committing.TidiedState.{cleared}
use Rattle.shadow.proofs.committing.CommitStates.{AreCarried, CanCommit, HasAll, HasInodes}
use Rattle.shadow.proofs.shared.SoundnessLemmas.{less_of, state_is}
use Rattle.shadow.proofs.committing.InodesAfterChanges.{carried}
use Rattle.shadow.proofs.committing.UntidiedState.{finished}
use Rattle.shadow.proofs.committing.Readiness.{ready, same_where_new, to_come}

-- what is said of a committed state and of a shadow, said of what they keep
pub can_commit : {ps : Processes} {s : Numbers} {ds es : List Effect} {p q : Patches}
    {v : Committed} → Sound ps s → committed_of ps s ≡ v → Agrees es q → es ≡ ds → p ≡ q
    → AllFit ds v.state → Covers v ds → CanCommit ps s ds p
can_commit {ds = ds} sound view agrees effects patches fits covers = record {
  sound = sound;
  agrees = subst₂ Agrees effects (sym patches) agrees;
  fits = subst (λ (x : Committed). AllFit ds x.state) (sym view) fits;
  covers = subst (λ (x : Committed). Covers x ds) (sym view) covers;
}

module _ {ps : Processes} {s mid : Numbers} {ds : List Effect} {p : Patches}
    (can : CanCommit ps s ds p) (inodes : AreCarried s mid p) where
  pub has_inodes : HasInodes ps s mid ds p
  has_inodes =
      carried can (ready can)
      (λ d new.
      let same = same_where_new can d new in
      (to_come can d new, same.0, same.1)) inodes

  module _ {qs : Processes} {after last : Numbers} {noted former : List (ℕ × Given)}
      (openings : AreReopened p.openings mid after) (each : noted ≡ p.slots)
      (laid : AreReslotted noted former ps qs after last) where
    slots : AreReslotted p.slots former ps qs after last
    slots = subst (λ es. AreReslotted es former ps qs after last) each laid

    pub has_all : HasAll ps qs s last ds
    has_all = finished can has_inodes openings slots

    module _ {one : Numbers} {closed : List (ℕ × Given)} (all_of : closed ≡ former)
        (closes : (rs : Processes) → Holds rs last
        → Frees (all_closed (given_in closed)) rs last one) where
      first : (rs : Processes) → Holds rs last → Frees (all_closed (given_in former)) rs last one
      first = subst (λ es. (rs : Processes) → Holds rs last → Frees (all_closed (given_in es)) rs last one) all_of closes

      pub holds_first : Holds qs one
      holds_first = (first qs has_all.holds).holds

      module _ {two : Numbers} (second : (rs : Processes) → Holds rs one
          → Frees (all_closed (keys_of p.openings)) rs one two) where
        pub holds_second : Holds qs two
        holds_second = (second qs holds_first).holds

        module _ {three : Numbers} (third : (rs : Processes) → Holds rs two
            → Frees (free_inodes p.unnamed_inodes) rs two three) where
          all : Sound qs three × (state_of qs three ≡ tidy (all_done ds (state_of ps s)))
              × ((c : Claim) → kept_in three c + claimed c ds ≡ kept_in s c)
          all = cleared can has_inodes openings slots has_all (first qs has_all.holds)
              (second qs holds_first) (third qs holds_second)

          pub is_sound : Sound qs three
          is_sound = all.0

          pub has_state : {v : Committed} → committed_of ps s ≡ v
              → state_of qs three ≡ tidy (all_done ds v.state)
          has_state {v} view =
              state_is ps qs s v view (state_of qs three)
              (λ (k : Kernel). tidy (all_done ds k)) all.1

          pub has_kept : {v : Committed} → committed_of ps s ≡ v
              → KeepsMore (committed_of qs three) v (λ c. claimed c ds)
          has_kept {v} view = less_of ps qs s v view three (λ c. claimed c ds) all.2
