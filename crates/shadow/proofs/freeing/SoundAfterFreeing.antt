-- A well-formed state that is stored holds on the way, and what is freed then makes it sound again.
use Rattle.std.proofs.Common.{◌≡◌, ◌≢◌, ℕ, List, Some, None, sym, ap, subst, ◌∙◌}
use Rattle.model.specs.FiniteMap.{get}
use Rattle.model.specs.State.{Kernel, Kind, Name, kind, kind_of, mapped, names_of}
use Rattle.model.specs.Changes.{Edit, applied, openings, tidy}
use Rattle.call_laws.specs.WellFormed.{CanBeNamed, CanBeOpened, WellFormed}
use Rattle.call_laws.specs.Fits.{Fits}
use Rattle.call_laws.proofs.Laws.{unset, well_stays}
use Rattle.freeing_laws.proofs.Openings.{openings_change_lem}
use Rattle.store.specs.Numbers.{Numbers}
use Rattle.store.specs.Shown.{descriptions}
use Rattle.shadow.specs.Laid.{Frees, Holds}
use Rattle.shadow.specs.Stored.{AreCounted, IsStaged, Processes, Sound, state_of}
use Rattle.shadow.proofs.shared.SoundnessLemmas.{sound_after}
use Rattle.shadow.proofs.freeing.RemovedObjects.{one_kind}

module _ (ps : Processes) (s : Numbers) (root : s.root ≡ 0) (well : WellFormed (state_of ps s))
  where
    unnamed : (d n : ℕ) (x : Name) → get (descriptions s) d ≢ None
        → get (names_of (state_of ps s) n) x ≢ Some d
    unnamed d n x there gives =
        subst CanBeNamed (ap (mapped kind) (one_kind s d there)) (well.names n x d gives)

    unopened : (n : ℕ) (what : Kind) → kind_of (state_of ps s) n ≡ Some what
        → (CanBeOpened (Some what) → ⊥) → openings (state_of ps s) n ≡ 0
    unopened n what is never = openings_change_lem.unopened (state_of ps s) n
        (λ d it gives same. never (subst CanBeOpened (ap (kind_of (state_of ps s)) same ∙ is)
        (well.descriptions d it gives)))

    pub holds_well : ((n : ℕ) → IsStaged (get s.places n)) → AreCounted ps s → Holds ps s
    holds_well staged counted = record {
      root = root;
      parented = well.parents;
      set = λ n none. unset (state_of ps s) n well none;
      unnamed = unnamed;
      unopened = unopened;
      staged = staged;
      counted = counted;
    }

-- the store in which an edit is made
pub record IsMade (ps qs : Processes) (s mid : Numbers) (chosen : List ℕ) (e : Edit) : Type 0
  where
    pub root : mid.root ≡ s.root
    pub state : state_of qs mid ≡ applied chosen e (state_of ps s)
    pub staged : (n : ℕ) → IsStaged (get mid.places n)
    pub counted : AreCounted qs mid

module _ (ps qs : Processes) (s mid : Numbers) (chosen : List ℕ) (e : Edit) (sound : Sound ps s)
    (fits : Fits chosen (state_of ps s) e) (made : IsMade ps qs s mid chosen e) where
  pub made_holds : Holds qs mid
  made_holds = holds_well qs mid (made.root ∙ sound.root)
      (subst WellFormed (sym made.state) (well_stays chosen (state_of ps s) e sound.well fits))
      made.staged made.counted

  module _ (f : Kernel → Kernel)
      (tidies : f (applied chosen e (state_of ps s)) ≡ tidy (applied chosen e (state_of ps s)))
      (t : Numbers) (freed : Frees f qs mid t) where
    pub freed_state : state_of qs t ≡ tidy (applied chosen e (state_of ps s))
    freed_state = freed.state ∙ ap f made.state ∙ tidies

    pub freed_sound : Sound qs t
    freed_sound = sound_after ps qs s t chosen e sound fits freed_state
        (freed.holds.root ∙ sym sound.root) freed.holds.staged freed.holds.counted
