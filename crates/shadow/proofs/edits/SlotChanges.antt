-- One slot of the committed state changes.
use Rattle.std.proofs.Common.{◌≡◌, ℕ, ◌<◌, ◌≤◌, ◌^◌, List, [], length, Option, Some, None}
use Rattle.std.proofs.Common.{refl, sym, ap, subst, ◌∙◌, inl, inr}
use Rattle.std.specs.Cmp.{nat_cmp_total}
use Rattle.std.proofs.lemmas.Bool.{cases_eq}
use Rattle.ids.specs.declared.limits.TheConstants.{DESCRIPTORS}
use Rattle.model.specs.FiniteMap.{get, insert, nat_cmp-IsAntisymmetric, same_map}
use Rattle.model.specs.State.{Kernel, Process}
use Rattle.model.specs.Changes.{Clear_slot, Share_slot, applied, or_new, process_of, set_process, tidy}
use Rattle.model.specs.Changes.{with_slot, without_slot}
use Rattle.model.proofs.Laws.{get_other, get_same}
use Rattle.call_laws.specs.Fits.{Fits, IsAlive}
use Rattle.freeing_laws.specs.Counts.{listed}
use Rattle.freeing_laws.specs.Sweep.{IsTidied, all_closed}
use Rattle.freeing_laws.proofs.Laws.{sweep_is_tidy_lem}
use Rattle.store.specs.Numbers.{Numbers}
use Rattle.store.specs.Shown.{descriptions, inodes}
use Rattle.shadow.specs.Claims.{Claim, New_directory, Number, Room, coming_directory, coming_other}
use Rattle.shadow.specs.Claims.{number_of, or_zero, room_of}
use Rattle.shadow.specs.Committed.{Committed, Reserve}
use Rattle.shadow.specs.Laid.{AreHeld, AreLow, Frees, Holds, IsOneLess, IsOneMore, IsSlotted, kept_in}
use Rattle.shadow.specs.Laid.{reserves_of, table_in}
use Rattle.notes.specs.Openings.{slot_noted}
use Rattle.notes.specs.Steps.{slotting}
use Rattle.shadow.specs.Stored.{Processes, Sound, committed_of, numbered, state_of, stored}
use Rattle.shadow.specs.Stored.{with_process}
use Rattle.shadow.proofs.shared.SoundnessLemmas.{state_is, tidied_of}
use Rattle.shadow.proofs.freeing.SoundAfterFreeing.{IsMade, freed_sound, freed_state, made_holds}
use Rattle.shadow.proofs.committing.SlotSteps.{slotted, well_low}

-- a process whose slot gives this from now on
abbrev pub noted : ℕ → Option ℕ → Process → Process
noted f (Some d) process = with_slot f d process
noted f None process = without_slot f process

pub noted_is : (f : ℕ) (given : Option ℕ) (o : Option Process)
    → slot_noted f given o ≡ Some (noted f given (or_new o))
noted_is f (Some d) o = refl
noted_is f None o = refl

-- a slot of the process at a place gives this from now on
pub slotted_by : (ps : Processes) (pid f : ℕ) (given former : Option ℕ) (now : Option Process)
    (s t u : Numbers) → 0 < pid → pid ≤ length ps.list → f < DESCRIPTORS → length ps.list < 2 ^ 64
    → former ≡ get (table_in (get (numbered ps) pid)) f
    → now ≡ slot_noted f given (get (numbered ps) pid)
    → AreHeld (IsOneMore given) s t → AreHeld (IsOneLess former) t u
    → IsSlotted pid f given ps (with_process pid now ps) s u
slotted_by ps pid f given former now s t u some low fits few was gives more less =
    let o : Option Process = get (numbered ps) pid in
    subst (λ (now : Option Process). IsSlotted pid f given ps (with_process pid now ps) s u)
    (sym (gives ∙ noted_is f given o))
    (slotted ps pid f given former (noted f given (or_new o)) s t u some low fits few was
    (sym (noted_is f given o)) more less)

-- in a well-formed state the descriptors are below the limit
pub sound_low : (ps : Processes) (s : Numbers) → Sound ps s → AreLow ps
sound_low ps s sound = well_low ps s sound.well

-- what is kept for a number, as claims can be met
abbrev pub met_by : Claim → Option Reserve → ℕ
met_by (Room d) r = or_zero (room_of r)
met_by (New_directory n) r = coming_directory r
met_by (Number n) r = coming_other r

pub kept_met : (s : Numbers) (c : Claim)
    → kept_in s c ≡ met_by c (get (reserves_of s) (number_of c))
kept_met s (Room d) = refl
kept_met s (New_directory n) = refl
kept_met s (Number n) = refl

module _ (ps qs : Processes) (s t : Numbers) (pid f : ℕ) (given : Option ℕ)
    (laid : IsSlotted pid f given ps qs s t) where
  abbrev k : Kernel
  k = state_of ps s

  processes_are : numbered qs ≡ insert (numbered ps) pid (noted f given (process_of k pid))
  processes_are = same_map nat_cmp_total nat_cmp-IsAntisymmetric _ _ (λ q. elim (cases_eq q pid) [
    | inl same ↦ ap (get (numbered qs)) same ∙ laid.here ∙ noted_is f given (get (numbered ps) pid)
        ∙ sym (get_same (numbered ps) pid (noted f given (process_of k pid)))
        ∙ sym (ap (get (insert (numbered ps) pid (noted f given (process_of k pid)))) same)
    | inr away ↦ laid.others q away
        ∙ sym (get_other (numbered ps) pid q (noted f given (process_of k pid)) away)
  ])

  pub slotted_state : state_of qs t
      ≡ set_process pid (noted f given (process_of (state_of ps s) pid)) (state_of ps s)
  slotted_state =
      ap (λ m. stored qs m t.rights (descriptions t)) laid.stay.same.inodes
      ∙ ap (λ r. stored qs (inodes s) r (descriptions t)) laid.stay.same.rights
      ∙ ap (stored qs (inodes s) s.rights) laid.stay.descriptions
      ∙ (λ i. record {
        root = 0;
        inodes = inodes s;
        rights = s.rights;
        descriptions = descriptions s;
        processes = processes_are i;
        made = laid.stay.count i;
        bounds = laid.stay.bounds i;
      })

  pub slotted_keeps : (c : Claim) → kept_in t c ≡ kept_in s c
  slotted_keeps c = kept_met t c ∙ ap (met_by c) (laid.stay.reserves (number_of c))
      ∙ sym (kept_met s c)

-- nothing more goes
pub frees_nothing : (ps : Processes) (s : Numbers) → Holds ps s → Frees (λ k. k) ps s s
frees_nothing ps s holds = record { state = refl; holds = holds; kept = λ c. refl }

-- a slot gives something else, or nothing
module _ (ps qs : Processes) (s t : Numbers) (pid f : ℕ) (pipes : List ℕ) (sound : Sound ps s)
  where
    gives : (given : Option ℕ) → applied [] (slotting given pid f pipes) (state_of ps s)
        ≡ set_process pid (noted f given (process_of (state_of ps s) pid)) (state_of ps s)
    unfolding applied
    gives (Some d) = refl
    gives None = refl

    pub slotting_made : (given : Option ℕ) → IsSlotted pid f given ps qs s t
        → IsMade ps qs s t [] (slotting given pid f pipes)
    slotting_made given laid = record {
      root = laid.stay.same.root;
      state = slotted_state ps qs s t pid f given laid ∙ sym (gives given);
      staged = laid.stay.same.staged sound.staged;
      counted = laid.stay.counted (sound_low ps s sound) sound.counted;
    }

-- what closing makes of the state in which a slot gives this
freed_slot : (given : Option ℕ) (k : Kernel) (pid f : ℕ) (pipes : List ℕ) → IsTidied k
    → Fits [] k (slotting given pid f pipes)
    → all_closed (listed (get (process_of k pid).table f)) (applied [] (slotting given pid f pipes) k)
    ≡ tidy (applied [] (slotting given pid f pipes) k)
freed_slot (Some d) k pid f pipes tidied fits =
    sweep_is_tidy_lem.in_turn [] k (Share_slot pid f d pipes) tidied fits
freed_slot None k pid f pipes tidied fits =
    sweep_is_tidy_lem.in_turn [] k (Clear_slot pid f pipes) tidied fits

pub slotting_alive : (given : Option ℕ) (k : Kernel) (pid f : ℕ) (pipes : List ℕ)
    → Fits [] k (slotting given pid f pipes) → IsAlive k pid
slotting_alive (Some d) k pid f pipes fits = fits.alive
slotting_alive None k pid f pipes fits = fits.alive

-- and what it gave goes where no other slot gives it
module _ (ps qs : Processes) (s t : Numbers) (pid f : ℕ) (given : Option ℕ) (pipes : List ℕ)
    (sound : Sound ps s) (laid : IsSlotted pid f given ps qs s t)
    (v : Committed) (is : committed_of ps s ≡ v) (fits : Fits [] v.state (slotting given pid f pipes))
    (former : Option ℕ) (gave : former ≡ get (table_in (get (numbered ps) pid)) f) where
  stored_fits : Fits [] (state_of ps s) (slotting given pid f pipes)
  stored_fits = subst (λ (v : Committed). Fits [] v.state (slotting given pid f pipes)) (sym is) fits

  pub slotted_holds : Holds qs t
  slotted_holds = made_holds ps qs s t [] (slotting given pid f pipes) sound stored_fits
      (slotting_made ps qs s t pid f pipes sound given laid)

  tidies : all_closed (listed former) (applied [] (slotting given pid f pipes) (state_of ps s))
      ≡ tidy (applied [] (slotting given pid f pipes) (state_of ps s))
  tidies = ap (λ o. all_closed (listed o) (applied [] (slotting given pid f pipes) (state_of ps s)))
      gave
      ∙ freed_slot given (state_of ps s) pid f pipes (tidied_of ps s sound) stored_fits

  module _ (now : Numbers) (freed : Frees (all_closed (listed former)) qs t now) where
    pub slotted_sound : Sound qs now
    slotted_sound = freed_sound ps qs s t [] (slotting given pid f pipes) sound stored_fits
        (slotting_made ps qs s t pid f pipes sound given laid) (all_closed (listed former)) tidies
        now freed

    pub slotted_tidy : state_of qs now ≡ tidy (applied [] (slotting given pid f pipes) v.state)
    slotted_tidy = state_is ps qs s v is (state_of qs now)
        (λ k. tidy (applied [] (slotting given pid f pipes) k))
        (freed_state ps qs s t [] (slotting given pid f pipes) sound stored_fits
        (slotting_made ps qs s t pid f pipes sound given laid) (all_closed (listed former)) tidies
        now freed)
