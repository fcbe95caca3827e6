-- A process ends: its place is empty, its slots are counted no more, and what they gave is closed.
use Rattle.std.proofs.Common.{◌≡◌, ◌≢◌, ℕ, ◌+◌, ◌-◌, List, [], length, None}
use Rattle.std.proofs.Common.{sym, ap, ◌∙◌, arith, inl, inr}
use Rattle.std.specs.Cmp.{nat_cmp_total}
use Rattle.std.proofs.lemmas.Bool.{cases_eq}
use Rattle.model.specs.FiniteMap.{get, nat_cmp-IsAntisymmetric, remove, same_map, values}
use Rattle.model.specs.State.{Kernel}
use Rattle.model.specs.Changes.{End_process, applied, holders, or_new, tidy}
use Rattle.model.proofs.Laws.{removed_other, removed_same}
use Rattle.call_laws.specs.Fits.{Fits}
use Rattle.freeing_laws.specs.Counts.{times}
use Rattle.freeing_laws.specs.Sweep.{all_closed}
use Rattle.freeing_laws.proofs.Laws.{sweep_is_tidy_lem}
use Rattle.freeing_laws.proofs.Openings.{openings_change_lem}
use Rattle.store.specs.Numbers.{Numbers}
use Rattle.store.specs.Shown.{descriptions, inodes}
use Rattle.store.specs.declared.Opened.{Opened}
use Rattle.shadow.specs.Claims.{Claim, number_of}
use Rattle.shadow.specs.Laid.{AreHeld, Frees, Holds, IsLessOf, WasHeld, kept_in, table_in}
use Rattle.shadow.specs.Stored.{AreCounted, Processes, Sound, numbered, state_of, stored}
use Rattle.shadow.specs.Stored.{with_process}
use Rattle.shadow.proofs.shared.SoundnessLemmas.{tidied_of}
use Rattle.shadow.proofs.shared.PipePairLemmas.{same_pairs}
use Rattle.shadow.proofs.freeing.SoundAfterFreeing.{IsMade, freed_sound, freed_state, made_holds}
use Rattle.shadow.proofs.shared.ProcessLemmas.{IsProcess, is_process}
use Rattle.shadow.proofs.edits.EmptyProcesses.{holders_without}
use Rattle.shadow.proofs.edits.Fork.{is_there}
use Rattle.shadow.proofs.edits.SlotChanges.{kept_met, met_by}
use Rattle.shadow.proofs.committing.SlotSteps.{numbered_here, numbered_others, same_count}

-- counts of holders keep what is kept
pub held_keep : {R : ℕ → ℕ → ℕ → Type 0} (s t : Numbers) → AreHeld R s t → (c : Claim)
    → kept_in t c ≡ kept_in s c
held_keep s t held c =
    kept_met t c ∙ ap (met_by c) (held.reserves (number_of c)) ∙ sym (kept_met s c)

-- what a process has open
abbrev pub gave : Processes → ℕ → List ℕ
gave ps pid = values (table_in (get (numbered ps) pid))

-- the place is left empty
abbrev pub left : Processes → ℕ → Processes
left ps pid = with_process pid None ps

module _ (ps : Processes) (s t : Numbers) (pid : ℕ) (pipes : List ℕ) (sound : Sound ps s)
    (fits : Fits [] (state_of ps s) (End_process pid pipes))
    (held : AreHeld (IsLessOf (gave ps pid)) s t) where
  abbrev k : Kernel
  k = state_of ps s

  abbrev ended : Kernel
  ended = applied [] (End_process pid pipes) k

  place : IsProcess ps pid
  place = is_process ps pid fits.alive

  left_here : get (numbered (left ps pid)) pid ≡ None
  left_here = numbered_here ps pid None place.some place.low

  left_others : (q : ℕ) → q ≢ pid → get (numbered (left ps pid)) q ≡ get (numbered ps) q
  left_others = numbered_others ps pid None place.some place.low

  left_processes : numbered (left ps pid) ≡ remove (numbered ps) pid
  left_processes = same_map nat_cmp_total nat_cmp-IsAntisymmetric _ _ (λ q. elim (cases_eq q pid) [
    | inl same ↦ ap (get (numbered (left ps pid))) same ∙ left_here
        ∙ sym (ap (get (remove (numbered ps) pid)) same ∙ removed_same (numbered ps) pid)
    | inr away ↦ left_others q away ∙ sym (removed_other (numbered ps) pid q away)
  ])

  left_count : length (left ps pid).list ≡ length ps.list
  left_count = same_count ps pid None place.some place.low

  -- whatever is said of pipes
  left_state : (said : List ℕ) → state_of (left ps pid) t ≡ applied [] (End_process pid said) k
  unfolding applied
  left_state said =
      ap (λ m. stored (left ps pid) m t.rights (descriptions t)) held.same.inodes
      ∙ ap (λ r. stored (left ps pid) (inodes s) r (descriptions t)) held.same.rights
      ∙ ap (stored (left ps pid) (inodes s) s.rights) held.descriptions
      ∙ (λ i. record {
        root = 0;
        inodes = inodes s;
        rights = s.rights;
        descriptions = descriptions s;
        processes = left_processes i;
        made = left_count i;
        bounds = ps.bounds;
      })

  left_counted : AreCounted (left ps pid) t
  left_counted = record {
    openings = λ n file is. sound.counted.openings n file (held.files n file is)
        ∙ sym (openings_change_lem.by_descriptions k (state_of (left ps pid) t) held.descriptions n);
    holders = λ d opened is. of_holders d opened (held.opened d opened is);
    pipes = λ p pipe is. same_pairs k (state_of (left ps pid) t) held.descriptions p pipe.reader pipe.writer
        (sound.counted.pipes p pipe (held.pipes p pipe is));
  }
    where
      of_holders : (d : ℕ) (opened : Opened) → WasHeld (IsLessOf (gave ps pid) d) s d opened
          → opened.holders ≡ holders (state_of (left ps pid) t) d
      of_holders d opened was =
          let before : was.before.holders ≡ holders k d = sound.counted.holders d was.before was.held in
          let less : opened.holders ≡ was.before.holders - times d (gave ps pid) = was.count in
          let law : holders (state_of (left ps pid) t) d + times d (gave ps pid) ≡ holders k d
          = holders_without k (state_of (left ps pid) t) pid (or_new (get (numbered ps) pid))
          (is_there (get (numbered ps) pid) fits.alive) left_processes d in
          omega (arith, before, less, law)

  ending_made : IsMade ps (left ps pid) s t [] (End_process pid pipes)
  ending_made = record {
    root = held.same.root;
    state = left_state pipes;
    staged = held.same.staged sound.staged;
    counted = left_counted;
  }

  pub ending_holds : Holds (left ps pid) t
  ending_holds = made_holds ps (left ps pid) s t [] (End_process pid pipes) sound fits ending_made

  tidies : all_closed (gave ps pid) ended ≡ tidy ended
  tidies = sweep_is_tidy_lem.in_turn [] k (End_process pid pipes) (tidied_of ps s sound) fits

  module _ (last : Numbers) (freed : Frees (all_closed (gave ps pid)) (left ps pid) t last) where
    pub ending_sound : Sound (left ps pid) last
    ending_sound = freed_sound ps (left ps pid) s t [] (End_process pid pipes) sound fits ending_made
        (all_closed (gave ps pid)) tidies last freed

    pub ending_tidy : (said : List ℕ)
        → state_of (left ps pid) last ≡ tidy (applied [] (End_process pid said) k)
    ending_tidy said =
        freed_state ps (left ps pid) s t [] (End_process pid pipes) sound fits ending_made
        (all_closed (gave ps pid)) tidies last freed
        ∙ ap (λ k. tidy k) (sym (left_state pipes) ∙ left_state said)
