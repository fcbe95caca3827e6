-- A process more in the committed state, which then has its parent's descriptors.
use Rattle.std.proofs.Common.{◌≡◌, ◌≢◌, ℕ, suc, ◌+◌, ◌-◌, ◌<◌, List, [], ◌∷◌, length, get_or}
use Rattle.std.proofs.Common.{Option, Some, None, nat_cmp, refl, sym, ap, ◌∙◌, arith, inl, inr}
use Rattle.std.specs.Cmp.{nat_cmp_total}
use Rattle.std.proofs.lemmas.Bool.{cases_eq, cases_lt}
use Rattle.std.proofs.lemmas.List.{get_or_append_left, length-append}
use Rattle.std.proofs.Math.Seq.{get_or-append_seam}
use Rattle.model.specs.FiniteMap.{empty, entries, get, get-empty, insert, nat_cmp-IsAntisymmetric}
use Rattle.model.specs.FiniteMap.{remove, same_map}
use Rattle.model.specs.State.{Kernel, Process, mapped}
use Rattle.model.specs.Changes.{New_process, applied, or_new, process_of}
use Rattle.model.proofs.Laws.{get_other, get_same, removed_other, removed_same}
use Rattle.call_laws.specs.Fits.{Fits}
use Rattle.call_laws.proofs.Laws.{not_none}
use Rattle.fdtable.specs.Patches.{Given, or_before}
use Rattle.store.specs.Numbers.{Numbers}
use Rattle.store.specs.Shown.{descriptions, inodes}
use Rattle.shadow.specs.Laid.{AreLow, IsReslotted, table_in}
use Rattle.notes.specs.Patches.{reslotted}
use Rattle.shadow.specs.Stored.{AreCounted, Processes, Sound, numbered, state_of, stored}
use Rattle.shadow.specs.Stored.{with_one_more}
use Rattle.shadow.proofs.shared.SoundnessLemmas.{sound_after, tidy_after}
use Rattle.shadow.proofs.edits.EmptyProcesses.{counted_same, same_holders}
use Rattle.shadow.proofs.shared.ProcessLemmas.{no_process, process_of_number}
use Rattle.shadow.proofs.edits.SlotChanges.{sound_low}
use Rattle.notes.proofs.Laws.{new_of}
use Rattle.shadow.proofs.committing.TableSteps.{still_there, table_over}

-- one that is there is the one that it is
pub is_there : (o : Option Process) → o ≢ None → o ≡ Some (or_new o)
is_there None there = absurd (there refl)
is_there (Some it) there = refl

-- a process behind the others
module _ (ps : Processes) (new : Process) where
  abbrev pub grown : Processes
  grown = with_one_more new ps

  abbrev child : ℕ
  child = suc (length ps.list)

  pub grown_count : length grown.list ≡ suc (length ps.list)
  grown_count =
      let sum : length grown.list ≡ length ps.list + 1 = length-append ps.list (Some new ∷ []) in
      omega arith

  pub grown_here : get (numbered grown) child ≡ Some new
  grown_here =
      let place : child - 1 ≡ length ps.list = omega arith in
      process_of_number grown child (omega arith) ∙ ap (λ i. get_or grown.list i None) place
      ∙ get_or-append_seam ps.list (Some new) [] None

  pub grown_others : (q : ℕ) → q ≢ child → get (numbered grown) q ≡ get (numbered ps) q
  grown_others q away = elim (cases_eq q 0) [
    | inl none ↦ no_process grown q (inl none) ∙ sym (no_process ps q (inl none))
    | inr more ↦ elim (cases_lt (length ps.list) q) [
      | inl high ↦
          (let count : length grown.list ≡ suc (length ps.list) = grown_count in
          let above : length grown.list < q = omega (arith, count, high, away) in
          no_process grown q (inr above) ∙ sym (no_process ps q (inr high)))
      | inr low ↦
          process_of_number grown q (omega (arith, more))
          ∙ get_or_append_left ps.list (Some new ∷ []) None (q - 1) (omega (arith, low, more))
          ∙ sym (process_of_number ps q (omega (arith, more)))
    ]
  ]

  pub grown_without : numbered ps ≡ remove (numbered grown) child
  grown_without = same_map nat_cmp_total nat_cmp-IsAntisymmetric _ _ (λ q. elim (cases_eq q child) [
    | inl same ↦ ap (get (numbered ps)) same ∙ no_process ps child (inr (omega arith))
        ∙ sym (ap (get (remove (numbered grown) child)) same ∙ removed_same (numbered grown) child)
    | inr away ↦ sym (removed_other (numbered grown) child q away ∙ grown_others q away)
  ])

  -- without descriptors
  module _ (none : new.table ≡ empty) where
    pub grown_counted : (s : Numbers) → AreCounted ps s → AreCounted grown s
    grown_counted s counted = counted_same ps grown s
        (λ d. sym (same_holders (state_of grown s) (state_of ps s) child new grown_here none
        grown_without d))
        counted

    pub grown_low : AreLow ps → AreLow grown
    grown_low low q f d gives = elim (cases_eq q child) [
      | inl same ↦ absurd (not_none d (sym gives
          ∙ ap (λ q. get (table_in (get (numbered grown) q)) f) same
          ∙ ap (λ o. get (table_in o) f) grown_here ∙ ap (λ m. get m f) none ∙ get-empty nat_cmp f))
      | inr away ↦ low q f d (ap (λ o. get (table_in o) f) (sym (grown_others q away)) ∙ gives)
    ]

-- what all that is noted of an empty table leaves
given_or : (o : Option ℕ) → or_before (mapped Some o) None ≡ o
given_or None = refl
given_or (Some d) = refl

-- its descriptors are its parent's then
module _ (ps qs : Processes) (s t : Numbers) (parent : ℕ) (pipes : List ℕ) (sound : Sound ps s)
    (fits : Fits [] (state_of ps s) (New_process (suc (length ps.list)) parent pipes))
    (new : Process) (none : new.table ≡ empty)
    (alike : new.priority ≡ (process_of (state_of ps s) parent).priority)
    (patch former : Given)
    (noted : (f : ℕ)
    → get patch f ≡ mapped Some (get (process_of (state_of ps s) parent).table f))
    (laid : IsReslotted (suc (length ps.list)) patch former (grown ps new) qs s t) where
  abbrev k : Kernel
  k = state_of ps s

  abbrev it : Process
  it = process_of k parent

  abbrev now : Option Process
  now = get (numbered qs) (suc (length ps.list))

  slot : (f : ℕ) → get (table_in now) f ≡ or_before (get patch f) None
  slot f =
      ap (λ o. get (table_in o) f) (laid.here ∙ ap (reslotted (Some patch)) (grown_here ps new))
      ∙ table_over patch (Some new) f
      ∙ ap (or_before (get patch f)) (ap (λ m. get m f) none ∙ get-empty nat_cmp f)

  table_now : table_in now ≡ it.table
  table_now = same_map nat_cmp_total nat_cmp-IsAntisymmetric _ _ (λ f.
      slot f ∙ ap (λ o. or_before o None) (noted f) ∙ given_or (get it.table f))

  child_now : now ≡ Some it
  child_now =
      is_there now (λ e. still_there (Some patch) (Some new) (not_none new)
      (sym (laid.here ∙ ap (reslotted (Some patch)) (grown_here ps new)) ∙ e))
      ∙ (λ i. Some (record { table = table_now i; priority = priority_now i }))
    where
      priority_now : (or_new now).priority ≡ it.priority
      priority_now =
          ap (λ o. (or_new o).priority)
          (laid.here ∙ ap (reslotted (Some patch)) (grown_here ps new))
          ∙ ap (λ (p : Process). p.priority) (new_of (entries patch) (Some new))
          ∙ alike

  processes_now : numbered qs ≡ insert (numbered ps) (suc (length ps.list)) it
  processes_now = same_map nat_cmp_total nat_cmp-IsAntisymmetric _ _
      (λ q. elim (cases_eq q (suc (length ps.list))) [
        | inl same ↦ ap (get (numbered qs)) same ∙ child_now
            ∙ sym (ap (get (insert (numbered ps) (suc (length ps.list)) it)) same
            ∙ get_same (numbered ps) (suc (length ps.list)) it)
        | inr away ↦ laid.others q away ∙ grown_others ps new q away
            ∙ sym (get_other (numbered ps) (suc (length ps.list)) q it away)
      ])

  count_now : length qs.list ≡ suc (length ps.list)
  count_now = laid.stay.count ∙ grown_count ps new

  -- whatever is said of pipes
  pub forked : (said : List ℕ)
      → state_of qs t ≡ applied [] (New_process (suc (length ps.list)) parent said) k
  unfolding applied
  forked said =
      ap (λ m. stored qs m t.rights (descriptions t)) laid.stay.same.inodes
      ∙ ap (λ r. stored qs (inodes s) r (descriptions t)) laid.stay.same.rights
      ∙ ap (stored qs (inodes s) s.rights) laid.stay.descriptions
      ∙ (λ i. record {
        root = 0;
        inodes = inodes s;
        rights = s.rights;
        descriptions = descriptions s;
        processes = processes_now i;
        made = count_now i;
        bounds = laid.stay.bounds i;
      })

  pub forked_sound : Sound qs t
  forked_sound = sound_after ps qs s t [] (New_process (suc (length ps.list)) parent pipes) sound fits
      (forked pipes ∙ sym (tidy_after ps s [] (New_process (suc (length ps.list)) parent pipes) sound fits refl))
      laid.stay.same.root (laid.stay.same.staged sound.staged)
      (laid.stay.counted (grown_low ps new none (sound_low ps s sound))
      (grown_counted ps new none s sound.counted))
