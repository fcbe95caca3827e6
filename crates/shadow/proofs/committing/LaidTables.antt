-- The changes of one process's slots are laid on its table, where it is there.
use Rattle.std.proofs.Common.{◌≡◌, ◌≢◌, ℕ, ◌<◌, ◌≤◌, List, [], ◌∷◌, length, Option, Some, None, nat_cmp, refl, sym, ap, ◌∙◌}
use Rattle.std.specs.Cmp.{nat_cmp_total}
use Rattle.model.specs.FiniteMap.{entries, find, get, get-entries, nat_cmp-IsAntisymmetric, same_map}
use Rattle.model.specs.State.{Process, mapped}
use Rattle.fdtable.specs.Patches.{Given, IsFormer, IsLaid}
use Rattle.notes.specs.Patches.{reslotted, reslotted_by, slots_over, with_slots}
use Rattle.notes.proofs.Laws.{map_over}
use Rattle.shadow.specs.Laid.{table_in}
use Rattle.shadow.specs.Stored.{Processes, numbered, with_process}
use Rattle.shadow.proofs.committing.SlotSteps.{numbered_here, numbered_others}
use Rattle.shadow.proofs.committing.TableSteps.{slots_of}

-- What laying changes leaves of the processes, and of the changes.
pub record IsLaidIn (pid : ℕ) (patch former : Given) (ps qs : Processes) : Type 0 where
  pub here : get (numbered qs) pid ≡ reslotted (Some patch) (get (numbered ps) pid)
  pub others : (q : ℕ) → q ≢ pid → get (numbered qs) q ≡ get (numbered ps) q
  pub was : IsFormer patch (table_in (get (numbered ps) pid)) former

-- the process is there
module _ (ps : Processes) (pid : ℕ) (patch former : Given) (some : 0 < pid) (low : pid ≤ length ps.list) (p new : Process) (is : get (numbered ps) pid ≡ Some p)
    (laid : IsLaid patch p.table new.table) (alike : new.priority ≡ p.priority) (was : IsFormer patch p.table former) where
  table_is : new.table ≡ slots_over (entries patch) p.table
  table_is = same_map nat_cmp_total nat_cmp-IsAntisymmetric _ _ (λ f. laid f ∙ sym (map_over patch p.table f))

  process_is : new ≡ with_slots (entries patch) p
  process_is i = record { table = table_is i; priority = alike i }

  pub laid_in : IsLaidIn pid patch former ps (with_process pid (Some new) ps)
  laid_in = record {
    here = numbered_here ps pid (Some new) some low ∙ ap (λ (p : Process). Some p) process_is ∙ sym (ap (reslotted (Some patch)) is ∙ slots_of (entries patch) p);
    others = numbered_others ps pid (Some new) some low;
    was = λ f. was f ∙ ap (λ o. mapped (λ _. get (table_in o) f) (get patch f)) (sym is);
  }

-- it is not there, and nothing changes
module _ (ps : Processes) (pid : ℕ) (patch : Given) (gone : get (numbered ps) pid ≡ None) (living : entries patch ≢ [] → get (numbered ps) pid ≢ None) where
  none_noted : (es : List (ℕ × Option ℕ)) → entries patch ≡ es → entries patch ≡ []
  none_noted [] is = is
  none_noted (e ∷ es) is = absurd (living (λ none. not_empty (sym is ∙ none)) gone)
    where
      not_empty : e ∷ es ≡ [] → ⊥
      not_empty same = cc

  pub not_laid : IsLaidIn pid patch patch ps ps
  not_laid = record {
    here = sym (ap (λ es. reslotted_by es (get (numbered ps) pid)) (none_noted (entries patch) refl));
    others = λ q away. refl;
    was = λ f. nothing f ∙ sym (ap (mapped (λ _. get (table_in (get (numbered ps) pid)) f)) (nothing f));
  }
    where
      nothing : (f : ℕ) → get patch f ≡ None
      nothing f = get-entries patch f ∙ ap (find nat_cmp f) (none_noted (entries patch) refl)
