-- The first state with another root.
use Rattle.std.proofs.Common.{◌≡◌, ℕ, suc, List, [], ◌∷◌, map, refl, ap, ap₂, subst, ◌∙◌, nat_cmp}
use Rattle.std.specs.Cmp.{nat_cmp_total}
use Rattle.std.specs.Cmp.Lexicographic.{nat_list_cmp_total}
use Rattle.model.specs.FiniteMap.{FinMap, empty, insert, nat_cmp-IsAntisymmetric}
use Rattle.model.specs.State.{Directory, Process, Rights}
use Rattle.model.specs.Steps.{Run}
use Rattle.model.specs.Moments.{Setup, with_processes, start}
use Rattle.model.proofs.Laws.{name_exact}
use Rattle.renaming_laws.specs.Renaming.{IsRenaming, swap, renamed_map, with_values, renamed_inode, renamed_description, renamed_process, renamed}
use Rattle.renaming_laws.specs.Renamed.{renamed_item}
use Rattle.renaming_laws.specs.Laws.{RootIsRenamed}
use Rattle.renaming_laws.proofs.Maps.{renamed-empty, renamed-insert}
use Rattle.renaming_laws.proofs.States.{no_slots}
use Rattle.renaming_laws.proofs.Slots.{slots_at_start}
use Rattle.renaming_laws.proofs.Runs.{runs_are_renamed}
use Rattle.renaming_laws.proofs.Swaps.{swap_first, swap_renames}

module _ (f : ℕ → ℕ) (r : IsRenaming f) where
  -- the first processes have no slots
  processes_stay : (made : ℕ) (priorities : List ℕ) (m : FinMap nat_cmp Process) → with_values (renamed_process f) m ≡ m → with_values (renamed_process f) (with_processes made priorities m) ≡ with_processes made priorities m
  processes_stay made [] m same = same
  processes_stay made (p ∷ ps) m same = processes_stay (suc made) ps (insert m (suc made) (record { table = empty; priority = p }))
      (renamed-insert nat_cmp_total nat_cmp-IsAntisymmetric (λ x. x) (λ x. refl) (renamed_process f) m (suc made) (record { table = empty; priority = p })
      ∙ ap₂ (λ (m : FinMap nat_cmp Process) (process : Process). insert m (suc made) process) same (λ i. record { table = no_slots f r i; priority = p }))

  root_put : (root : ℕ) (setup : Setup) → renamed_map f (renamed_inode f) (start root setup).inodes ≡ (start (f root) setup).inodes
  root_put root setup =
      renamed-insert nat_cmp_total nat_cmp-IsAntisymmetric f r.again (renamed_inode f) empty root (Directory empty)
      ∙ (λ i. insert (renamed-empty nat_cmp_total nat_cmp-IsAntisymmetric f r.again (renamed_inode f) i) (f root) (Directory (renamed-empty nat_list_cmp_total name_exact (λ x. x) (λ x. refl) f i)))

  pub start_renamed : (root : ℕ) (setup : Setup) → renamed f (start root setup) ≡ start (f root) setup
  start_renamed root setup = λ i. record {
    root = f root;
    inodes = root_put root setup i;
    rights = renamed-empty nat_cmp_total nat_cmp-IsAntisymmetric f r.again (λ (set : Rights). set) i;
    descriptions = renamed-empty nat_cmp_total nat_cmp-IsAntisymmetric f r.again (renamed_description f) i;
    processes = processes_stay 0 setup.priorities empty (renamed-empty nat_cmp_total nat_cmp-IsAntisymmetric (λ x. x) (λ x. refl) (renamed_process f)) i;
    made = (start root setup).made;
    bounds = setup.bounds;
  }

pub start_swapped : (a b : ℕ) (setup : Setup) → renamed (swap a b) (start a setup) ≡ start b setup
start_swapped a b setup = start_renamed (swap a b) (swap_renames a b) a setup ∙ ap (λ root. start root setup) (swap_first a b)

pub root_is_renamed : RootIsRenamed
root_is_renamed a b setup items after run =
    subst (λ k. Run k (map (renamed_item (swap a b)) items) (renamed (swap a b) after)) (start_swapped a b setup)
    ((runs_are_renamed (swap a b) (swap_renames a b)).run (start a setup) (slots_at_start a setup) items after run)
