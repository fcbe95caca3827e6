-- A process comes or goes: what it had open is held more, or less; nothing, where it had nothing open.
use Rattle.std.proofs.Common.{◌≡◌, ◌+◌, ◌==◌, Bool, ℕ, [], Some, nat_cmp, refl, ap, ap₂, ◌∙◌, arith}
use Rattle.std.specs.Cmp.{nat_cmp_total}
use Rattle.std.specs.List.{count_by, sum_by}
use Rattle.model.specs.FiniteMap.{FinMap, empty, entries, get, nat_cmp-IsAntisymmetric, remove}
use Rattle.model.specs.FiniteMap.{values}
use Rattle.model.specs.State.{Description, Kernel, Process, ends, is_end}
use Rattle.model.specs.Changes.{holders}
use Rattle.model.proofs.Laws.{sum-remove, weight}
use Rattle.freeing_laws.specs.Counts.{times}
use Rattle.freeing_laws.proofs.Openings.{openings_change_lem}
use Rattle.store.specs.Numbers.{Numbers}
use Rattle.shadow.specs.Stored.{AreCounted, Processes, state_of}
use Rattle.shadow.proofs.shared.SoundnessLemmas.{counted_by, counts_of, counts_of_state}
use Rattle.shadow.proofs.shared.PipePairLemmas.{same_pairs}

-- what counts nothing of a process counts the same without it
weightless : (w : Process → ℕ) (m : FinMap nat_cmp Process) (pid : ℕ) (it : Process)
    → get m pid ≡ Some it → w it ≡ 0
    → sum_by w (values (remove m pid)) ≡ sum_by w (values m)
weightless w m pid it is zero =
    let sum : weight w (get m pid) + sum_by w (values (remove m pid)) ≡ sum_by w (values m)
    = sum-remove nat_cmp_total nat_cmp-IsAntisymmetric w m pid in
    let none : weight w (get m pid) ≡ 0 = ap (weight w) is ∙ zero in
    omega arith

-- a process that goes holds nothing more
pub holders_without : (k l : Kernel) (pid : ℕ) (it : Process) → get k.processes pid ≡ Some it
    → l.processes ≡ remove k.processes pid → (d : ℕ)
    → holders l d + times d (values it.table) ≡ holders k d
unfolding holders
holders_without k l pid it is without d =
    let w : Process → ℕ = λ process. count_by (λ e. e == d) (values process.table) in
    let sum : weight w (get k.processes pid) + sum_by w (values (remove k.processes pid))
    ≡ sum_by w (values k.processes)
    = sum-remove nat_cmp_total nat_cmp-IsAntisymmetric w k.processes pid in
    let here : weight w (get k.processes pid) ≡ w it = ap (weight w) is in
    let left : sum_by w (values l.processes) ≡ sum_by w (values (remove k.processes pid))
    = ap (λ m. sum_by w (values m)) without in
    omega (arith, sum, here, left)

-- an empty table gives nothing
no_values : (it : Process) → it.table ≡ empty → values it.table ≡ []
unfolding empty entries
no_values it none = ap (λ m. values m) none

-- in a state, and in the one without the process
module _ (k l : Kernel) (pid : ℕ) (it : Process) (is : get k.processes pid ≡ Some it)
    (none : it.table ≡ empty) (without : l.processes ≡ remove k.processes pid) where
  pub same_holders : (d : ℕ) → holders l d ≡ holders k d
  unfolding holders
  same_holders d =
      let w : Process → ℕ = λ process. count_by (λ e. e == d) (values process.table) in
      ap (λ m. sum_by w (values m)) without
      ∙ weightless w k.processes pid it is
      (ap (λ es. count_by (λ e. e == d) es) (no_values it none))

  pub same_ends : l.descriptions ≡ k.descriptions → (p : ℕ) (mode : Description → Bool)
      → ends l p mode ≡ ends k p mode
  unfolding ends
  same_ends same p mode =
      let w : Process → ℕ = λ process. count_by (λ d. is_end mode p (get k.descriptions d))
      (values process.table) in
      ap₂ (λ ds m. sum_by (λ process. count_by (λ d. is_end mode p (get ds d))
      (values process.table)) (values m)) same without
      ∙ weightless w k.processes pid it is
      (ap (λ t. count_by (λ d. is_end mode p (get k.descriptions d)) t) (no_values it none))

-- the counts that are kept are right still
pub counted_same : (ps qs : Processes) (s : Numbers)
    → ((d : ℕ) → holders (state_of qs s) d ≡ holders (state_of ps s) d)
    → AreCounted ps s → AreCounted qs s
counted_same ps qs s same counted =
    counted_by qs s (counts_of_state (state_of ps s) (state_of qs s) s
    (λ n. openings_change_lem.by_descriptions (state_of ps s) (state_of qs s) refl n) same
    (same_pairs (state_of ps s) (state_of qs s) refl) (counts_of ps s counted))
