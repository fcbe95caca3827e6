-- The stored processes, by their numbers, and those of the start.
use Rattle.std.proofs.Common.{◌≡◌, ◌≢◌, ℕ, suc, ◌-◌, ◌≤◌, ◌<◌, List, [], ◌∷◌, map, length, get_or, Option, Some, None, nat_cmp, refl, sym, ap, ◌∙◌, arith, ◌⊎◌, inl, inr}
use Rattle.std.specs.Cmp.{nat_cmp_total}
use Rattle.std.specs.FinMap.Entries.{find}
use Rattle.std.proofs.lemmas.Bool.{cases_eq, cases_lt}
use Rattle.std.proofs.lemmas.List.{get_or_past, get_or_read}
use Rattle.model.specs.FiniteMap.{FinMap, empty, get, get-empty, get-from_entries, insert, same_map, nat_cmp-IsAntisymmetric}
use Rattle.model.specs.Places.{placed}
use Rattle.model.specs.State.{Process}
use Rattle.model.specs.Moments.{with_processes}
use Rattle.model.proofs.Laws.{get_same, get_other, tied, untied}
use Rattle.shadow.specs.Stored.{Processes, numbered}
use Rattle.shadow.proofs.shared.PlaceLemmas.{find_placed, none_before}
use Rattle.model.specs.Limits.{Bounds}

-- a number stands for the process at its place
pub process_of_number : (ps : Processes) (q : ℕ) → 0 < q → get (numbered ps) q ≡ get_or ps.list (q - 1) None
process_of_number ps q some = get-from_entries nat_cmp_total (placed 1 ps.list) q ∙ find_placed 1 ps.list q (omega arith)

pub no_process : (ps : Processes) (q : ℕ) → (q ≡ 0) ⊎ (length ps.list < q) → get (numbered ps) q ≡ None
no_process ps q (inl none) = get-from_entries nat_cmp_total (placed 1 ps.list) q ∙ none_before 1 ps.list q (omega arith)
no_process ps q (inr high) = process_of_number ps q (omega arith) ∙ get_or_past ps.list (q - 1) None (omega arith)

-- the place of a process that is there
pub record IsProcess (ps : Processes) (q : ℕ) : Type 0 where
  pub some : 0 < q
  pub low : q ≤ length ps.list

pub is_process : (ps : Processes) (q : ℕ) → get (numbered ps) q ≢ None → IsProcess ps q
is_process ps q there = elim (cases_eq q 0) [
  | inl none ↦ absurd (there (no_process ps q (inl none)))
  | inr more ↦ elim (cases_lt (length ps.list) q) [
    | inl high ↦ absurd (there (no_process ps q (inr high)))
    | inr low ↦ record { some = omega (arith, more); low = omega (arith, low) }
  ]
]

-- what is read at its place
pub read_there : (ps : Processes) (q : ℕ) (o : Option Process) → IsProcess ps q → o ≡ get_or ps.list (q - 1) o → o ≡ get (numbered ps) q
read_there ps q o is read =
    let some : 0 < q = is.some in
    let low : q ≤ length ps.list = is.low in
    get_or_read ps.list (q - 1) o (omega arith) read None ∙ sym (process_of_number ps q some)

-- a process that has just begun
abbrev pub fresh : ℕ → Option Process
fresh p = Some (record { table = empty; priority = p })

abbrev begins : ℕ → Process
begins p = record { table = empty; priority = p }

abbrev or_else : Option Process → Option Process → Option Process
or_else (Some p) o = Some p
or_else None o = o

get_begun : (made : ℕ) (ps : List ℕ) (m : FinMap nat_cmp Process) (q : ℕ) → get (with_processes made ps m) q ≡ or_else (find nat_cmp q (placed (suc made) (map fresh ps))) (get m q)
get_begun made [] m q = refl
get_begun made (p ∷ ps) m q = get_begun (suc made) ps (insert m (suc made) (begins p)) q ∙ elim (cases_eq q (suc made)) [
  | inl same ↦ ap (λ o. or_else o (get (insert m (suc made) (begins p)) q)) (none_before (suc (suc made)) (map fresh ps) q (omega arith))
      ∙ ap (get (insert m (suc made) (begins p))) same ∙ get_same m (suc made) (begins p)
      ∙ sym (ap (λ o. or_else o (get m q)) (tied q (suc made) (fresh p) (find nat_cmp q (placed (suc (suc made)) (map fresh ps))) same))
  | inr away ↦ ap (or_else (find nat_cmp q (placed (suc (suc made)) (map fresh ps)))) (get_other m (suc made) q (begins p) away)
      ∙ sym (ap (λ o. or_else o (get m q)) (untied q (suc made) (fresh p) (find nat_cmp q (placed (suc (suc made)) (map fresh ps))) away))
]

or_none : (o : Option Process) → or_else o None ≡ o
or_none None = refl
or_none (Some p) = refl

pub begun : (ps : List ℕ) (bounds : Bounds) → with_processes 0 ps empty ≡ numbered (record { list = map fresh ps; bounds = bounds })
begun ps bounds = same_map nat_cmp_total nat_cmp-IsAntisymmetric _ _ (λ q.
    get_begun 0 ps empty q ∙ ap (or_else (find nat_cmp q (placed 1 (map fresh ps)))) (get-empty nat_cmp q) ∙ or_none (find nat_cmp q (placed 1 (map fresh ps)))
    ∙ sym (get-from_entries nat_cmp_total (placed 1 (map fresh ps)) q))
