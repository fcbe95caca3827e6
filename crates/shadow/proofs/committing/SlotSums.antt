-- Changes of several slots of one process: how often a description is held then.
use Rattle.std.proofs.Common.{◌≡◌, ℕ, ◌+◌, T, List, [], ◌∷◌, ◌++◌, Option, Some, None, nat_cmp, refl, sym, ap, ◌∙◌, arith, inl, inr}
use Rattle.std.specs.Cmp.{nat_cmp_total}
use Rattle.std.specs.List.{flat_map}
use Rattle.std.specs.FinMap.Entries.{is_sorted, below_all}
use Rattle.std.proofs.lemmas.Bool.{cases_eq}
use Rattle.std.proofs.lemmas.List.Concat.{flat_map-cons}
use Rattle.model.specs.FiniteMap.{FinMap, get, insert, same_map, nat_cmp-IsAntisymmetric}
use Rattle.model.specs.State.{Kernel, Process}
use Rattle.model.specs.Changes.{holders, set_process}
use Rattle.model.proofs.Laws.{get_other, get_same}
use Rattle.fdtable.specs.Patches.{laid_at}
use Rattle.fdtable.proofs.Laws.{laid_other}
use Rattle.freeing_laws.specs.Counts.{listed, times}
use Rattle.freeing_laws.proofs.Openings.{openings_change_lem}
use Rattle.notes.specs.Openings.{slot_noted}
use Rattle.notes.specs.Patches.{with_slots}
use Rattle.shadow.specs.Laid.{given_by, table_in}
use Rattle.shadow.proofs.shared.RisingKeys.{apart_from, rest_rises}
use Rattle.shadow.proofs.committing.SlotSteps.{held_then, times_both}

-- what the slots that change gave in a table before
abbrev pub gave : List (ℕ × Option ℕ) → FinMap nat_cmp ℕ → List ℕ
gave gs table = flat_map (λ g. listed (get table g.0)) gs

gave_first : (g : ℕ × Option ℕ) (gs : List (ℕ × Option ℕ)) (table : FinMap nat_cmp ℕ) (e : ℕ) → times e (gave (g ∷ gs) table) ≡ times e (listed (get table g.0)) + times e (gave gs table)
gave_first g gs table e =
    ap (times e) (flat_map-cons (λ (g : ℕ × Option ℕ). listed (get table g.0)) g gs) ∙ times_both e (listed (get table g.0)) (gave gs table)

given_first : (g : ℕ × Option ℕ) (gs : List (ℕ × Option ℕ)) (e : ℕ) → times e (flat_map (λ g. given_by g.1) (g ∷ gs)) ≡ times e (given_by g.1) + times e (flat_map (λ g. given_by g.1) gs)
given_first g gs e =
    ap (times e) (flat_map-cons (λ (g : ℕ × Option ℕ). given_by g.1) g gs) ∙ times_both e (given_by g.1) (flat_map (λ g. given_by g.1) gs)

pub listed_given : (g : Option ℕ) → given_by g ≡ listed g
listed_given (Some d) = refl
listed_given None = refl

-- another slot changes before them
gave_other : (f : ℕ) (given : Option ℕ) (gs : List (ℕ × Option ℕ)) (table : FinMap nat_cmp ℕ) → T (below_all nat_cmp f gs) → gave gs (laid_at f (Some given) table) ≡ gave gs table
gave_other f given [] table above = refl
gave_other f given (g ∷ gs) table above =
    flat_map-cons (λ (g : ℕ × Option ℕ). listed (get (laid_at f (Some given) table) g.0)) g gs
    ∙ ap (λ o. listed o ++ gave gs (laid_at f (Some given) table)) (laid_other f (Some given) table g.0 (apart_from f g gs above).0)
    ∙ ap (λ ds. listed (get table g.0) ++ ds) (gave_other f given gs table (apart_from f g gs above).1)
    ∙ sym (flat_map-cons (λ (g : ℕ × Option ℕ). listed (get table g.0)) g gs)

slot_now : (f : ℕ) (given : Option ℕ) (p : Process) → Some (record p { table = laid_at f (Some given) p.table }) ≡ slot_noted f given (Some p)
slot_now f (Some d) p = refl
slot_now f None p = refl

-- a process is set twice
set_twice : (k : Kernel) (pid : ℕ) (first later : Process) → insert (insert k.processes pid first) pid later ≡ insert k.processes pid later
set_twice k pid first later = same_map nat_cmp_total nat_cmp-IsAntisymmetric _ _ (λ q. elim (cases_eq q pid) [
  | inl same ↦ ap (get (insert (insert k.processes pid first) pid later)) same ∙ get_same (insert k.processes pid first) pid later
      ∙ sym (ap (get (insert k.processes pid later)) same ∙ get_same k.processes pid later)
  | inr away ↦ get_other (insert k.processes pid first) pid q later away ∙ get_other k.processes pid q first away ∙ sym (get_other k.processes pid q later away)
])

-- and it is set to what it is
set_again : (k : Kernel) (pid : ℕ) (p : Process) → get k.processes pid ≡ Some p → insert k.processes pid p ≡ k.processes
set_again k pid p is = same_map nat_cmp_total nat_cmp-IsAntisymmetric _ _ (λ q. elim (cases_eq q pid) [
  | inl same ↦ ap (get (insert k.processes pid p)) same ∙ get_same k.processes pid p ∙ sym is ∙ sym (ap (get k.processes) same)
  | inr away ↦ get_other k.processes pid q p away
])

-- several slots of a process change, in order
pub held_after : (gs : List (ℕ × Option ℕ)) → T (is_sorted nat_cmp gs) → (k : Kernel) (pid : ℕ) (p : Process) → get k.processes pid ≡ Some p → (e : ℕ)
    → holders (set_process pid (with_slots gs p) k) e + times e (gave gs p.table) ≡ holders k e + times e (flat_map (λ g. given_by g.1) gs)
held_after [] rising k pid p is e =
    let none : times e [] ≡ 0 = refl in
    let same : holders (set_process pid p k) e ≡ holders k e = openings_change_lem.by_processes k (set_process pid p k) (set_again k pid p is) e in
    omega (arith, none, same)
held_after (g ∷ gs) rising k pid p is e =
    let one : Process = record p { table = laid_at g.0 (Some g.1) p.table } in
    let then : Kernel = set_process pid one k in
    let last : Process = with_slots gs one in
    let first : holders then e + times e (listed (get p.table g.0)) ≡ holders k e + times e (listed g.1) =
    ap (λ o. holders then e + times e (listed (get (table_in o) g.0))) (sym is) ∙ held_then k pid g.0 g.1 one (slot_now g.0 g.1 p ∙ ap (slot_noted g.0 g.1) (sym is)) e in
    let later : holders (set_process pid last then) e + times e (gave gs one.table) ≡ holders then e + times e (flat_map (λ g. given_by g.1) gs) =
    held_after gs (rest_rises g gs rising).1 then pid one (get_same k.processes pid one) e in
    let same : holders (set_process pid last then) e ≡ holders (set_process pid last k) e = openings_change_lem.by_processes (set_process pid last k) (set_process pid last then) (set_twice k pid one last) e in
    let former : times e (gave gs one.table) ≡ times e (gave gs p.table) = ap (times e) (gave_other g.0 g.1 gs p.table (rest_rises g gs rising).0) in
    let all_gave : times e (gave (g ∷ gs) p.table) ≡ times e (listed (get p.table g.0)) + times e (gave gs p.table) = gave_first g gs p.table e in
    let all_given : times e (flat_map (λ g. given_by g.1) (g ∷ gs)) ≡ times e (listed g.1) + times e (flat_map (λ g. given_by g.1) gs) = given_first g gs e ∙ ap (λ ds. times e ds + times e (flat_map (λ g. given_by g.1) gs)) (listed_given g.1) in
    omega (arith, first, later, same, former, all_gave, all_given)
