-- How many descriptors are open on a description, as the processes change one after the other.
use Rattle.std.proofs.Common.{◌≡◌, ◌≢◌, ℕ, ◌+◌, ◌<◌, ◌≤◌, [], ◌∷◌, ◌++◌, List, length, take, Option, Some, refl, sym, ap, subst, ◌∙◌, arith, inl, inr, nat_cmp}
use Rattle.std.specs.Cmp.{nat_cmp_total}
use Rattle.std.proofs.lemmas.Bool.{cases_eq}
use Rattle.std.proofs.lemmas.List.{take_all, take_more}
use Rattle.model.specs.FiniteMap.{FinMap, empty, get, insert, values, same_map, nat_cmp-IsAntisymmetric}
use Rattle.model.specs.State.{Kernel, Process}
use Rattle.model.specs.Changes.{holders, or_new}
use Rattle.model.proofs.Laws.{get_other, get_same}
use Rattle.freeing_laws.specs.Counts.{times}
use Rattle.freeing_laws.proofs.Openings.{openings_change_lem}
use Rattle.freeing_laws.proofs.Pipes.{pipes_keep_their_ends_lem}
use Rattle.notes.specs.Patches.{kept_at, reslotted, reslotted_by, slots_in, with_slots}
use Rattle.notes.specs.Openings.{AreOnce}
use Rattle.notes.proofs.Laws.{Entries, kept_its, key_at, none_ahead, patch_at, pushed_other, pushed_same}

-- the state with other processes
abbrev with_processes : Kernel → FinMap nat_cmp Process → Kernel
with_processes k m = record k { processes = m }

-- how many descriptors of a process are open on d
abbrev pub open_on : ℕ → Option Process → ℕ
open_on d o = times d (values (or_new o).table)

-- one process changes
record Becomes (k : Kernel) (d pid : ℕ) (before : FinMap nat_cmp Process) (now : Option Process) : Type 0 where
  after : FinMap nat_cmp Process
  here : get after pid ≡ now
  others : (q : ℕ) → q ≢ pid → get after q ≡ get before q
  counted : holders (with_processes k after) d + open_on d (get before pid) ≡ holders (with_processes k before) d + open_on d now

becomes : (k : Kernel) (d pid : ℕ) (before : FinMap nat_cmp Process) (gs : List (ℕ × Option ℕ)) → Becomes k d pid before (reslotted_by gs (get before pid))
becomes k d pid before [] = record { after = before; here = refl; others = λ q away. refl; counted = refl }
becomes k d pid before (g ∷ gs) =
    let process : Process = with_slots (g ∷ gs) (or_new (get before pid)) in
    record {
      after = insert before pid process;
      here = get_same before pid process;
      others = λ q away. get_other before pid q process away;
      counted = pipes_keep_their_ends_lem.holders (with_processes k before) pid d process;
    }

-- the processes below place i have changed: so many descriptors came, and so many went
pub record Turned (k : Kernel) (d i : ℕ) (es : Entries) (added taken : ℕ) : Type 0 where
  pub mid : FinMap nat_cmp Process
  pub each : (pid : ℕ) → get mid pid ≡ reslotted (kept_at (take i es) pid) (get k.processes pid)
  pub counted : holders (record k { processes = mid }) d + taken ≡ holders k d + added

pub turned_nothing : (k : Kernel) (d : ℕ) (es : Entries) → Turned k d 0 es 0 0
turned_nothing k d es = record {
  mid = k.processes;
  each = λ pid. refl;
  counted = refl;
}

module _ (k : Kernel) (d i : ℕ) (es : Entries) (added taken : ℕ) (once : AreOnce es) (low : i < length es) (so : Turned k d i es added taken) where
  -- the process was as before
  as_before : get so.mid (key_at es i) ≡ get k.processes (key_at es i)
  as_before = so.each (key_at es i) ∙ ap (λ o. reslotted o (get k.processes (key_at es i))) (none_ahead es i once low)

  first_ones : take (i + 1) es ≡ take i es ++ (key_at es i, patch_at es i) ∷ []
  first_ones = take_more es i (0, empty) low

  next : Becomes k d (key_at es i) so.mid (reslotted (Some (patch_at es i)) (get so.mid (key_at es i)))
  next = becomes k d (key_at es i) so.mid (slots_in (Some (patch_at es i)))

  each_then : (pid : ℕ) → get next.after pid ≡ reslotted (kept_at (take (i + 1) es) pid) (get k.processes pid)
  each_then pid = elim (cases_eq pid (key_at es i)) [
    | inl same ↦ subst (λ q. get next.after q ≡ reslotted (kept_at (take (i + 1) es) q) (get k.processes q)) (sym same)
        (next.here ∙ ap (reslotted (Some (patch_at es i))) as_before
        ∙ sym (ap (λ o. reslotted o (get k.processes (key_at es i))) (ap (λ xs. kept_at xs (key_at es i)) first_ones ∙ pushed_same (take i es) (key_at es i) (patch_at es i) (none_ahead es i once low))))
    | inr away ↦ next.others pid away ∙ so.each pid
        ∙ sym (ap (λ o. reslotted o (get k.processes pid)) (ap (λ xs. kept_at xs pid) first_ones ∙ pushed_other (take i es) (key_at es i) (patch_at es i) pid away))
  ]

  pub turned_on : Turned k d (i + 1) es (added + open_on d (reslotted (kept_at es (key_at es i)) (get k.processes (key_at es i)))) (taken + open_on d (get k.processes (key_at es i)))
  turned_on =
      let was : open_on d (get so.mid (key_at es i)) ≡ open_on d (get k.processes (key_at es i)) = ap (open_on d) as_before in
      let is : open_on d (reslotted (Some (patch_at es i)) (get so.mid (key_at es i))) ≡ open_on d (reslotted (kept_at es (key_at es i)) (get k.processes (key_at es i)))
      = ap (λ o. open_on d (reslotted (Some (patch_at es i)) o)) as_before ∙ ap (λ g. open_on d (reslotted g (get k.processes (key_at es i)))) (sym (kept_its es i once low)) in
      let before : holders (record k { processes = so.mid }) d + taken ≡ holders k d + added = so.counted in
      let then : holders (record k { processes = next.after }) d + open_on d (get so.mid (key_at es i)) ≡ holders (record k { processes = so.mid }) d + open_on d (reslotted (Some (patch_at es i)) (get so.mid (key_at es i))) = next.counted in
      record {
        mid = next.after;
        each = each_then;
        counted = omega (arith, was, is, before, then);
      }

-- those of all processes have
pub turned_all : (k after : Kernel) (d i : ℕ) (es : Entries) (added taken : ℕ) → length es ≤ i → Turned k d i es added taken
    → ((pid : ℕ) → get after.processes pid ≡ reslotted (kept_at es pid) (get k.processes pid)) → holders after d + taken ≡ holders k d + added
turned_all k after d i es added taken high so is =
    let same : so.mid ≡ after.processes = same_map nat_cmp_total nat_cmp-IsAntisymmetric so.mid after.processes (λ q. so.each q ∙ ap (λ xs. reslotted (kept_at xs q) (get k.processes q)) (take_all i es high) ∙ sym (is q)) in
    ap (λ n. n + taken) (openings_change_lem.by_processes (record k { processes = so.mid }) after (sym same) d) ∙ so.counted
