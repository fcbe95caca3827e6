-- How openings change with one description, on what the counts depend, and how high they are.
use Rattle.std.proofs.Common.{◌≡◌, ◌≢◌, ◌≤◌, ℕ, suc, zero, ◌+◌, ◌*◌, ◌<◌, ◌==◌, Bool, true, false, cond, if◌then◌else◌, List, [], ◌∷◌, map, length, Option, Some, None, sum_by, refl, sym, ap, subst, ◌∙◌, arith, inl, inr, nat_cmp}
use Rattle.std.specs.declared.cmp.Ordering.{Ordering}
use Rattle.std.specs.Cmp.{IsTotalOrder, nat_cmp_total}
use Rattle.std.specs.List.{AllByRecursion}
use Rattle.std.proofs.lemmas.Bool.{cases_eq}
use Rattle.std.proofs.lemmas.List.Sums.{sum_by-cons}
use Rattle.model.specs.FiniteMap.{FinMap, get, remove, len, entries, values, contains_key, len-entries, len_before_remove}
use Rattle.model.specs.Limits.{descriptor_limit}
use Rattle.model.specs.State.{Kernel, Description, Process}
use Rattle.model.specs.Changes.{set_description, set_offset, at_offset, openings, holders}
use Rattle.model.proofs.Laws.{weight, all_entries}
use Rattle.call_laws.specs.WellFormed.{WellFormed, most_descriptors}
use Rattle.call_laws.specs.Fits.{table_of}
use Rattle.call_laws.proofs.Laws.{sum-zero, not_counted, one, table_in, named_in, not_none, removed_same, removed_other}
use Rattle.freeing_laws.specs.Counts.{opens}
use Rattle.freeing_laws.specs.Openings.{OpeningsChange}
use Rattle.freeing_laws.proofs.Times.{times_one}
use Rattle.freeing_laws.proofs.Slots.{described}
use Rattle.freeing_laws.proofs.Turns.{opens_weight, fewer_openings}

-- one description
one_opens : (n : ℕ) (it : Description) → opens n (Some it) ≡ (if it.inode == n then 1 else 0)
one_opens n it = times_one n it.inode

replaced : (k : Kernel) (d : ℕ) (it : Description) (n : ℕ) → openings (set_description d it k) n + opens n (get k.descriptions d) ≡ openings k n + opens n (Some it)
replaced k d it n =
    let put : openings (set_description d it k) n + weight (λ (v : Description). one v.inode n) (get k.descriptions d) ≡ openings k n + one it.inode n = described k d it n in
    let old : opens n (get k.descriptions d) ≡ weight (λ (v : Description). one v.inode n) (get k.descriptions d) = opens_weight n (get k.descriptions d) in
    let new : opens n (Some it) ≡ one it.inode n = times_one n it.inode in
    omega arith

comes : (k : Kernel) (d : ℕ) (it : Description) → get k.descriptions d ≡ None → (n : ℕ) → openings (set_description d it k) n ≡ openings k n + one it.inode n
comes k d it none n =
    let put : openings (set_description d it k) n + opens n (get k.descriptions d) ≡ openings k n + opens n (Some it) = replaced k d it n in
    let old : opens n (get k.descriptions d) ≡ 0 = ap (opens n) none in
    let new : opens n (Some it) ≡ one it.inode n = times_one n it.inode in
    omega arith

same_inode : (k : Kernel) (d : ℕ) (it old : Description) → get k.descriptions d ≡ Some old → it.inode ≡ old.inode → (n : ℕ) → openings (set_description d it k) n ≡ openings k n
same_inode k d it old is same n =
    let put : openings (set_description d it k) n + opens n (get k.descriptions d) ≡ openings k n + opens n (Some it) = replaced k d it n in
    let was : opens n (get k.descriptions d) ≡ opens n (Some old) = ap (opens n) is in
    let equal : opens n (Some it) ≡ opens n (Some old) = one_opens n it ∙ ap (λ m. one m n) same ∙ sym (one_opens n old) in
    omega arith

offset : (k : Kernel) (d place n : ℕ) → openings (set_offset d place (get k.descriptions d) k) n ≡ openings k n
offset k d place n = by_old (get k.descriptions d) refl
  where
    by_old : (o : Option Description) → get k.descriptions d ≡ o → openings (set_offset d place o k) n ≡ openings k n
    by_old None is = refl
    by_old (Some it) is = same_inode k d (at_offset place it) it is refl n

-- on what the counts depend
by_descriptions : (k l : Kernel) → l.descriptions ≡ k.descriptions → (n : ℕ) → openings l n ≡ openings k n
unfolding openings
by_descriptions k l same n = ap (λ (m : FinMap nat_cmp Description). sum_by (λ (v : Description). cond (v.inode == n) 1 0) (values m)) same

by_processes : (k l : Kernel) → l.processes ≡ k.processes → (d : ℕ) → holders l d ≡ holders k d
unfolding holders
by_processes k l same d = ap (λ (m : FinMap nat_cmp Process). sum_by (λ (process : Process). named_in d process.table) (values m)) same

-- a sum with parts that are not above a bound
module _ {K X : Type 0} {R : K → K → Ordering} (o : IsTotalOrder R) (w : X → ℕ) (most : ℕ) where
  low_parts : (es : List (K × X)) → AllByRecursion (λ (e : K × X). w e.1 ≤ most) es → sum_by w (map (λ e. e.1) es) ≤ most * length es
  low_parts [] h = omega arith
  low_parts (e ∷ es) h =
      let sum : sum_by w (map (λ e. e.1) (e ∷ es)) ≡ w e.1 + sum_by w (map (λ e. e.1) es) = sum_by-cons w e.1 (map (λ e. e.1) es) in
      let first : w e.1 ≤ most = h.0 in
      let rest : sum_by w (map (λ e. e.1) es) ≤ most * length es = low_parts es h.1 in
      omega arith

  sum-low : (m : FinMap R X) → ((q : K) (x : X) → get m q ≡ Some x → w x ≤ most) → sum_by w (values m) ≤ most * len m
  sum-low m each = subst (λ count. sum_by w (values m) ≤ most * count) (sym (len-entries m)) (low_parts (entries m) (all_entries o (λ k x. w x ≤ most) m each))

low_test : (b : Bool) → cond b 1 0 ≤ 1
low_test true = omega arith
low_test false = omega arith

most_openings : (k : Kernel) (n : ℕ) → openings k n ≤ len k.descriptions
unfolding openings
most_openings k n =
    let most : openings k n ≤ 1 * len k.descriptions = sum-low nat_cmp_total (λ (v : Description). cond (v.inode == n) 1 0) 1 k.descriptions (λ d it is. low_test (it.inode == n)) in
    omega arith

most_named : (d : ℕ) (table : FinMap nat_cmp ℕ) → named_in d table ≤ len table
most_named d table =
    let most : named_in d table ≤ 1 * len table = sum-low nat_cmp_total (λ v. cond (v == d) 1 0) 1 table (λ f e is. low_test (e == d)) in
    omega arith

most_holders : (k : Kernel) (d : ℕ) → ((pid : ℕ) (it : Process) → get k.processes pid ≡ Some it → len it.table ≤ descriptor_limit) → holders k d ≤ descriptor_limit * len k.processes
unfolding holders
most_holders k d low = sum-low nat_cmp_total (λ (process : Process). named_in d process.table) descriptor_limit k.processes (λ pid it is.
    let full : len it.table ≤ descriptor_limit = low pid it is in
    let some : named_in d it.table ≤ len it.table = most_named d it.table in
    omega arith)

-- keys below a limit are not more than the limit
module _ {X : Type 0} where
  none_there : (es : List (ℕ × X)) → AllByRecursion (λ (e : ℕ × X). e.0 < 0) es → length es ≡ 0
  none_there [] h = refl
  none_there (e ∷ es) h = absurd (let below : e.0 < 0 = h.0 in omega arith)

  few_keys : (limit : ℕ) (m : FinMap nat_cmp X) → ((q : ℕ) (x : X) → get m q ≡ Some x → q < limit) → len m ≤ limit
  few_keys zero m low =
      let none : len m ≡ 0 = len-entries m ∙ none_there (entries m) (all_entries nat_cmp_total (λ q x. q < 0) m low) in
      omega arith
  few_keys (suc limit) m low =
      let fewer : cond (contains_key m limit) 1 0 + len (remove m limit) ≡ len m = len_before_remove nat_cmp_total m limit in
      let last : cond (contains_key m limit) 1 0 ≤ 1 = low_test (contains_key m limit) in
      let rest : len (remove m limit) ≤ limit = few_keys limit (remove m limit) (λ q x is.
      let was = left m limit q x is in
      let below : q < suc limit = low q x was.1 in
      let away : q ≢ limit = was.0 in
      omega arith) in
      omega arith
    where
      left : (m : FinMap nat_cmp X) (n q : ℕ) (x : X) → get (remove m n) q ≡ Some x → (q ≢ n) × (get m q ≡ Some x)
      left m n q x is = elim (cases_eq q n) [
        | inl same ↦ absurd (not_none x (sym is ∙ ap (get (remove m n)) same ∙ removed_same m n))
        | inr away ↦ (away, sym (removed_other m n q away) ∙ is)
      ]

tables : (k : Kernel) → WellFormed k → (pid : ℕ) → len (table_of k pid) ≤ descriptor_limit
tables k well pid = few_keys descriptor_limit (table_of k pid) (λ f d is. let low : f < most_descriptors k = well.low pid f d is in omega arith)

most_held : (k : Kernel) → WellFormed k → (d : ℕ) → holders k d ≤ descriptor_limit * len k.processes
most_held k well d = most_holders k d (λ pid it is. subst (λ o. len (table_in o) ≤ descriptor_limit) is (tables k well pid))

-- none
unheld : (k : Kernel) (d : ℕ) → ((pid f : ℕ) → get (table_of k pid) f ≢ Some d) → holders k d ≡ 0
unfolding holders
unheld k d none = sum-zero nat_cmp_total (λ (process : Process). named_in d process.table) k.processes (λ pid process gives.
    sum-zero nat_cmp_total (λ v. cond (v == d) 1 0) process.table (λ f e is.
    not_counted e d (λ same. none pid f (ap (λ o. get (table_in o) f) gives ∙ is ∙ ap Some same))))

unopened : (k : Kernel) (n : ℕ) → ((d : ℕ) (it : Description) → get k.descriptions d ≡ Some it → it.inode ≢ n) → openings k n ≡ 0
unfolding openings
unopened k n none = sum-zero nat_cmp_total (λ (v : Description). cond (v.inode == n) 1 0) k.descriptions (λ d it is. not_counted it.inode n (none d it is))

pub openings_change_lem : OpeningsChange
openings_change_lem = record {
  one = one_opens;
  comes = comes;
  replaced = replaced;
  same_inode = same_inode;
  moved = λ k d place it is n. same_inode k d (at_offset place it) it is refl n;
  offset = offset;
  goes = fewer_openings;
  by_descriptions = by_descriptions;
  by_processes = by_processes;
  openings_apart = λ k root inodes rights processes made n. by_descriptions k (record k { root = root; inodes = inodes; rights = rights; processes = processes; made = made }) refl n;
  holders_apart = λ k root inodes rights descriptions made d. by_processes k (record k { root = root; inodes = inodes; rights = rights; descriptions = descriptions; made = made }) refl d;
  most_openings = most_openings;
  most_holders = most_holders;
  tables = tables;
  most_held = most_held;
  unheld = unheld;
  unopened = unopened;
}
