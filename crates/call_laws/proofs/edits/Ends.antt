-- How the ends of a pipe change with descriptions, slots and processes.
use Rattle.std.proofs.Common.{◌≡◌, ◌≢◌, ℕ, ◌+◌, Bool, false, cond, ◌&&◌, Option, Some, None, count_by, refl, sym, ap, ◌∙◌, arith, ◌==◌, nat_cmp}
use Rattle.std.specs.Cmp.{nat_cmp_total}
use Rattle.model.specs.FiniteMap.{FinMap, get, insert, remove, values, nat_cmp-IsAntisymmetric}
use Rattle.model.specs.State.{Kernel, Description, Process, is_end, ends, mapped}
use Rattle.model.specs.Changes.{Mode, process_of, or_new, with_slot, set_process, set_description, at_start, open_at}
use Rattle.model.specs.Calls.{Slot, slot_of}
use Rattle.call_laws.specs.Fits.{table_of, fixed_of, IsUnused}
use Rattle.model.proofs.Laws.{weight, sum-insert, sum-remove, get_same, get_other}
use Rattle.call_laws.proofs.Maps.{sum-alike, sum-zero, sum-empty}

-- 1 for a description that is an end, else 0
abbrev pub end_count : Kernel → ℕ → (Description → Bool) → ℕ → ℕ
end_count k p mode d = cond (is_end mode p (get k.descriptions d)) 1 0

-- how many slots of a table give an end
abbrev pub held : Kernel → ℕ → (Description → Bool) → FinMap nat_cmp ℕ → ℕ
held k p mode table = count_by (λ d. is_end mode p (get k.descriptions d)) (values table)

held_by : (k : Kernel) (p : ℕ) (mode : Description → Bool) (x : Option Process) → weight (λ process. held k p mode process.table) x ≡ held k p mode (or_new x).table
held_by k p mode (Some process) = refl
held_by k p mode None = sym (sum-empty nat_cmp (end_count k p mode))

-- a process's old table goes, and its new one comes
pub ends-set_process : (k : Kernel) (pid : ℕ) (process : Process) (p : ℕ) (mode : Description → Bool) → ends (set_process pid process k) p mode + held k p mode (table_of k pid) ≡ ends k p mode + held k p mode process.table
unfolding ends
ends-set_process k pid process p mode =
    ap (λ w. ends (set_process pid process k) p mode + w) (sym (held_by k p mode (get k.processes pid)))
    ∙ sum-insert nat_cmp_total nat_cmp-IsAntisymmetric (λ process. held k p mode process.table) k.processes pid process

abbrev pub without_process : ℕ → Kernel → Kernel
without_process pid k = record k { processes = remove k.processes pid }

pub ends-without_process : (k : Kernel) (pid : ℕ) (p : ℕ) (mode : Description → Bool) → held k p mode (table_of k pid) + ends (without_process pid k) p mode ≡ ends k p mode
unfolding ends
ends-without_process k pid p mode =
    ap (λ w. w + ends (without_process pid k) p mode) (sym (held_by k p mode (get k.processes pid)))
    ∙ sum-remove nat_cmp_total nat_cmp-IsAntisymmetric (λ process. held k p mode process.table) k.processes pid

pub held-insert : (k : Kernel) (p : ℕ) (mode : Description → Bool) (table : FinMap nat_cmp ℕ) (f d : ℕ) → held k p mode (insert table f d) + weight (end_count k p mode) (get table f) ≡ held k p mode table + end_count k p mode d
held-insert k p mode table f d = sum-insert nat_cmp_total nat_cmp-IsAntisymmetric (end_count k p mode) table f d

pub held-remove : (k : Kernel) (p : ℕ) (mode : Description → Bool) (table : FinMap nat_cmp ℕ) (f : ℕ) → weight (end_count k p mode) (get table f) + held k p mode (remove table f) ≡ held k p mode table
held-remove k p mode table f = sum-remove nat_cmp_total nat_cmp-IsAntisymmetric (end_count k p mode) table f

-- a table of which each description is the same end, or none, in two states
pub held-alike : (now later : Kernel) (p : ℕ) (mode : Description → Bool) (table : FinMap nat_cmp ℕ)
    → ((f d : ℕ) → get table f ≡ Some d → is_end mode p (get later.descriptions d) ≡ is_end mode p (get now.descriptions d)) → held later p mode table ≡ held now p mode table
held-alike now later p mode table each = sum-alike nat_cmp_total (end_count later p mode) (end_count now p mode) table (λ f d is. ap (λ b. cond b 1 0) (each f d is))

pub held-none : (k : Kernel) (p : ℕ) (mode : Description → Bool) (table : FinMap nat_cmp ℕ) → ((f d : ℕ) → get table f ≡ Some d → is_end mode p (get k.descriptions d) ≡ false) → held k p mode table ≡ 0
held-none k p mode table each = sum-zero nat_cmp_total (end_count k p mode) table (λ f d is. ap (λ b. cond b 1 0) (each f d is))

-- of the processes that are there
abbrev pub table_in : Option Process → FinMap nat_cmp ℕ
table_in x = (or_new x).table

-- a description that no slot names counts nowhere
pub ends-set_description : (k : Kernel) (d : ℕ) (it : Description) → ((pid f : ℕ) → get (table_of k pid) f ≢ Some d) → (p : ℕ) (mode : Description → Bool) → ends (set_description d it k) p mode ≡ ends k p mode
unfolding ends
ends-set_description k d it unheld p mode =
    sum-alike nat_cmp_total (λ process. held (set_description d it k) p mode process.table) (λ process. held k p mode process.table) k.processes
    (λ pid process is. held-alike k (set_description d it k) p mode process.table
    (λ f e gives. ap (is_end mode p) (get_other k.descriptions d e it (λ same. unheld pid f (ap (λ x. get (table_in x) f) is ∙ gives ∙ ap Some same)))))

-- a new description with its slot
pub ends-open_at : (k : Kernel) (d n : ℕ) (how : Mode) (pid f : ℕ) → IsUnused k d → get (table_of k pid) f ≡ None → (p : ℕ) (mode : Description → Bool) → ends (open_at d n how pid f k) p mode ≡ ends k p mode + cond ((n == p) && mode (at_start n how)) 1 0
ends-open_at k d n how pid f unused free p mode =
    let mid : Kernel = set_description d (at_start n how) k in
    let described : ends mid p mode ≡ ends k p mode = ends-set_description k d (at_start n how) unused.unheld p mode in
    let moved : ends (open_at d n how pid f k) p mode + held mid p mode (table_of k pid) ≡ ends mid p mode + held mid p mode (insert (table_of k pid) f d) = ends-set_process mid pid (with_slot f d (process_of k pid)) p mode in
    let one_more : held mid p mode (insert (table_of k pid) f d) + 0 ≡ held mid p mode (table_of k pid) + end_count mid p mode d =
    ap (λ x. held mid p mode (insert (table_of k pid) f d) + weight (end_count mid p mode) x) (sym free) ∙ held-insert mid p mode (table_of k pid) f d in
    let new : end_count mid p mode d ≡ cond ((n == p) && mode (at_start n how)) 1 0 = ap (λ x. cond (is_end mode p x) 1 0) (get_same k.descriptions d (at_start n how)) in
    omega arith

reads_in : ℕ → Option Slot → Bool
reads_in p (Some s) = (s.inode == p) && s.reading
reads_in p None = false

writes_in : ℕ → Option Slot → Bool
writes_in p (Some s) = (s.inode == p) && s.writing
writes_in p None = false

reads_by_slot : (k : Kernel) (p d : ℕ) (x : Option Description) → is_end (λ it. it.reading) p x ≡ reads_in p (mapped (λ it. slot_of k d (Some it)) x)
unfolding reads_in
reads_by_slot k p d (Some it) = refl
reads_by_slot k p d None = refl

writes_by_slot : (k : Kernel) (p d : ℕ) (x : Option Description) → is_end (λ it. it.writing) p x ≡ writes_in p (mapped (λ it. slot_of k d (Some it)) x)
unfolding writes_in
writes_by_slot k p d (Some it) = refl
writes_by_slot k p d None = refl

-- descriptions whose fixed parts are the same are the same ends
pub reads_alike : (now later : Kernel) (p d : ℕ) → fixed_of later d ≡ fixed_of now d → is_end (λ it. it.reading) p (get later.descriptions d) ≡ is_end (λ it. it.reading) p (get now.descriptions d)
reads_alike now later p d e = reads_by_slot later p d (get later.descriptions d) ∙ ap (reads_in p) e ∙ sym (reads_by_slot now p d (get now.descriptions d))

pub writes_alike : (now later : Kernel) (p d : ℕ) → fixed_of later d ≡ fixed_of now d → is_end (λ it. it.writing) p (get later.descriptions d) ≡ is_end (λ it. it.writing) p (get now.descriptions d)
writes_alike now later p d e = writes_by_slot later p d (get later.descriptions d) ∙ ap (writes_in p) e ∙ sym (writes_by_slot now p d (get now.descriptions d))
