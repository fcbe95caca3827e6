-- How holders, openings and ends change with descriptions, slots and processes.
use Rattle.std.proofs.Common.{◌≡◌, ℕ, ◌+◌, Bool, [], ◌∷◌, Option, Some, None, refl, sym, ap, ◌∙◌, arith, nat_cmp}
use Rattle.std.specs.Cmp.{nat_cmp_total}
use Rattle.std.proofs.lemmas.List.Sums.{sum_by-cons}
use Rattle.model.specs.FiniteMap.{FinMap, get, insert, remove, values, nat_cmp-IsAntisymmetric}
use Rattle.model.specs.State.{Kernel, Description, Process, ends}
use Rattle.model.specs.Changes.{Mode, process_of, with_slot, without_slot, set_process, set_description, at_start, at_offset, open_at, holders, openings}
use Rattle.model.proofs.Laws.{weight, sum-insert, sum-remove}
use Rattle.call_laws.specs.Fits.{table_of}
use Rattle.call_laws.proofs.Laws.{sum-empty, one, table_in, with_offset, named_in, tables_weight, end_count, held, without_process, ends-set_process, ends-without_process, held-insert, held-remove}
use Rattle.freeing_laws.specs.Counts.{times, listed, ends_among}
use Rattle.freeing_laws.proofs.Times.{times_one, times_listed}

pub ends_one : (k : Kernel) (p : ℕ) (mode : Description → Bool) (d : ℕ) → ends_among k p mode (d ∷ []) ≡ end_count k p mode d
ends_one k p mode d = let c : ends_among k p mode (d ∷ []) ≡ end_count k p mode d + ends_among k p mode [] = sum_by-cons (end_count k p mode) d [] in omega arith

pub ends_two : (k : Kernel) (p : ℕ) (mode : Description → Bool) (d e : ℕ) → ends_among k p mode (d ∷ e ∷ []) ≡ end_count k p mode d + end_count k p mode e
ends_two k p mode d e =
    let c : ends_among k p mode (d ∷ e ∷ []) ≡ end_count k p mode d + ends_among k p mode (e ∷ []) = sum_by-cons (end_count k p mode) d (e ∷ []) in
    let o : ends_among k p mode (e ∷ []) ≡ end_count k p mode e = ends_one k p mode e in
    omega arith

pub ends_listed : (k : Kernel) (p : ℕ) (mode : Description → Bool) (o : Option ℕ) → ends_among k p mode (listed o) ≡ weight (end_count k p mode) o
ends_listed k p mode None = refl
ends_listed k p mode (Some d) = ends_one k p mode d

-- a process's old table goes, and its new one comes
pub holders_set : (k : Kernel) (q : ℕ) (x : Process) (d : ℕ) → holders (set_process q x k) d + named_in d (table_of k q) ≡ holders k d + named_in d x.table
unfolding holders
holders_set k q x d = ap (λ w. holders (set_process q x k) d + w) (sym (tables_weight d (get k.processes q))) ∙ sum-insert nat_cmp_total nat_cmp-IsAntisymmetric (λ process. named_in d process.table) k.processes q x

removed : (k : Kernel) (q d : ℕ) → named_in d (table_of k q) + holders (without_process q k) d ≡ holders k d
unfolding holders
removed k q d = ap (λ w. w + holders (without_process q k) d) (sym (tables_weight d (get k.processes q))) ∙ sum-remove nat_cmp_total nat_cmp-IsAntisymmetric (λ process. named_in d process.table) k.processes q

pub holders_ended : (k : Kernel) (q d : ℕ) → holders (without_process q k) d + times d (values (table_of k q)) ≡ holders k d
holders_ended k q d =
    let e : named_in d (table_of k q) + holders (without_process q k) d ≡ holders k d = removed k q d in
    let all : times d (values (table_of k q)) ≡ named_in d (table_of k q) = refl in
    omega arith

-- a slot that comes in place of another
pub holders_shared : (k : Kernel) (q f d e : ℕ) → holders (set_process q (with_slot f d (process_of k q)) k) e + times e (listed (get (table_of k q) f)) ≡ holders k e + times e (d ∷ [])
holders_shared k q f d e =
    let t : FinMap nat_cmp ℕ = table_of k q in
    let moved : holders (set_process q (with_slot f d (process_of k q)) k) e + named_in e (table_of k q) ≡ holders k e + named_in e (insert (table_of k q) f d) = holders_set k q (with_slot f d (process_of k q)) e in
    let put : named_in e (insert (table_of k q) f d) + weight (λ v. one v e) (get (table_of k q) f) ≡ named_in e (table_of k q) + one d e = sum-insert nat_cmp_total nat_cmp-IsAntisymmetric (λ v. one v e) (table_of k q) f d in
    let old : times e (listed (get (table_of k q) f)) ≡ weight (λ v. one v e) (get (table_of k q) f) = times_listed e (get (table_of k q) f) in
    let new : times e (d ∷ []) ≡ one d e = times_one e d in
    omega arith

pub holders_cleared : (k : Kernel) (q f e : ℕ) → holders (set_process q (without_slot f (process_of k q)) k) e + times e (listed (get (table_of k q) f)) ≡ holders k e
holders_cleared k q f e =
    let moved : holders (set_process q (without_slot f (process_of k q)) k) e + named_in e (table_of k q) ≡ holders k e + named_in e (remove (table_of k q) f) = holders_set k q (without_slot f (process_of k q)) e in
    let gone : weight (λ v. one v e) (get (table_of k q) f) + named_in e (remove (table_of k q) f) ≡ named_in e (table_of k q) = sum-remove nat_cmp_total nat_cmp-IsAntisymmetric (λ v. one v e) (table_of k q) f in
    let old : times e (listed (get (table_of k q) f)) ≡ weight (λ v. one v e) (get (table_of k q) f) = times_listed e (get (table_of k q) f) in
    omega arith

pub holders_forked : (k : Kernel) (child : ℕ) (x : Process) (e : ℕ) → get k.processes child ≡ None → holders (set_process child x k) e ≡ holders k e + times e (values x.table)
holders_forked k child x e fresh =
    let moved : holders (set_process child x k) e + named_in e (table_of k child) ≡ holders k e + named_in e x.table = holders_set k child x e in
    let none : named_in e (table_of k child) ≡ 0 = ap (λ o. named_in e (table_in o)) fresh ∙ sum-empty nat_cmp (λ v. one v e) in
    let all : times e (values x.table) ≡ named_in e x.table = refl in
    omega arith

pub ends_shared : (k : Kernel) (q f d p : ℕ) (mode : Description → Bool) → ends (set_process q (with_slot f d (process_of k q)) k) p mode + ends_among k p mode (listed (get (table_of k q) f)) ≡ ends k p mode + ends_among k p mode (d ∷ [])
ends_shared k q f d p mode =
    let moved : ends (set_process q (with_slot f d (process_of k q)) k) p mode + held k p mode (table_of k q) ≡ ends k p mode + held k p mode (insert (table_of k q) f d) = ends-set_process k q (with_slot f d (process_of k q)) p mode in
    let put : held k p mode (insert (table_of k q) f d) + weight (end_count k p mode) (get (table_of k q) f) ≡ held k p mode (table_of k q) + end_count k p mode d = held-insert k p mode (table_of k q) f d in
    let old : ends_among k p mode (listed (get (table_of k q) f)) ≡ weight (end_count k p mode) (get (table_of k q) f) = ends_listed k p mode (get (table_of k q) f) in
    let new : ends_among k p mode (d ∷ []) ≡ end_count k p mode d = ends_one k p mode d in
    omega arith

pub ends_cleared : (k : Kernel) (q f p : ℕ) (mode : Description → Bool) → ends (set_process q (without_slot f (process_of k q)) k) p mode + ends_among k p mode (listed (get (table_of k q) f)) ≡ ends k p mode
ends_cleared k q f p mode =
    let moved : ends (set_process q (without_slot f (process_of k q)) k) p mode + held k p mode (table_of k q) ≡ ends k p mode + held k p mode (remove (table_of k q) f) = ends-set_process k q (without_slot f (process_of k q)) p mode in
    let gone : weight (end_count k p mode) (get (table_of k q) f) + held k p mode (remove (table_of k q) f) ≡ held k p mode (table_of k q) = held-remove k p mode (table_of k q) f in
    let old : ends_among k p mode (listed (get (table_of k q) f)) ≡ weight (end_count k p mode) (get (table_of k q) f) = ends_listed k p mode (get (table_of k q) f) in
    omega arith

pub ends_forked : (k : Kernel) (child : ℕ) (x : Process) (p : ℕ) (mode : Description → Bool) → get k.processes child ≡ None → ends (set_process child x k) p mode ≡ ends k p mode + ends_among k p mode (values x.table)
ends_forked k child x p mode fresh =
    let moved : ends (set_process child x k) p mode + held k p mode (table_of k child) ≡ ends k p mode + held k p mode x.table = ends-set_process k child x p mode in
    let none : held k p mode (table_of k child) ≡ 0 = ap (λ o. held k p mode (table_in o)) fresh ∙ sum-empty nat_cmp (end_count k p mode) in
    let all : ends_among k p mode (values x.table) ≡ held k p mode x.table = refl in
    omega arith

pub ends_ended : (k : Kernel) (q p : ℕ) (mode : Description → Bool) → ends (without_process q k) p mode + ends_among k p mode (values (table_of k q)) ≡ ends k p mode
ends_ended k q p mode =
    let e : held k p mode (table_of k q) + ends (without_process q k) p mode ≡ ends k p mode = ends-without_process k q p mode in
    let all : ends_among k p mode (values (table_of k q)) ≡ held k p mode (table_of k q) = refl in
    omega arith

-- a new description with its slot
holders_described : (k : Kernel) (d : ℕ) (it : Description) (e : ℕ) → holders (set_description d it k) e ≡ holders k e
unfolding holders
holders_described k d it e = refl

pub holders_opened : (k : Kernel) (d n : ℕ) (how : Mode) (q f : ℕ) → get (table_of k q) f ≡ None → (e : ℕ) → holders (open_at d n how q f k) e ≡ holders k e + one d e
holders_opened k d n how q f free e =
    let mid : Kernel = set_description d (at_start n how) k in
    let same : holders mid e ≡ holders k e = holders_described k d (at_start n how) e in
    let moved : holders (open_at d n how q f k) e + times e (listed (get (table_of k q) f)) ≡ holders mid e + times e (d ∷ []) = holders_shared mid q f d e in
    let none : times e (listed (get (table_of k q) f)) ≡ 0 = ap (λ o. times e (listed o)) free in
    let new : times e (d ∷ []) ≡ one d e = times_one e d in
    omega arith

pub described : (k : Kernel) (d : ℕ) (it : Description) (m : ℕ) → openings (set_description d it k) m + weight (λ (v : Description). one v.inode m) (get k.descriptions d) ≡ openings k m + one it.inode m
unfolding openings
described k d it m = sum-insert nat_cmp_total nat_cmp-IsAntisymmetric (λ (v : Description). one v.inode m) k.descriptions d it

same_openings : (k : Kernel) (q : ℕ) (x : Process) (m : ℕ) → openings (set_process q x k) m ≡ openings k m
unfolding openings
same_openings k q x m = refl

pub openings_opened : (k : Kernel) (d n : ℕ) (how : Mode) (q f : ℕ) → get k.descriptions d ≡ None → (m : ℕ) → openings (open_at d n how q f k) m ≡ openings k m + one n m
openings_opened k d n how q f none m =
    let mid : Kernel = set_description d (at_start n how) k in
    let same : openings (open_at d n how q f k) m ≡ openings mid m = same_openings mid q (with_slot f d (process_of mid q)) m in
    let put : openings mid m + weight (λ (v : Description). one v.inode m) (get k.descriptions d) ≡ openings k m + one n m = described k d (at_start n how) m in
    let old : weight (λ (v : Description). one v.inode m) (get k.descriptions d) ≡ 0 = ap (weight (λ (v : Description). one v.inode m)) none in
    omega arith

pub openings_moved : (k : Kernel) (d place : ℕ) (it : Description) → get k.descriptions d ≡ Some it → (m : ℕ) → openings (with_offset d place it k) m ≡ openings k m
openings_moved k d place it is m =
    let put : openings (with_offset d place it k) m + weight (λ (v : Description). one v.inode m) (get k.descriptions d) ≡ openings k m + one it.inode m = described k d (at_offset place it) m in
    let old : weight (λ (v : Description). one v.inode m) (get k.descriptions d) ≡ one it.inode m = ap (weight (λ (v : Description). one v.inode m)) is in
    omega arith

pub holders_moved : (k : Kernel) (d place : ℕ) (it : Description) (e : ℕ) → holders (with_offset d place it k) e ≡ holders k e
unfolding holders
holders_moved k d place it e = refl
