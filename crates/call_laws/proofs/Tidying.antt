-- What tidying leaves: what the root, a name or a held description reaches, and what a descriptor gives.
use Rattle.std.proofs.Common.{◌≡◌, ℕ, suc, zero, ◌+◌, ◌<◌, Bool, true, false, cond, ◌||◌, Option, Some, None, sum_by, count_by, refl, sym, ap, ◌∙◌, arith, ◌==◌, eq-eqb, nat_lt, lt-ltb, nat_cmp}
use Rattle.std.proofs.lemmas.Bool.{or_left, or_right}
use Rattle.std.specs.Cmp.{nat_cmp_total}
use Rattle.model.specs.FiniteMap.{FinMap, get, remove, values, nat_cmp-IsAntisymmetric}
use Rattle.model.specs.State.{Name, Kernel, Inode, Description, Process, names_of, links}
use Rattle.model.specs.Changes.{is_reached, is_held, holders, openings, or_new, without_descriptions, tidy}
use Rattle.model.proofs.Laws.{weight, sum-remove}
use Rattle.call_laws.specs.Fits.{table_of}
use Rattle.call_laws.proofs.Maps.{sum-empty, get_retained}
use Rattle.call_laws.proofs.edits.Names.{named_counted}

-- whether tidying leaves inode n
abbrev pub reached : Kernel → ℕ → Bool
reached k n = is_reached (without_descriptions k) n

pub either_of : (x y z : Bool) (P : Type 0) → (x || (y || z)) ≡ true → (x ≡ true → P) → (y ≡ true → P) → (z ≡ true → P) → P
either_of true y z P e f g h = f refl
either_of false true z P e f g h = g refl
either_of false false z P e f g h = h e

-- the root is reached, each directory that has a name, and what a name gives
pub root_reached : (k : Kernel) → reached k k.root ≡ true
root_reached k = or_left _ _ (eq-eqb k.root k.root refl)

pub rooted_reached : (k : Kernel) (n : ℕ) → (links k n ≡ 0 → n ≡ k.root) → reached k n ≡ true
unfolding links
rooted_reached k n h = by_count (links k n) refl
  where
    by_count : (count : ℕ) → links k n ≡ count → reached k n ≡ true
    by_count zero e = or_left (n == k.root) _ (eq-eqb n k.root (h e))
    by_count (suc count) e = or_right (n == k.root) _ (or_left _ _ (lt-ltb 0 (links k n) (omega arith)))

pub named_reached : (k : Kernel) (d : ℕ) (x : Name) (n : ℕ) → get (names_of k d) x ≡ Some n → reached k n ≡ true
named_reached k d x n e = rooted_reached k n (λ none. absurd (let some : 0 < links k n = named_counted k d x n e in omega arith))

pub get_tidy : (k : Kernel) (n : ℕ) → get (tidy k).inodes n ≡ cond (reached k n) (get k.inodes n) None
unfolding tidy
get_tidy k n = get_retained k.inodes (is_reached (without_descriptions k)) n

-- an answer about a reached inode is the same
pub at_reached : {B : Type 0} (f : Option Inode → B) (k : Kernel) (n : ℕ) → reached k n ≡ true → f (get (tidy k).inodes n) ≡ f (get k.inodes n)
at_reached f k n e = ap f (get_tidy k n ∙ ap (λ b. cond b (get k.inodes n) None) e)

pub rights_reached : (k : Kernel) (n : ℕ) → reached k n ≡ true → get (tidy k).rights n ≡ get k.rights n
unfolding tidy
rights_reached k n e = get_retained k.rights (is_reached (without_descriptions k)) n ∙ ap (λ b. cond b (get k.rights n) None) e

-- how many slots of a table name d
abbrev pub named_in : ℕ → FinMap nat_cmp ℕ → ℕ
named_in d table = count_by (λ e. e == d) (values table)

pub tables_weight : (d : ℕ) (x : Option Process) → weight (λ process. named_in d process.table) x ≡ named_in d (or_new x).table
tables_weight d (Some process) = refl
tables_weight d None = sym (sum-empty nat_cmp (λ e. cond (e == d) 1 0))

-- a slot that gives d is counted
in_table : (table : FinMap nat_cmp ℕ) (f d : ℕ) → get table f ≡ Some d → 0 < named_in d table
in_table table f d e =
    let here : weight (λ (v : ℕ). cond (v == d) 1 0) (get table f) + named_in d (remove table f) ≡ named_in d table = sum-remove nat_cmp_total nat_cmp-IsAntisymmetric (λ v. cond (v == d) 1 0) table f in
    let one : weight (λ (v : ℕ). cond (v == d) 1 0) (get table f) ≡ 1 = ap (weight (λ v. cond (v == d) 1 0)) e ∙ ap (λ b. cond b 1 0) (eq-eqb d d refl) in
    omega arith

pub held_counted : (k : Kernel) (pid f d : ℕ) → get (table_of k pid) f ≡ Some d → 0 < holders k d
unfolding holders
held_counted k pid f d e =
    let all : weight (λ process. named_in d process.table) (get k.processes pid) + sum_by (λ process. named_in d process.table) (values (remove k.processes pid)) ≡ holders k d = sum-remove nat_cmp_total nat_cmp-IsAntisymmetric (λ process. named_in d process.table) k.processes pid in
    let part : weight (λ process. named_in d process.table) (get k.processes pid) ≡ named_in d (table_of k pid) = tables_weight d (get k.processes pid) in
    let here : 0 < named_in d (table_of k pid) = in_table (table_of k pid) f d e in
    omega arith

-- what a descriptor gives is held
pub held_by : (k : Kernel) (pid f d : ℕ) → get (table_of k pid) f ≡ Some d → is_held k d ≡ true
held_by k pid f d e = lt-ltb 0 (holders k d) (held_counted k pid f d e)

pub held_stays : (k : Kernel) (d : ℕ) → is_held k d ≡ true → get (tidy k).descriptions d ≡ get k.descriptions d
unfolding tidy
held_stays k d held = get_retained k.descriptions (is_held k) d ∙ ap (λ b. cond b (get k.descriptions d) None) held

-- the inode of a held description is reached
pub open_reached : (k : Kernel) (d : ℕ) (it : Description) → is_held k d ≡ true → get k.descriptions d ≡ Some it → reached k it.inode ≡ true
unfolding openings
open_reached k d it h e =
    let ds : FinMap nat_cmp Description = (without_descriptions k).descriptions in
    let kept : get ds d ≡ Some it = get_retained k.descriptions (is_held k) d ∙ ap (λ b. cond b (get k.descriptions d) None) h ∙ e in
    let all : weight (λ (v : Description). cond (v.inode == it.inode) 1 0) (get ds d) + sum_by (λ (v : Description). cond (v.inode == it.inode) 1 0) (values (remove ds d)) ≡ openings (without_descriptions k) it.inode =
    sum-remove nat_cmp_total nat_cmp-IsAntisymmetric (λ (v : Description). cond (v.inode == it.inode) 1 0) ds d in
    let one : weight (λ (v : Description). cond (v.inode == it.inode) 1 0) (get ds d) ≡ 1 = ap (weight (λ v. cond (v.inode == it.inode) 1 0)) kept ∙ ap (λ b. cond b 1 0) (eq-eqb it.inode it.inode refl) in
    let some : 0 < openings (without_descriptions k) it.inode = omega arith in
    or_right (it.inode == k.root) _ (or_right (nat_lt 0 (links (without_descriptions k) it.inode)) _ (lt-ltb 0 (openings (without_descriptions k) it.inode) some))
