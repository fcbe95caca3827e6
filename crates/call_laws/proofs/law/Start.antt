-- The state before any entry is well formed, and tidying leaves it as it is.
use Rattle.std.proofs.Common.{◌≡◌, ◌≢◌, ℕ, suc, ◌+◌, ◌≤◌, Bool, true, false, cond, List, [], ◌∷◌, length, Option, Some, None, is_some, refl, sym, ap, ◌∙◌, arith, nat_cmp, inl, inr}
use Rattle.std.specs.Cmp.{nat_cmp_total}
use Rattle.std.proofs.lemmas.Bool.{cases_eq, false≢true}
use Rattle.model.specs.FiniteMap.{FinMap, get, empty, insert, retain_keys, get-empty, same_map, nat_cmp-IsAntisymmetric}
use Rattle.model.specs.State.{Name, name_cmp, Kernel, Directory, Process, kind, mapped, names_of, names_of_inode, links}
use Rattle.model.specs.Changes.{is_held, tidy}
use Rattle.model.specs.Moments.{Setup, with_processes, start}
use Rattle.model.proofs.Laws.{get_same, get_other}
use Rattle.call_laws.specs.WellFormed.{WellFormed}
use Rattle.call_laws.proofs.Maps.{empty_gives, get_retained}
use Rattle.call_laws.proofs.edits.Processes.{table_in}
use Rattle.call_laws.proofs.edits.NamesWell.{none_count}
use Rattle.call_laws.proofs.Tidying.{reached, root_reached}

-- processes with empty tables, none above a number
record AreNew (m : FinMap nat_cmp Process) (made : ℕ) : Type 0 where
  empty : (pid f d : ℕ) → get (table_in (get m pid)) f ≢ Some d
  counted : (pid : ℕ) → is_some (get m pid) ≡ true → pid ≤ made

all_new : (ps : List ℕ) (made : ℕ) (m : FinMap nat_cmp Process) → AreNew m made → AreNew (with_processes made ps m) (made + length ps)
all_new [] made m h = record { empty = h.empty; counted = λ pid alive. let low : pid ≤ made = h.counted pid alive in omega arith }
all_new (p ∷ ps) made m h =
    let new : Process = record { table = empty; priority = p } in
    let next : AreNew (insert m (suc made) new) (suc made) = record {
      empty = λ pid f d is. elim (cases_eq pid (suc made)) [
        | inl same ↦ empty_gives nat_cmp f d (ap (λ x. get (table_in x) f) (sym (ap (get (insert m (suc made) new)) same ∙ get_same m (suc made) new)) ∙ is)
        | inr away ↦ h.empty pid f d (ap (λ x. get (table_in x) f) (sym (get_other m (suc made) pid new away)) ∙ is)
      ];
      counted = λ pid alive. elim (cases_eq pid (suc made)) [
        | inl same ↦ (let same' : pid ≡ suc made = same in omega arith)
        | inr away ↦ (let low : pid ≤ made = h.counted pid (ap is_some (sym (get_other m (suc made) pid new away)) ∙ alive) in omega arith)
      ];
    } in
    let rest : AreNew (with_processes (suc made) ps (insert m (suc made) new)) (suc made + length ps) = all_new ps (suc made) (insert m (suc made) new) next in
    record { empty = rest.empty; counted = λ pid alive. let low : pid ≤ suc made + length ps = rest.counted pid alive in omega arith }

start_new : (root : ℕ) (setup : Setup) → AreNew (start root setup).processes (length setup.priorities)
start_new root setup =
    let all : AreNew (with_processes 0 setup.priorities empty) (0 + length setup.priorities) = all_new setup.priorities 0 empty (record {
      empty = λ pid f d is. empty_gives nat_cmp f d (ap (λ x. get (table_in x) f) (sym (get-empty nat_cmp pid)) ∙ is);
      counted = λ pid alive. absurd (false≢true (ap is_some (sym (get-empty nat_cmp pid)) ∙ alive));
    }) in
    record { empty = all.empty; counted = λ pid alive. let low : pid ≤ 0 + length setup.priorities = all.counted pid alive in omega arith }

-- no name is there
start_unnamed : (root : ℕ) (setup : Setup) (d : ℕ) (x : Name) (n : ℕ) → get (names_of (start root setup) d) x ≢ Some n
start_unnamed root setup d x n is = elim (cases_eq d root) [
  | inl same ↦ empty_gives name_cmp x n (ap (λ o. get (names_of_inode o) x) (sym (ap (get (insert empty root (Directory empty))) same ∙ get_same empty root (Directory empty))) ∙ is)
  | inr away ↦ empty_gives name_cmp x n (ap (λ o. get (names_of_inode o) x) (sym (get_other empty root d (Directory empty) away ∙ get-empty nat_cmp d)) ∙ is)
]

pub well_start : (root : ℕ) (setup : Setup) → WellFormed (start root setup)
well_start root setup = record {
  root = ap (mapped kind) (get_same empty root (Directory empty));
  root_unnamed = unlinked root;
  names = λ d x n is. absurd (start_unnamed root setup d x n is);
  one_name = λ d is. let none : links (start root setup) d ≡ 0 = unlinked d in omega arith;
  parents = λ d x n is none. absurd (start_unnamed root setup d x n is);
  leads = λ d r. ([], sym (r.rooted (unlinked d)));
  slots = λ pid f d is. absurd ((start_new root setup).empty pid f d is);
  low = λ pid f d is. absurd ((start_new root setup).empty pid f d is);
  descriptions = λ d it is. absurd (empty_gives nat_cmp d it is);
  rights = λ n set is. absurd (empty_gives nat_cmp n set is);
  counted = (start_new root setup).counted;
}
  where
    unlinked : (d : ℕ) → links (start root setup) d ≡ 0
    unlinked d = none_count (start root setup) d (λ e x. start_unnamed root setup e x d)

none_or : {X : Type 0} (b : Bool) (x : Option X) → x ≡ None → cond b x None ≡ x
none_or true x e = refl
none_or false x e = sym e

pub tidy_start : (root : ℕ) (setup : Setup) → tidy (start root setup) ≡ start root setup
unfolding tidy
tidy_start root setup =
    let k : Kernel = start root setup in
    let descriptions : retain_keys k.descriptions (is_held k) ≡ k.descriptions = same_map nat_cmp_total nat_cmp-IsAntisymmetric _ _ (λ d. get_retained k.descriptions (is_held k) d ∙ none_or (is_held k d) (get k.descriptions d) (get-empty nat_cmp d)) in
    let rights : retain_keys k.rights (reached k) ≡ k.rights = same_map nat_cmp_total nat_cmp-IsAntisymmetric _ _ (λ n. get_retained k.rights (reached k) n ∙ none_or (reached k n) (get k.rights n) (get-empty nat_cmp n)) in
    let inodes : retain_keys k.inodes (reached k) ≡ k.inodes = same_map nat_cmp_total nat_cmp-IsAntisymmetric _ _ (λ n. get_retained k.inodes (reached k) n ∙ elim (cases_eq n root) [
      | inl same ↦ ap (λ b. cond b (get k.inodes n) None) (ap (reached k) same ∙ root_reached k)
      | inr away ↦ none_or (reached k n) (get k.inodes n) (get_other empty root n (Directory empty) away ∙ get-empty nat_cmp n)
    ]) in
    λ i. record { root = root; inodes = inodes i; rights = rights i; descriptions = descriptions i; processes = k.processes; made = k.made; bounds = k.bounds }
