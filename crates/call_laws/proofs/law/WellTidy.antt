-- What tidying keeps: counts of names and ends, a process's own part, and that the state is well formed.
use Rattle.std.proofs.Common.{◌≡◌, ℕ, ◌≤◌, Bool, true, false, cond, Option, Some, None, count_by, refl, sym, ap, subst, ◌∙◌, arith, ◌==◌}
use Rattle.std.specs.Cmp.{nat_cmp_total}
use Rattle.std.specs.Cmp.Lexicographic.{nat_list_cmp_total}
use Rattle.model.specs.FiniteMap.{FinMap, get, values}
use Rattle.model.specs.State.{Name, name_cmp, Kind, A_directory, Kernel, Description, kind, mapped, names_of, names_of_inode, kind_of, links, ends, is_end}
use Rattle.model.specs.Changes.{is_held, or_new, tidy}
use Rattle.model.specs.Calls.{Call, slot_of, own, birth_of}
use Rattle.model.specs.Steps.{IsNowhere}
use Rattle.model.proofs.Laws.{sum-retain_keys, given_in}
use Rattle.call_laws.specs.WellFormed.{CanBeNamed, CanBeOpened, IsRooted, WellFormed}
use Rattle.call_laws.specs.Fits.{OwnAlike}
use Rattle.call_laws.proofs.Maps.{not_none, true_is_false, empty_gives, sum-zero, sum-alike, retained_some, retained_none}
use Rattle.call_laws.proofs.Tidying.{reached, root_reached, rooted_reached, named_reached, get_tidy, at_reached, held_by, held_stays, open_reached}
use Rattle.call_laws.proofs.law.OwnTold.{own_of_alike}
use Rattle.call_laws.proofs.edits.Tree.{on_path}

-- what has a name in it is reached
holder_reached : (k : Kernel) → WellFormed k → (d : ℕ) (x : Name) (n : ℕ) → get (names_of k d) x ≡ Some n → reached k d ≡ true
holder_reached k well d x n e = rooted_reached k d (well.parents d x n e)

pub links_tidy : (k : Kernel) → WellFormed k → (n : ℕ) → links (tidy k) n ≡ links k n
unfolding tidy links
links_tidy k well n = sum-retain_keys nat_cmp_total (λ inode. given_in n (names_of_inode (Some inode))) k.inodes (reached k) (λ d inode e away.
    sum-zero nat_list_cmp_total (λ v. cond (v == n) 1 0) (names_of_inode (Some inode)) (λ x m is.
    absurd (true_is_false (sym (holder_reached k well d x m (ap (λ o. get (names_of_inode o) x) e ∙ is)) ∙ away))))

pub ends_tidy : (k : Kernel) (p : ℕ) (mode : Description → Bool) → ends (tidy k) p mode ≡ ends k p mode
unfolding ends tidy
ends_tidy k p mode =
    sum-alike nat_cmp_total (λ process. count_by (λ d. is_end mode p (get (tidy k).descriptions d)) (values process.table)) (λ process. count_by (λ d. is_end mode p (get k.descriptions d)) (values process.table)) k.processes (λ pid process e.
    sum-alike nat_cmp_total (λ d. cond (is_end mode p (get (tidy k).descriptions d)) 1 0) (λ d. cond (is_end mode p (get k.descriptions d)) 1 0) process.table (λ f d is.
    ap (λ o. cond (is_end mode p o) 1 0) (held_stays k d (held_by k pid f d (ap (λ o. get (or_new o).table f) e ∙ is)))))

-- what a process sees of itself stays
pub own_tidied : (k : Kernel) (pid : ℕ) → OwnAlike k (tidy k) pid
unfolding tidy
own_tidied k pid = record {
  root = refl;
  bounds = refl;
  table = refl;
  fixed = λ f d is. ap (mapped (λ it. slot_of (tidy k) d (Some it))) (held_stays k d (held_by k pid f d is)) ∙ by_description d (held_by k pid f d is) (get k.descriptions d) refl;
}
  where
    by_description : (d : ℕ) → is_held k d ≡ true → (x : Option Description) → get k.descriptions d ≡ x → mapped (λ it. slot_of (tidy k) d (Some it)) x ≡ mapped (λ it. slot_of k d (Some it)) x
    by_description d held None e = refl
    by_description d held (Some it) e = ap (λ what. Some (record { description = d; inode = it.inode; kind = what; reading = it.reading; writing = it.writing; appending = it.appending })) (at_reached (mapped kind) k it.inode (open_reached k d it held e))

birth_tidy : (k : Kernel) (pid : ℕ) (call : Call) → birth_of (tidy k) pid call ≡ birth_of k pid call
unfolding tidy
birth_tidy k pid call = refl

pub own_tidy : (k : Kernel) (pid : ℕ) (call : Call) → own (tidy k) pid call ≡ own k pid call
own_tidy k pid call = own_of_alike k (tidy k) pid call (own_tidied k pid) (birth_tidy k pid call)

-- what is left was there
pub names_left : (k : Kernel) (d : ℕ) (x : Name) (n : ℕ) → get (names_of (tidy k) d) x ≡ Some n → get (names_of k d) x ≡ Some n
names_left k d x n e = by_test (reached k d) refl
  where
    by_test : (b : Bool) → reached k d ≡ b → get (names_of k d) x ≡ Some n
    by_test true is = ap (λ (ns : FinMap name_cmp ℕ). get ns x) (sym (at_reached names_of_inode k d is)) ∙ e
    by_test false is = absurd (empty_gives name_cmp x n (sym (ap (λ o. get (names_of_inode o) x) (get_tidy k d ∙ ap (λ b. cond b (get k.inodes d) None) is)) ∙ e))

kind_left : (k : Kernel) (d : ℕ) (what : Kind) → kind_of (tidy k) d ≡ Some what → kind_of k d ≡ Some what
kind_left k d what e = by_test (reached k d) refl
  where
    by_test : (b : Bool) → reached k d ≡ b → kind_of k d ≡ Some what
    by_test true is = sym (at_reached (mapped kind) k d is) ∙ e
    by_test false is = absurd (not_none what (sym e ∙ ap (mapped kind) (get_tidy k d ∙ ap (λ b. cond b (get k.inodes d) None) is)))

root_tidy : (k : Kernel) → (tidy k).root ≡ k.root
unfolding tidy
root_tidy k = refl

rooted_left : (k : Kernel) → WellFormed k → (d : ℕ) → IsRooted (tidy k) d → IsRooted k d
rooted_left k well d r = record { directory = kind_left k d A_directory r.directory; rooted = λ none. r.rooted (links_tidy k well d ∙ none) ∙ root_tidy k }

pub well_tidy : (k : Kernel) → WellFormed k → WellFormed (tidy k)
unfolding tidy
well_tidy k well = record {
  root = at_reached (mapped kind) k k.root (root_reached k) ∙ well.root;
  root_unnamed = links_tidy k well k.root ∙ well.root_unnamed;
  names = λ d x n e. let old = names_left k d x n e in subst CanBeNamed (sym (at_reached (mapped kind) k n (named_reached k d x n old))) (well.names d x n old);
  one_name = λ d e. let l : links k d ≤ 1 = well.one_name d (kind_left k d A_directory e) in let same : links (tidy k) d ≡ links k d = links_tidy k well d in omega arith;
  parents = λ d x n e none. well.parents d x n (names_left k d x n e) (sym (links_tidy k well d) ∙ none);
  leads = λ d r.
      let path = well.leads d (rooted_left k well d r) in
      (path.0, on_path k (tidy k) d (λ a x m rest e _. ap (λ (ns : FinMap name_cmp ℕ). get ns x) (at_reached names_of_inode k a (holder_reached k well a x m e)) ∙ e) k.root path.0 path.1);
  slots = λ pid f d e. let there = well.slots pid f d e in (there.0, held_stays k d (held_by k pid f d e) ∙ there.1);
  low = well.low;
  descriptions = λ d it e.
      let old = retained_some k.descriptions (is_held k) d it e in
      subst CanBeOpened (sym (at_reached (mapped kind) k it.inode (open_reached k d it old.0 old.1))) (well.descriptions d it old.1);
  rights = λ n set is. let old = retained_some k.rights (reached k) n set is in λ none. well.rights n set old.1 (sym (at_reached (mapped kind) k n old.0) ∙ none);
  counted = well.counted;
}

-- a number that is nowhere stays so
pub nowhere_tidy : (k : Kernel) (n : ℕ) → IsNowhere k n → IsNowhere (tidy k) n
unfolding tidy
nowhere_tidy k n h = record {
  inode = retained_none k.inodes (reached k) n h.inode;
  rights = retained_none k.rights (reached k) n h.rights;
  description = retained_none k.descriptions (is_held k) n h.description;
  unnamed = λ d x e. h.unnamed d x (names_left k d x n e);
  unheld = h.unheld;
}
