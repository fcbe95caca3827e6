-- Directories stay a tree.
use Rattle.std.proofs.Common.{◌≡◌, ◌≢◌, ℕ, ◌+◌, ◌≤◌, ◌<◌, Bool, true, false, cond, List, [], ◌∷◌, ◌++◌, eq-eqb, Option, Some, None, refl, sym, ap, subst, ◌∙◌, arith, inl, inr}
use Rattle.std.specs.Ordering.{eq_by_cmp, is_eq}
use Rattle.std.specs.Cmp.{tied_itself}
use Rattle.std.specs.Cmp.Lexicographic.{nat_list_cmp_total}
use Rattle.model.specs.FiniteMap.{FinMap, get, insert, remove, get-insert, get-remove}
use Rattle.std.proofs.lemmas.Bool.{cases_eq}
use Rattle.model.specs.State.{Name, name_cmp, A_directory, Kernel, Inode, kind, names_of, kind_of, links}
use Rattle.model.specs.Changes.{set_inode, set_name, clear_name}
use Rattle.model.specs.Changes.{Replaced, Over_nothing, Over_file, Over_directory}
use Rattle.call_laws.specs.Fits.{CanBeReplaced}
use Rattle.call_laws.specs.WellFormed.{CanBeLinked, IsRooted, Leads, WellFormed}
use Rattle.model.proofs.Laws.{name_exact, tie}
use Rattle.call_laws.proofs.edits.Names.{has_names, one, counted, links_named, links_unnamed, named_counted}
use Rattle.call_laws.proofs.edits.Contents.{HasBytes}
use Rattle.call_laws.proofs.edits.NamesAlike.{IsNew, kept_kind}
use Rattle.call_laws.proofs.edits.InodeMarks.{linked_is_other, not_counted, names_apart}
use Rattle.call_laws.proofs.Maps.{not_none, some_same, true_is_false, none_by_keys}
use Rattle.call_laws.proofs.edits.NamesWell.{has_names_in, same_links}

-- the other names, after one comes or goes
pub set_other : (k : Kernel) (d : ℕ) (x : Name) (n : ℕ) → kind_of k d ≡ Some A_directory → (a : ℕ) (y : Name) → (a ≡ d → y ≢ x) → get (names_of (set_name d x n k) a) y ≡ get (names_of k a) y
set_other k d x n is a y h =
    elim (cases_eq a d) [
      | inl same ↦ ap (λ a. get (names_of (set_name d x n k) a) y) same ∙ ap (λ (ns : FinMap name_cmp ℕ). get ns y) (has_names k d (insert (names_of k d) x n) is).here
          ∙ get-insert nat_list_cmp_total (names_of k d) x n y ∙ ap (λ b. cond b (Some n) (get (names_of k d) y)) (names_apart y x (h same)) ∙ ap (λ a. get (names_of k a) y) (sym same)
      | inr away ↦ ap (λ (ns : FinMap name_cmp ℕ). get ns y) ((has_names k d (insert (names_of k d) x n) is).there a away)
    ]

pub set_here : (k : Kernel) (d : ℕ) (x : Name) (n : ℕ) → kind_of k d ≡ Some A_directory → get (names_of (set_name d x n k) d) x ≡ Some n
set_here k d x n is = ap (λ (ns : FinMap name_cmp ℕ). get ns x) (has_names k d (insert (names_of k d) x n) is).here
    ∙ get-insert nat_list_cmp_total (names_of k d) x n x ∙ ap (λ r. cond (is_eq r) (Some n) (get (names_of k d) x)) (tied_itself nat_list_cmp_total x)

pub clear_other : (k : Kernel) (d : ℕ) (x : Name) → kind_of k d ≡ Some A_directory → (a : ℕ) (y : Name) → (a ≡ d → y ≢ x) → get (names_of (clear_name d x k) a) y ≡ get (names_of k a) y
clear_other k d x is a y h =
    elim (cases_eq a d) [
      | inl same ↦ ap (λ a. get (names_of (clear_name d x k) a) y) same ∙ ap (λ (ns : FinMap name_cmp ℕ). get ns y) (has_names k d (remove (names_of k d) x) is).here
          ∙ get-remove nat_list_cmp_total (names_of k d) x y ∙ ap (λ b. cond b None (get (names_of k d) y)) (names_apart y x (h same)) ∙ ap (λ a. get (names_of k a) y) (sym same)
      | inr away ↦ ap (λ (ns : FinMap name_cmp ℕ). get ns y) ((has_names k d (remove (names_of k d) x) is).there a away)
    ]

-- one name of one directory, or another
pub place_or_other : (P : Type 0) (a d : ℕ) (y x : Name) → (a ≡ d → y ≡ x → P) → ((a ≡ d → y ≢ x) → P) → P
place_or_other P a d y x f g = elim (cases_eq a d) [
  | inl same ↦ by_test (eq_by_cmp name_cmp y x) refl same
  | inr away ↦ g (λ same. absurd (away same))
]
  where
    by_test : (b : Bool) → eq_by_cmp name_cmp y x ≡ b → a ≡ d → P
    by_test true e same = f same (name_exact y x (tie (name_cmp y x) e))
    by_test false e same = g (λ _ names. true_is_false (sym (ap is_eq (tied_itself nat_list_cmp_total x)) ∙ ap (λ y. eq_by_cmp name_cmp y x) (sym names) ∙ e))

-- each directory that has a name, and the root, has a path from the root
pub record HasPaths (k : Kernel) : Type 0 where
  pub leads : (d : ℕ) → IsRooted k d → (path : List Name) × Leads k k.root path d

-- paths
pub on_path : (k after : Kernel) (b : ℕ) → ((a : ℕ) (x : Name) (m : ℕ) (rest : List Name) → get (names_of k a) x ≡ Some m → Leads k m rest b → get (names_of after a) x ≡ Some m) → (a : ℕ) (path : List Name) → Leads k a path b → Leads after a path b
on_path k after b step a [] h = h
on_path k after b step a (x ∷ xs) h = (h.0, step a x h.0 xs h.1 h.2, on_path k after b step h.0 xs h.2)

pub one_more : (k : Kernel) (a b m : ℕ) (x : Name) (path : List Name) → Leads k a path b → get (names_of k b) x ≡ Some m → Leads k a (path ++ (x ∷ [])) m
one_more k a b m x [] h e = (m, ap (λ a. get (names_of k a) x) h ∙ e, refl)
one_more k a b m x (y ∷ ys) h e = (h.0, h.1, one_more k h.0 b m x ys h.2 e)

pub both_paths : (k : Kernel) (a b c : ℕ) (path more : List Name) → Leads k a path b → Leads k b more c → Leads k a (path ++ more) c
both_paths k a b c [] more h g = subst (λ a. Leads k a more c) (sym h) g
both_paths k a b c (x ∷ xs) more h g = (h.0, h.1, both_paths k h.0 b c xs more h.2 g)

-- from what has no names a path leads nowhere else
from_bare : (k : Kernel) (m b : ℕ) (rest : List Name) → ((y : Name) (t : ℕ) → get (names_of k m) y ≢ Some t) → Leads k m rest b → m ≡ b
from_bare k m b [] bare h = h
from_bare k m b (y ∷ ys) bare h = absurd (bare y h.0 h.1)

pub same_tree : (k after : Kernel) → after.root ≡ k.root → ((t : ℕ) → kind_of after t ≡ kind_of k t) → ((t : ℕ) → names_of after t ≡ names_of k t) → ((t : ℕ) → links after t ≡ links k t) → HasPaths k → HasPaths after
same_tree k after root kinds names same tree = record {
  leads = λ b r.
      let path = tree.leads b (record { directory = sym (kinds b) ∙ r.directory; rooted = λ none. r.rooted (same b ∙ none) ∙ root }) in
      (path.0, subst (λ a. Leads after a path.0 b) (sym root) (on_path k after b (λ a x m rest e _. ap (λ (ns : FinMap name_cmp ℕ). get ns x) (names a) ∙ e) k.root path.0 path.1));
}

-- a name that comes where none was
free_step : (k : Kernel) (d : ℕ) (x : Name) (n : ℕ) → kind_of k d ≡ Some A_directory → get (names_of k d) x ≡ None → (a : ℕ) (y : Name) (m : ℕ) → get (names_of k a) y ≡ Some m → get (names_of (set_name d x n k) a) y ≡ Some m
free_step k d x n is free a y m e = set_other k d x n is a y (λ same names. not_none m (sym e ∙ ap (λ a. get (names_of k a) y) same ∙ ap (get (names_of k d)) names ∙ free)) ∙ e

pub made_tree : (k : Kernel) (d : ℕ) (x : Name) (n : ℕ) (new : Inode) → get k.inodes n ≡ None → IsNew k (set_inode n new k) n (kind new) → IsRooted k d → get (names_of k d) x ≡ None → HasPaths k → HasPaths (set_name d x n (set_inode n new k))
made_tree k d x n new none f rooted free tree =
    let mid : Kernel = set_inode n new k in
    let after : Kernel = set_name d x n mid in
    let is : kind_of mid d ≡ Some A_directory = kept_kind k n d new A_directory none rooted.directory in
    let free_too : get (names_of mid d) x ≡ None = ap (λ (ns : FinMap name_cmp ℕ). get ns x) (f.names d) ∙ free in
    let count : (t : ℕ) → links after t ≡ links k t + one n t = λ t. same_links mid d x n t is free_too ∙ ap (λ l. l + one n t) (f.links t) in
    let step : (a : ℕ) (y : Name) (m : ℕ) → get (names_of k a) y ≡ Some m → get (names_of after a) y ≡ Some m = λ a y m e. free_step mid d x n is free_too a y m (ap (λ (ns : FinMap name_cmp ℕ). get ns y) (f.names a) ∙ e) in
    record {
      leads = λ b r. elim (cases_eq b n) [
        | inl same ↦
            let path = tree.leads d rooted in
            (path.0 ++ (x ∷ []), subst (Leads after k.root (path.0 ++ (x ∷ []))) (sym same) (one_more after k.root d n x path.0 (on_path k after d (λ a y m rest e _. step a y m e) k.root path.0 path.1) (set_here mid d x n is)))
        | inr away ↦
            let path = tree.leads b (record {
              directory = sym (f.there b away) ∙ sym ((has_names mid d (insert (names_of mid d) x n) is).kinds b) ∙ r.directory;
              rooted = λ zero. r.rooted (let c : links after b ≡ links k b + one n b = count b in let z : one n b ≡ 0 = not_counted n b (λ e. away (sym e)) in let zero' : links k b ≡ 0 = zero in omega arith);
            }) in
            (path.0, on_path k after b (λ a y m rest e _. step a y m e) k.root path.0 path.1)
      ];
    }

pub linked_tree : (k : Kernel) (d : ℕ) (x : Name) (n : ℕ) → IsRooted k d → get (names_of k d) x ≡ None → CanBeLinked (kind_of k n) → HasPaths k → HasPaths (set_name d x n k)
linked_tree k d x n rooted free linked tree = record {
  leads = λ b r.
      let is : kind_of k b ≡ Some A_directory = sym ((has_names k d (insert (names_of k d) x n) rooted.directory).kinds b) ∙ r.directory in
      let path = tree.leads b (record {
        directory = is;
        rooted = λ zero. r.rooted (let c : links (set_name d x n k) b ≡ links k b + one n b = same_links k d x n b rooted.directory free in let z : one n b ≡ 0 = not_counted n b (λ e. linked_is_other k b n is linked (sym e)) in let zero' : links k b ≡ 0 = zero in omega arith);
      }) in
      (path.0, on_path k (set_name d x n k) b (λ a y m rest e _. free_step k d x n rooted.directory free a y m e) k.root path.0 path.1);
}

-- a name that goes, of what has no names in it
pub unnamed_tree : (k : Kernel) (d : ℕ) (x : Name) (n : ℕ) → WellFormed k → kind_of k d ≡ Some A_directory → get (names_of k d) x ≡ Some n → ((y : Name) (m : ℕ) → get (names_of k n) y ≢ Some m) → (kind_of k n ≡ Some A_directory → links k n ≤ 1) → HasPaths k → HasPaths (clear_name d x k)
unnamed_tree k d x n well is gives bare once tree =
    let after : Kernel = clear_name d x k in
    let count : (t : ℕ) → links after t + one n t ≡ links k t = λ t. ap (λ c. links after t + c) (sym (ap (counted t) gives)) ∙ links_unnamed k d x is t in
    record {
      leads = λ b r.
          let dir : kind_of k b ≡ Some A_directory = sym ((has_names k d (remove (names_of k d) x) is).kinds b) ∙ r.directory in
          let other : n ≢ b = λ same. unrooted b r same (count b) dir in
          let path = tree.leads b (record { directory = dir; rooted = λ zero. r.rooted (let c : links after b + one n b ≡ links k b = count b in let zero' : links k b ≡ 0 = zero in omega arith) }) in (
            path.0,
            on_path k after b (λ a y m rest e goes. clear_other k d x is a y (λ same names. other (some_same n m (sym gives ∙ ap (get (names_of k d)) (sym names) ∙ ap (λ a. get (names_of k a) y) (sym same) ∙ e) ∙ from_bare k m b rest
                (λ z t g. bare z t (ap (λ m. get (names_of k m) z) (some_same n m (sym gives ∙ ap (get (names_of k d)) (sym names) ∙ ap (λ a. get (names_of k a) y) (sym same) ∙ e)) ∙ g)) goes)) ∙ e) k.root path.0 path.1,
          );
    }
  where
    unrooted : (b : ℕ) → IsRooted (clear_name d x k) b → n ≡ b → links (clear_name d x k) b + one n b ≡ links k b → kind_of k b ≡ Some A_directory → ⊥
    unrooted b r same c dir =
        let l : links k b ≤ 1 = subst (λ t. links k t ≤ 1) same (once (ap (kind_of k) same ∙ dir)) in
        let here : one n b ≡ 1 = ap (one n) (sym same) ∙ ap (λ b. cond b 1 0) (eq-eqb n n refl) in
        let none : links (clear_name d x k) b ≡ 0 = omega arith in
        let root : b ≡ k.root = r.rooted none in
        let zero : links k k.root ≡ 0 = well.root_unnamed in
        let some : 0 < links k n = named_counted k d x n gives in
        let same_count : links k n ≡ links k k.root = ap (links k) (same ∙ root) in
        absurd (omega arith)

pub bytes_tree : (k : Kernel) (n : ℕ) (new : Inode) → HasBytes k (set_inode n new k) → HasPaths k → HasPaths (set_inode n new k)
bytes_tree k n new has = same_tree k (set_inode n new k) refl has.kinds has.names has.links

-- A path after a move: it stays, or what moved leads on from its last place.
module _ (k : Kernel) (d : ℕ) (x : Name) (e : ℕ) (y : Name) (n : ℕ) (old : Option ℕ) (is : kind_of k d ≡ Some A_directory) (is_too : kind_of k e ≡ Some A_directory) (gives : get (names_of k d) x ≡ Some n) (was : get (names_of k e) y ≡ old) where
  mid : Kernel
  mid = clear_name d x k

  after : Kernel
  after = set_name e y n mid

  After : (Type 0) → ℕ → List Name → ℕ → Type 0
  After P a path b = (Leads after a path b → P) → ((rest : List Name) → Leads k n rest b → Leads after n rest b → P) → P

  follows : (P : Type 0) (b : ℕ) → ((m : ℕ) → old ≡ Some m → (rest : List Name) → Leads k m rest b → P) → (a : ℕ) (path : List Name) → Leads k a path b → After P a path b
  unfolding After mid after
  follows P b not_old a [] h f g = f h
  follows P b not_old a (z ∷ zs) h f g =
      follows P b not_old h.0 zs h.2
      (λ rest. place_or_other P a d z x
      (λ same names.
      let moved : h.0 ≡ n = some_same h.0 n (sym h.1 ∙ ap (λ a. get (names_of k a) z) same ∙ ap (get (names_of k d)) names ∙ gives) in
      g zs (subst (λ m. Leads k m zs b) moved h.2) (subst (λ m. Leads (set_name e y n (clear_name d x k)) m zs b) moved rest))
      (λ not_from. place_or_other P a e z y
      (λ same names. not_old h.0 (sym was ∙ ap (get (names_of k e)) (sym names) ∙ ap (λ a. get (names_of k a) z) (sym same) ∙ h.1) zs h.2)
      (λ not_to. f (h.0, set_other (clear_name d x k) e y n ((has_names k d (remove (names_of k d) x) is).kinds e ∙ is_too) a z not_to ∙ clear_other k d x is a z not_from ∙ h.1, rest))))
      g

old_bare : (k : Kernel) (n m : ℕ) (old : Option ℕ) (replaced : Replaced) → CanBeReplaced k n old replaced → old ≡ Some m → (y : Name) (t : ℕ) → get (names_of k m) y ≢ Some t
old_bare k n m None replaced can e y t g = absurd cc
old_bare k n m (Some r) (Over_directory s) can e y t g = not_none t (sym g ∙ ap (λ m. get (names_of k m) y) (sym (some_same r m e)) ∙ none_by_keys nat_list_cmp_total (names_of k r) can.3 y)
old_bare k n m (Some r) (Over_file s) can e y t g = linked_is_other k m r (has_names_in k m y t g) can.1 (sym (some_same r m e))
old_bare k n m (Some r) Over_nothing can e y t g = absurd can

pub moved_tree : (k : Kernel) (d : ℕ) (x : Name) (e : ℕ) (y : Name) (n : ℕ) (old : Option ℕ) (replaced : Replaced) → WellFormed k → kind_of k d ≡ Some A_directory → IsRooted k e → get (names_of k d) x ≡ Some n
    → get (names_of k e) y ≡ old → get (names_of (clear_name d x k) e) y ≡ old → CanBeReplaced k n old replaced → ((path : List Name) → Leads k n path e → ⊥) → HasPaths k → HasPaths (set_name e y n (clear_name d x k))
unfolding After mid after
moved_tree k d x e y n old replaced well is onto gives was was_too can no_ring tree = record {
  leads = λ b r.
      let dir : kind_of k b ≡ Some A_directory = sym (mid_kinds b) ∙ sym ((has_names moved_from e (insert (names_of moved_from e) y n) mid_is).kinds b) ∙ r.directory in
      let path = tree.leads b (record { directory = dir; rooted = λ zero. r.rooted (let c : links moved_to b + counted b old ≡ links k b = count b in let zero' : links k b ≡ 0 = zero in omega arith) }) in
      follows k d x e y n old is onto.directory gives was ((p : List Name) × Leads moved_to k.root p b) b
      (λ m o rest goes. absurd (gone b r m o (from_bare k m b rest (old_bare k n m old replaced can o) goes) dir))
      k.root path.0 path.1
      (λ h. (path.0, h))
      (λ rest _ h.
      let way = tree.leads e onto in
      follows k d x e y n old is onto.directory gives was ((p : List Name) × Leads moved_to k.root p b) e
      (λ m o rest' goes. absurd (old_away m o (from_bare k m e rest' (old_bare k n m old replaced can o) goes)))
      k.root way.0 way.1
      (λ to. ((way.0 ++ (y ∷ [])) ++ rest, both_paths moved_to k.root n b (way.0 ++ (y ∷ [])) rest (one_more moved_to k.root e n y way.0 to (set_here moved_from e y n mid_is)) h))
      (λ rest' back _. absurd (no_ring rest' back)));
}
  where
    moved_from : Kernel
    moved_from = clear_name d x k

    moved_to : Kernel
    moved_to = set_name e y n (clear_name d x k)

    mid_kinds : (t : ℕ) → kind_of (clear_name d x k) t ≡ kind_of k t
    mid_kinds = (has_names k d (remove (names_of k d) x) is).kinds

    mid_is : kind_of (clear_name d x k) e ≡ Some A_directory
    mid_is = mid_kinds e ∙ onto.directory

    count : (t : ℕ) → links (set_name e y n (clear_name d x k)) t + counted t old ≡ links k t
    count t =
        let left : links (clear_name d x k) t + one n t ≡ links k t = ap (λ c. links (clear_name d x k) t + c) (sym (ap (counted t) gives)) ∙ links_unnamed k d x is t in
        let come : links (set_name e y n (clear_name d x k)) t + counted t old ≡ links (clear_name d x k) t + one n t = ap (λ c. links (set_name e y n (clear_name d x k)) t + c) (sym (ap (counted t) was_too)) ∙ links_named (clear_name d x k) e y n mid_is t in
        omega arith

    old_away : (m : ℕ) → old ≡ Some m → m ≢ e
    old_away m o same = old_bare k n m old replaced can o y m (ap (λ m. get (names_of k m) y) same ∙ was ∙ o)

    gone : (b : ℕ) → IsRooted (set_name e y n (clear_name d x k)) b → (m : ℕ) → old ≡ Some m → m ≡ b → kind_of k b ≡ Some A_directory → ⊥
    gone b r m o same dir =
        let l : links k b ≤ 1 = well.one_name b dir in
        let here : counted b old ≡ 1 = ap (counted b) (o ∙ ap Some same) ∙ ap (λ b. cond b 1 0) (eq-eqb b b refl) in
        let c : links (set_name e y n (clear_name d x k)) b + counted b old ≡ links k b = count b in
        let none : links (set_name e y n (clear_name d x k)) b ≡ 0 = omega arith in
        let root : b ≡ k.root = r.rooted none in
        let zero : links k k.root ≡ 0 = well.root_unnamed in
        let same_count : links k b ≡ links k k.root = ap (links k) root in
        absurd (omega arith)

-- a new inode that is no directory
pub new_tree : (k : Kernel) (n : ℕ) (new : Inode) → IsNew k (set_inode n new k) n (kind new) → kind new ≢ A_directory → HasPaths k → HasPaths (set_inode n new k)
new_tree k n new f other tree = record {
  leads = λ b r. elim (cases_eq b n) [
    | inl same ↦ absurd (other (some_same (kind new) A_directory (sym f.here ∙ ap (kind_of (set_inode n new k)) (sym same) ∙ r.directory)))
    | inr away ↦
        let path = tree.leads b (record { directory = sym (f.there b away) ∙ r.directory; rooted = λ none. r.rooted (f.links b ∙ none) }) in
        (path.0, on_path k (set_inode n new k) b (λ a x m rest e _. ap (λ (ns : FinMap name_cmp ℕ). get ns x) (f.names a) ∙ e) k.root path.0 path.1)
  ];
}
