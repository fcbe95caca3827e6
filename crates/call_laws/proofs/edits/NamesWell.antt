-- Names stay well formed: what names give, who has them, and how many there are.
use Rattle.std.proofs.Common.{◌≡◌, ◌≢◌, ℕ, ◌+◌, ◌≤◌, Bool, true, false, cond, Option, Some, None, refl, sym, ap, subst, ◌∙◌, arith, inl, inr, ◌==◌, eq-eqb}
use Rattle.std.specs.Ordering.{eq_by_cmp}
use Rattle.std.specs.Cmp.{nat_cmp_total}
use Rattle.std.specs.Cmp.Lexicographic.{nat_list_cmp_total}
use Rattle.model.specs.FiniteMap.{FinMap, get, insert, remove, get-insert, get-remove}
use Rattle.std.proofs.lemmas.Bool.{cases_eq}
use Rattle.model.specs.State.{Name, name_cmp, Kind, A_directory, Kernel, Inode, File, Directory, Pipe, Fixed, kind, mapped, names_of, names_of_inode, kind_of, links}
use Rattle.model.specs.Changes.{set_inode, set_name, clear_name}
use Rattle.model.specs.Changes.{Replaced, Over_nothing, Over_file, Over_directory}
use Rattle.model.specs.Steps.{IsNowhere}
use Rattle.call_laws.specs.Fits.{CanBeReplaced}
use Rattle.call_laws.specs.WellFormed.{CanBeLinked, CanBeNamed, IsRooted, WellFormed}
use Rattle.model.proofs.Laws.{given_in}
use Rattle.call_laws.proofs.edits.Names.{has_names, one, counted, links_named, links_unnamed}
use Rattle.call_laws.proofs.edits.Contents.{HasBytes}
use Rattle.call_laws.proofs.edits.NamesAlike.{IsNew, not_new, kept_kind}
use Rattle.call_laws.proofs.edits.InodeMarks.{linked_is_other, linked_named, not_counted}
use Rattle.call_laws.proofs.Maps.{not_none, some_same, empty_gives, sum-zero, none_by_keys}

-- what is named by nothing is counted by nothing
pub none_count : (k : Kernel) (n : ℕ) → ((d : ℕ) (x : Name) → get (names_of k d) x ≢ Some n) → links k n ≡ 0
unfolding links
none_count k n none = sum-zero nat_cmp_total (λ inode. given_in n (names_of_inode (Some inode))) k.inodes (λ d inode e.
    sum-zero nat_list_cmp_total (λ v. cond (v == n) 1 0) (names_of_inode (Some inode)) (λ x m is.
    not_counted m n (λ same. none d x (ap (λ o. get (names_of_inode o) x) e ∙ is ∙ ap Some same))))

-- what has names in it is a directory
named_in : (o : Option Inode) (x : Name) (n : ℕ) → get (names_of_inode o) x ≡ Some n → mapped kind o ≡ Some A_directory
named_in (Some (Directory names)) x n e = refl
named_in (Some (File bytes)) x n e = absurd (empty_gives name_cmp x n e)
named_in (Some (Pipe bytes)) x n e = absurd (empty_gives name_cmp x n e)
named_in (Some (Fixed fixed)) x n e = absurd (empty_gives name_cmp x n e)
named_in None x n e = absurd (empty_gives name_cmp x n e)

pub has_names_in : (k : Kernel) (d : ℕ) (x : Name) (n : ℕ) → get (names_of k d) x ≡ Some n → kind_of k d ≡ Some A_directory
has_names_in k d x n e = named_in (get k.inodes d) x n e

can_stay : (o p : Option Kind) → ((what : Kind) → o ≡ Some what → p ≡ Some what) → CanBeNamed o → CanBeNamed p
can_stay None p h is = absurd is
can_stay (Some what) p h is = subst CanBeNamed (sym (h what refl)) is

-- what must be seen of the names
pub record NamesAreWell (k after : Kernel) : Type 0 where
  pub root_unnamed : links after k.root ≡ 0
  pub named : (d : ℕ) (x : Name) (n : ℕ) → get (names_of after d) x ≡ Some n → CanBeNamed (kind_of after n)
  pub parent : (d : ℕ) (x : Name) (n : ℕ) → get (names_of after d) x ≡ Some n → links after d ≡ 0 → d ≡ k.root
  pub one_name : (d : ℕ) → kind_of after d ≡ Some A_directory → links after d ≤ 1

-- names and kinds as they were
pub same_names : (k after : Kernel) → WellFormed k → ((t : ℕ) → kind_of after t ≡ kind_of k t) → ((t : ℕ) → names_of after t ≡ names_of k t) → ((t : ℕ) → links after t ≡ links k t) → NamesAreWell k after
same_names k after well kinds names same = record {
  root_unnamed = same k.root ∙ well.root_unnamed;
  named = λ d x n is. subst CanBeNamed (sym (kinds n)) (well.names d x n (ap (λ (ns : FinMap name_cmp ℕ). get ns x) (sym (names d)) ∙ is));
  parent = λ d x n is none. well.parents d x n (ap (λ (ns : FinMap name_cmp ℕ). get ns x) (sym (names d)) ∙ is) (sym (same d) ∙ none);
  one_name = λ d is. let l : links k d ≤ 1 = well.one_name d (sym (kinds d) ∙ is) in let s : links after d ≡ links k d = same d in omega arith;
}

pub bytes_names : (k : Kernel) (n : ℕ) (new : Inode) → WellFormed k → HasBytes k (set_inode n new k) → NamesAreWell k (set_inode n new k)
bytes_names k n new well has = same_names k (set_inode n new k) well has.kinds has.names has.links

-- where a name of the state after a change comes from
given_by_test : (P : Type 0) (b : Bool) (n m : ℕ) (o : Option ℕ) → (n ≡ m → P) → (o ≡ Some m → P) → cond b (Some n) o ≡ Some m → P
given_by_test P true n m o f g e = f (some_same n m e)
given_by_test P false n m o f g e = g e

left_by_test : (b : Bool) (m : ℕ) (o : Option ℕ) → cond b None o ≡ Some m → o ≡ Some m
left_by_test true m o e = absurd cc
left_by_test false m o e = e

pub set_gives : (P : Type 0) (k : Kernel) (d : ℕ) (x : Name) (n : ℕ) → kind_of k d ≡ Some A_directory → (t : ℕ) (y : Name) (m : ℕ) → (t ≡ d → n ≡ m → P) → (get (names_of k t) y ≡ Some m → P) → get (names_of (set_name d x n k) t) y ≡ Some m → P
set_gives P k d x n is t y m f g e =
    elim (cases_eq t d) [
      | inl same ↦ given_by_test P (eq_by_cmp name_cmp y x) n m (get (names_of k d) y) (f same) (λ old. g (ap (λ t. get (names_of k t) y) same ∙ old))
          (sym (get-insert nat_list_cmp_total (names_of k d) x n y) ∙ ap (λ (ns : FinMap name_cmp ℕ). get ns y) (sym (has_names k d (insert (names_of k d) x n) is).here) ∙ ap (λ t. get (names_of (set_name d x n k) t) y) (sym same) ∙ e)
      | inr away ↦ g (ap (λ (ns : FinMap name_cmp ℕ). get ns y) (sym ((has_names k d (insert (names_of k d) x n) is).there t away)) ∙ e)
    ]

clear_gives : (k : Kernel) (d : ℕ) (x : Name) → kind_of k d ≡ Some A_directory → (t : ℕ) (y : Name) (m : ℕ) → get (names_of (clear_name d x k) t) y ≡ Some m → get (names_of k t) y ≡ Some m
clear_gives k d x is t y m e =
    elim (cases_eq t d) [
      | inl same ↦ ap (λ t. get (names_of k t) y) same ∙ left_by_test (eq_by_cmp name_cmp y x) m (get (names_of k d) y)
          (sym (get-remove nat_list_cmp_total (names_of k d) x y) ∙ ap (λ (ns : FinMap name_cmp ℕ). get ns y) (sym (has_names k d (remove (names_of k d) x) is).here) ∙ ap (λ t. get (names_of (clear_name d x k) t) y) (sym same) ∙ e)
      | inr away ↦ ap (λ (ns : FinMap name_cmp ℕ). get ns y) (sym ((has_names k d (remove (names_of k d) x) is).there t away)) ∙ e
    ]

pub same_links : (k : Kernel) (d : ℕ) (x : Name) (n t : ℕ) → kind_of k d ≡ Some A_directory → get (names_of k d) x ≡ None → links (set_name d x n k) t ≡ links k t + one n t
same_links k d x n t is free =
    let moved : links (set_name d x n k) t + counted t (get (names_of k d) x) ≡ links k t + one n t = links_named k d x n is t in
    let none : counted t (get (names_of k d) x) ≡ 0 = ap (counted t) free in
    omega arith

same_one : (n : ℕ) → one n n ≡ 1
same_one n = ap (λ b. cond b 1 0) (eq-eqb n n refl)

-- a new inode with its name
pub made_names : (k : Kernel) (d : ℕ) (x : Name) (n : ℕ) (new : Inode) → WellFormed k → ((t : ℕ) (what : Kind) → kind_of k t ≡ Some what → kind_of (set_name d x n (set_inode n new k)) t ≡ Some what) → IsNowhere k n → IsNew k (set_inode n new k) n (kind new) → CanBeNamed (Some (kind new)) → IsRooted k d → get (names_of k d) x ≡ None → NamesAreWell k (set_name d x n (set_inode n new k))
made_names k d x n new well stay nowhere f can rooted free =
    let mid : Kernel = set_inode n new k in
    let after : Kernel = set_name d x n mid in
    let is : kind_of mid d ≡ Some A_directory = kept_kind k n d new A_directory nowhere.inode rooted.directory in
    let free_too : get (names_of mid d) x ≡ None = ap (λ (ns : FinMap name_cmp ℕ). get ns x) (f.names d) ∙ free in
    let count : (t : ℕ) → links after t ≡ links k t + one n t = λ t. same_links mid d x n t is free_too ∙ ap (λ l. l + one n t) (f.links t) in
    let here : links after n ≡ 1 = (let c : links after n ≡ links k n + one n n = count n in let z : links k n ≡ 0 = none_count k n nowhere.unnamed in let o : one n n ≡ 1 = same_one n in omega arith) in
    let there : (t : ℕ) → n ≢ t → links after t ≡ links k t = λ t away. (let c : links after t ≡ links k t + one n t = count t in let z : one n t ≡ 0 = not_counted n t away in omega arith) in
    let kinds : (t : ℕ) → kind_of after t ≡ kind_of mid t = (has_names mid d (insert (names_of mid d) x n) is).kinds in
    let parents : (t : ℕ) → (links k t ≡ 0 → t ≡ k.root) → links after t ≡ 0 → t ≡ k.root = λ t was none. (elim (cases_eq t n) [
      | inl same ↦ absurd (let z : links after n ≡ 0 = ap (links after) (sym same) ∙ none in omega arith)
      | inr away ↦ was (sym (there t (λ e. away (sym e))) ∙ none)
    ]) in
    record {
      root_unnamed = there k.root (λ e. not_new k n k.root A_directory nowhere.inode well.root (sym e)) ∙ well.root_unnamed;
      named = λ t y m e. set_gives (CanBeNamed (kind_of after m)) mid d x n is t y m
          (λ _ same. subst (λ m. CanBeNamed (kind_of after m)) same (subst CanBeNamed (sym (kinds n ∙ f.here)) can))
          (λ old. can_stay (kind_of k m) (kind_of after m) (λ what e. stay m what e) (well.names t y m (ap (λ (ns : FinMap name_cmp ℕ). get ns y) (sym (f.names t)) ∙ old))) e;
      parent = λ t y m e. parents t (set_gives (links k t ≡ 0 → t ≡ k.root) mid d x n is t y m
          (λ same _. subst (λ t. links k t ≡ 0 → t ≡ k.root) (sym same) rooted.rooted)
          (λ old. well.parents t y m (ap (λ (ns : FinMap name_cmp ℕ). get ns y) (sym (f.names t)) ∙ old)) e);
      one_name = λ t dir. elim (cases_eq t n) [
        | inl same ↦ subst (λ t. links after t ≤ 1) (sym same) (let h : links after n ≡ 1 = here in omega arith)
        | inr away ↦ (let l : links k t ≤ 1 = well.one_name t (sym (f.there t away) ∙ sym (kinds t) ∙ dir) in let s : links after t ≡ links k t = there t (λ e. away (sym e)) in omega arith)
      ];
    }

-- one more name of what may have several
pub linked_names : (k : Kernel) (d : ℕ) (x : Name) (n : ℕ) → WellFormed k → IsRooted k d → get (names_of k d) x ≡ None → CanBeLinked (kind_of k n) → NamesAreWell k (set_name d x n k)
linked_names k d x n well rooted free linked =
    let after : Kernel = set_name d x n k in
    let count : (t : ℕ) → links after t ≡ links k t + one n t = λ t. same_links k d x n t rooted.directory free in
    let kinds : (t : ℕ) → kind_of after t ≡ kind_of k t = (has_names k d (insert (names_of k d) x n) rooted.directory).kinds in
    let same : (t : ℕ) → kind_of k t ≡ Some A_directory → links after t ≡ links k t = λ t is. (let c : links after t ≡ links k t + one n t = count t in let z : one n t ≡ 0 = not_counted n t (λ e. linked_is_other k t n is linked (sym e)) in omega arith) in
    let parents : (t : ℕ) → (links k t ≡ 0 → t ≡ k.root) → links after t ≡ 0 → t ≡ k.root = λ t was none. was (let c : links after t ≡ links k t + one n t = count t in omega arith) in
    record {
      root_unnamed = same k.root well.root ∙ well.root_unnamed;
      named = λ t y m e. set_gives (CanBeNamed (kind_of after m)) k d x n rooted.directory t y m
          (λ _ e. subst (λ m. CanBeNamed (kind_of after m)) e (subst CanBeNamed (sym (kinds n)) (linked_named (kind_of k n) linked)))
          (λ old. subst CanBeNamed (sym (kinds m)) (well.names t y m old)) e;
      parent = λ t y m e. parents t (set_gives (links k t ≡ 0 → t ≡ k.root) k d x n rooted.directory t y m (λ e _. subst (λ t. links k t ≡ 0 → t ≡ k.root) (sym e) rooted.rooted) (λ old. well.parents t y m old) e);
      one_name = λ t dir. let l : links k t ≤ 1 = well.one_name t (sym (kinds t) ∙ dir) in let s : links after t ≡ links k t = same t (sym (kinds t) ∙ dir) in omega arith;
    }

-- a name that goes, of what has no names
pub unnamed_names : (k : Kernel) (d : ℕ) (x : Name) (n : ℕ) → WellFormed k → kind_of k d ≡ Some A_directory → get (names_of k d) x ≡ Some n → ((y : Name) (m : ℕ) → get (names_of k n) y ≢ Some m) → NamesAreWell k (clear_name d x k)
unnamed_names k d x n well is gives bare =
    let after : Kernel = clear_name d x k in
    let count : (t : ℕ) → links after t + one n t ≡ links k t = λ t. ap (λ c. links after t + c) (sym (ap (counted t) gives)) ∙ links_unnamed k d x is t in
    let kinds : (t : ℕ) → kind_of after t ≡ kind_of k t = (has_names k d (remove (names_of k d) x) is).kinds in
    record {
      root_unnamed = (let c : links after k.root + one n k.root ≡ links k k.root = count k.root in let z : links k k.root ≡ 0 = well.root_unnamed in omega arith);
      named = λ t y m e. subst CanBeNamed (sym (kinds m)) (well.names t y m (clear_gives k d x is t y m e));
      parent = λ t y m e none.
          let old : get (names_of k t) y ≡ Some m = clear_gives k d x is t y m e in
          well.parents t y m old (let c : links after t + one n t ≡ links k t = count t in let z : one n t ≡ 0 = not_counted n t (λ same. bare y m (ap (λ t. get (names_of k t) y) same ∙ old)) in let none' : links after t ≡ 0 = none in omega arith);
      one_name = λ t dir. let l : links k t ≤ 1 = well.one_name t (sym (kinds t) ∙ dir) in let c : links after t + one n t ≡ links k t = count t in omega arith;
    }

-- what may be replaced has no names in it
pub bare_old : (k : Kernel) (n t : ℕ) (old : Option ℕ) (replaced : Replaced) → CanBeReplaced k n old replaced → (y : Name) (m : ℕ) → get (names_of k t) y ≡ Some m → counted t old ≡ 0
bare_old k n t None replaced can y m e = refl
bare_old k n t (Some r) (Over_directory s) can y m e = not_counted r t (λ same. not_none m (sym e ∙ ap (λ t. get (names_of k t) y) (sym same) ∙ none_by_keys nat_list_cmp_total (names_of k r) can.3 y))
bare_old k n t (Some r) (Over_file s) can y m e = not_counted r t (λ same. linked_is_other k t r (has_names_in k t y m e) can.1 (sym same))
bare_old k n t (Some r) Over_nothing can y m e = absurd can

-- a name that moves
pub moved_names : (k : Kernel) (d : ℕ) (x : Name) (e : ℕ) (y : Name) (n : ℕ) (old : Option ℕ) (replaced : Replaced) → WellFormed k → kind_of k d ≡ Some A_directory → IsRooted k e → get (names_of k d) x ≡ Some n
    → get (names_of k e) y ≡ old → get (names_of (clear_name d x k) e) y ≡ old → CanBeReplaced k n old replaced → NamesAreWell k (set_name e y n (clear_name d x k))
moved_names k d x e y n old replaced well is onto gives old_there was can =
    let mid : Kernel = clear_name d x k in
    let after : Kernel = set_name e y n mid in
    let mid_kinds : (t : ℕ) → kind_of mid t ≡ kind_of k t = (has_names k d (remove (names_of k d) x) is).kinds in
    let mid_is : kind_of mid e ≡ Some A_directory = mid_kinds e ∙ onto.directory in
    let kinds : (t : ℕ) → kind_of after t ≡ kind_of k t = λ t. (has_names mid e (insert (names_of mid e) y n) mid_is).kinds t ∙ mid_kinds t in
    let count : (t : ℕ) → links after t + counted t old ≡ links k t = λ t.
    (let gone : links mid t + one n t ≡ links k t = ap (λ c. links mid t + c) (sym (ap (counted t) gives)) ∙ links_unnamed k d x is t in
    let come : links after t + counted t old ≡ links mid t + one n t = ap (λ c. links after t + c) (sym (ap (counted t) was)) ∙ links_named mid e y n mid_is t in
    omega arith) in
    let none_old : (t : ℕ) (z : Name) (m : ℕ) → get (names_of k t) z ≡ Some m → counted t old ≡ 0 = λ t z m h. bare_old k n t old replaced can z m h in
    let parents : (t : ℕ) → counted t old ≡ 0 → (links k t ≡ 0 → t ≡ k.root) → links after t ≡ 0 → t ≡ k.root = λ t zero rooted none. rooted (let c : links after t + counted t old ≡ links k t = count t in omega arith) in
    record {
      root_unnamed = (let c : links after k.root + counted k.root old ≡ links k k.root = count k.root in let z : links k k.root ≡ 0 = well.root_unnamed in omega arith);
      named = λ t z m h. set_gives (CanBeNamed (kind_of after m)) mid e y n mid_is t z m
          (λ _ same. subst (λ m. CanBeNamed (kind_of after m)) same (subst CanBeNamed (sym (kinds n)) (well.names d x n gives)))
          (λ left. subst CanBeNamed (sym (kinds m)) (well.names t z m (clear_gives k d x is t z m left))) h;
      parent = λ t z m h. set_gives (links after t ≡ 0 → t ≡ k.root) mid e y n mid_is t z m
          (λ same _. subst (λ t. links after t ≡ 0 → t ≡ k.root) (sym same) (parents e (nothing_here old refl) onto.rooted))
          (λ left. let before : get (names_of k t) z ≡ Some m = clear_gives k d x is t z m left in parents t (none_old t z m before) (well.parents t z m before)) h;
      one_name = λ t dir. let l : links k t ≤ 1 = well.one_name t (sym (kinds t) ∙ dir) in let c : links after t + counted t old ≡ links k t = count t in omega arith;
    }
  where
    nothing_here : (o : Option ℕ) → old ≡ o → counted e old ≡ 0
    nothing_here None is = ap (counted e) is
    nothing_here (Some m) is = bare_old k n e old replaced can y m (old_there ∙ is)

-- a new inode that no name gives
pub new_names : (k : Kernel) (n : ℕ) (new : Inode) → WellFormed k → get k.inodes n ≡ None → IsNew k (set_inode n new k) n (kind new) → ((t : ℕ) (what : Kind) → kind_of k t ≡ Some what → kind_of (set_inode n new k) t ≡ Some what) → kind new ≢ A_directory → NamesAreWell k (set_inode n new k)
new_names k n new well none f stay other = record {
  root_unnamed = f.links k.root ∙ well.root_unnamed;
  named = λ d x m is. can_stay (kind_of k m) (kind_of (set_inode n new k) m) (λ what e. stay m what e) (well.names d x m (ap (λ (ns : FinMap name_cmp ℕ). get ns x) (sym (f.names d)) ∙ is));
  parent = λ d x m is zero. well.parents d x m (ap (λ (ns : FinMap name_cmp ℕ). get ns x) (sym (f.names d)) ∙ is) (sym (f.links d) ∙ zero);
  one_name = λ d is. elim (cases_eq d n) [
    | inl same ↦ absurd (other (some_same (kind new) A_directory (sym f.here ∙ ap (kind_of (set_inode n new k)) (sym same) ∙ is)))
    | inr away ↦ (let l : links k d ≤ 1 = well.one_name d (sym (f.there d away) ∙ is) in let s : links (set_inode n new k) d ≡ links k d = f.links d in omega arith)
  ];
}
