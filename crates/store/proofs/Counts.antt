-- Counts of names, before and after a change of one inode.
use Rattle.std.proofs.Common.{◌≡◌, ℕ, ◌+◌, ◌*◌, ◌<◌, ◌≤◌, ◌==◌, Bool, cond, List, [], ◌∷◌, map, length, Option, Some, None, nat_cmp, sum_by, refl, sym, ap, ◌∙◌, arith, eq-eqb}
use Rattle.std.specs.List.{AllByRecursion}
use Rattle.std.specs.Cmp.{nat_cmp_total}
use Rattle.std.proofs.lemmas.List.{length-map}
use Rattle.std.proofs.lemmas.List.Sums.{sum_by-cons, count_by-le-length}
use Rattle.model.specs.FiniteMap.{FinMap, get, insert, remove, entries, len, values, len-entries, nat_cmp-IsAntisymmetric}
use Rattle.model.specs.State.{Inode, Kernel, Name, links, name_cmp, names_of_inode}
use Rattle.model.proofs.Laws.{weight, all_entries, sum-insert, sum-remove, given_in, weighed}
use Rattle.dirlist.proofs.Laws.{name_total, name_exact}
use Rattle.store.specs.Headers.{given_by}
use Rattle.store.specs.Links.{links_in}
use Rattle.store.specs.Shown.{with_inode}

-- the model counts the same names
pub links-links_in : (k : Kernel) (n : ℕ) → links k n ≡ links_in k.inodes n
unfolding links
links-links_in k n = refl

-- how often the names of an inode give a number
abbrev pub given_of : ℕ → Option Inode → ℕ
given_of n inode = given_in n (names_of_inode inode)

-- what the names of the old inode gave goes, and what those of the new one give comes
pub links-with_inode : (m : FinMap nat_cmp Inode) (n : ℕ) (new : Option Inode) (q : ℕ) → links_in (with_inode m n new) q + given_of q (get m n) ≡ links_in m q + given_of q new
links-with_inode m n (Some inode) q =
    ap (λ w. links_in (insert m n inode) q + w) (sym (weighed q (get m n))) ∙ sum-insert nat_cmp_total nat_cmp-IsAntisymmetric (λ inode. given_in q (names_of_inode (Some inode))) m n inode
links-with_inode m n None q =
    let kept : weight (λ inode. given_in q (names_of_inode (Some inode))) (get m n) + links_in (remove m n) q ≡ links_in m q = sum-remove nat_cmp_total nat_cmp-IsAntisymmetric (λ inode. given_in q (names_of_inode (Some inode))) m n in
    let was : weight (λ inode. given_in q (names_of_inode (Some inode))) (get m n) ≡ given_of q (get m n) = weighed q (get m n) in
    let none : 0 ≡ given_of q None = weighed q None in
    omega arith

-- the names of one inode are among all
pub given-le-links : (m : FinMap nat_cmp Inode) (n q : ℕ) → given_of q (get m n) ≤ links_in m q
given-le-links m n q =
    let gone : links_in (with_inode m n None) q + given_of q (get m n) ≡ links_in m q + given_of q None = links-with_inode m n None q in
    let none : 0 ≡ given_of q None = weighed q None in
    omega arith

given-weight : (q : ℕ) (o : Option ℕ) → weight (λ v. cond (v == q) 1 0) o ≡ given_by o q
given-weight q None = refl
given-weight q (Some n) = refl

-- a name that comes in place of another, and one that goes
pub given-insert : (names : FinMap name_cmp ℕ) (name : Name) (n q : ℕ) → given_in q (insert names name n) + given_by (get names name) q ≡ given_in q names + given_by (Some n) q
given-insert names name n q = ap (λ w. given_in q (insert names name n) + w) (sym (given-weight q (get names name))) ∙ sum-insert name_total name_exact (λ v. cond (v == q) 1 0) names name n

pub given-remove : (names : FinMap name_cmp ℕ) (name : Name) (q : ℕ) → given_in q (remove names name) + given_by (get names name) q ≡ given_in q names
given-remove names name q =
    let parts : weight (λ v. cond (v == q) 1 0) (get names name) + given_in q (remove names name) ≡ given_in q names = sum-remove name_total name_exact (λ v. cond (v == q) 1 0) names name in
    let same : weight (λ v. cond (v == q) 1 0) (get names name) ≡ given_by (get names name) q = given-weight q (get names name) in
    omega arith

pub given_itself : (n : ℕ) → given_by (Some n) n ≡ 1
given_itself n = ap (λ (b : Bool). cond b 1 0) (eq-eqb n n refl)

-- what a name gives is given
pub given-some : (names : FinMap name_cmp ℕ) (name : Name) (n : ℕ) → get names name ≡ Some n → 0 < given_in n names
given-some names name n is =
    let parts : given_in n (remove names name) + given_by (get names name) n ≡ given_in n names = given-remove names name n in
    let one : given_by (get names name) n ≡ 1 = ap (λ o. given_by o n) is ∙ given_itself n in
    omega arith

-- no more than all names of a directory give a number
pub given-le-len : (names : FinMap name_cmp ℕ) (q : ℕ) → given_in q names ≤ len names
given-le-len names q =
    let most : given_in q names ≤ length (values names) = count_by-le-length (λ v. v == q) (values names) in
    let long : length (values names) ≡ length (entries names) = length-map (entries names) (λ e. e.1) in
    let is : len names ≡ length (entries names) = len-entries names in
    omega arith

sum_of-le : (w : Inode → ℕ) (most : ℕ) (es : List (ℕ × Inode)) → AllByRecursion (λ (e : ℕ × Inode). w e.1 ≤ most) es → sum_by w (map (λ e. e.1) es) ≤ length es * most
sum_of-le w most [] h = omega arith
sum_of-le w most (e ∷ es) h =
    let rest : sum_by w (map (λ e. e.1) es) ≤ length es * most = sum_of-le w most es h.1 in
    let here : sum_by w (e.1 ∷ map (λ e. e.1) es) ≡ w e.1 + sum_by w (map (λ e. e.1) es) = sum_by-cons w e.1 (map (λ e. e.1) es) in
    let this : w e.1 ≤ most = h.0 in
    omega arith

-- a count is no more than the number of inodes, each with as many names as any may have
pub links-le : (m : FinMap nat_cmp Inode) (most q : ℕ) → ((n : ℕ) (inode : Inode) → get m n ≡ Some inode → len (names_of_inode (Some inode)) ≤ most) → links_in m q ≤ len m * most
links-le m most q few =
    let each : AllByRecursion (λ (e : ℕ × Inode). given_in q (names_of_inode (Some e.1)) ≤ most) (entries m) = all_entries nat_cmp_total (λ n inode. given_in q (names_of_inode (Some inode)) ≤ most) m (λ n inode is. let low : len (names_of_inode (Some inode)) ≤ most = few n inode is in let le : given_in q (names_of_inode (Some inode)) ≤ len (names_of_inode (Some inode)) = given-le-len (names_of_inode (Some inode)) q in omega arith) in
    let sum : links_in m q ≤ length (entries m) * most = sum_of-le (λ inode. given_in q (names_of_inode (Some inode))) most (entries m) each in
    let is : len m ≡ length (entries m) = len-entries m in
    rw is sum
