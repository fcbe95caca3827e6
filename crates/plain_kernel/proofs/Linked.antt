-- Counts of names, after a change of one inode, of one name and of one count.
use Rattle.std.proofs.Common.{◌≡◌, ◌≢◌, ℕ, ◌+◌, ◌-◌, ◌<◌, ◌≤◌, ◌==◌, Bool, true, false, cond, List, [], ◌∷◌, ◌++◌, map, Option, Some, None, nat_cmp, refl, sym, ap, ◌∙◌, arith}
use Rattle.std.specs.List.{count_by, sum_by}
use Rattle.std.specs.Option.{unwrap_or}
use Rattle.std.specs.Ordering.{eq_by_cmp}
use Rattle.std.specs.Cmp.{nat_cmp_total, eq_by_cmp_equiv}
use Rattle.std.proofs.lemmas.Bool.{eqb-true}
use Rattle.std.proofs.lemmas.List.Sums.{sum_by-cons}
use Rattle.model.specs.FiniteMap.{FinMap, get, empty, insert, remove, entries-empty, get-empty, get-insert, get-remove, nat_cmp-IsAntisymmetric}
use Rattle.model.specs.State.{Inode, Directory, Name, name_cmp, names_of_inode}
use Rattle.model.proofs.Laws.{weight, weighed, sum-insert, sum-remove}
use Rattle.plain_kernel.specs.Counts.{AreCounted, count_at, given_by, given_by_all, given_once, times_given}
use Rattle.plain_kernel.proofs.Empties.{none_given}
use Rattle.plain_kernel.proofs.Keyed.{test_is}
use Rattle.plain_kernel.proofs.Maps.{insert_twice}
use Rattle.plain_kernel.proofs.Orders.{name_exact, name_total}

-- what is counted after a count was set, or was taken out
turned : (k n : ℕ) → eq_by_cmp nat_cmp n k ≡ (k == n)
turned k n = (eq_by_cmp_equiv nat_cmp_total).symm n k ∙ test_is k n

chosen : (b : Bool) (v : ℕ) (o : Option ℕ) → unwrap_or (cond b (Some v) o) 0 ≡ cond b v (unwrap_or o 0)
chosen true v o = refl
chosen false v o = refl

unchosen : (b : Bool) (o : Option ℕ) → unwrap_or (cond b None o) 0 ≡ cond b 0 (unwrap_or o 0)
unchosen true o = refl
unchosen false o = refl

module _ (c : FinMap nat_cmp ℕ) (k n : ℕ) where
  count-set : (v : ℕ) → count_at (insert c k v) n ≡ cond (k == n) v (count_at c n)
  count-set v = ap (λ o. unwrap_or o 0) (get-insert nat_cmp_total c k v n) ∙ chosen (eq_by_cmp nat_cmp n k) v (get c n) ∙ ap (λ b. cond b v (count_at c n)) (turned k n)

  count-gone : count_at (remove c k) n ≡ cond (k == n) 0 (count_at c n)
  count-gone = ap (λ o. unwrap_or o 0) (get-remove nat_cmp_total c k n) ∙ unchosen (eq_by_cmp nat_cmp n k) (get c n) ∙ ap (λ b. cond b 0 (count_at c n)) (turned k n)

  -- so many more
  pub gained : (v more : ℕ) → v ≡ count_at c k + more → count_at (insert c k v) n ≡ count_at c n + cond (k == n) more 0
  gained v more is = count-set v ∙ by (k == n) refl where
    by : (b : Bool) → (k == n) ≡ b → cond b v (count_at c n) ≡ count_at c n + cond b more 0
    by true e = is ∙ ap (λ x. count_at c x + more) (eqb-true k n e)
    by false e = omega arith

  -- so many less, where some are left, and where none is
  pub lost : (v less : ℕ) → v + less ≡ count_at c k → count_at (insert c k v) n ≡ count_at c n - cond (k == n) less 0
  lost v less is = count-set v ∙ by (k == n) refl where
    by : (b : Bool) → (k == n) ≡ b → cond b v (count_at c n) ≡ count_at c n - cond b less 0
    by true e = let same : count_at c k ≡ count_at c n = ap (count_at c) (eqb-true k n e) in omega arith
    by false e = omega arith

  pub lost_last : (less : ℕ) → count_at c k ≤ less → count_at (remove c k) n ≡ count_at c n - cond (k == n) less 0
  lost_last less few = count-gone ∙ by (k == n) refl where
    by : (b : Bool) → (k == n) ≡ b → cond b 0 (count_at c n) ≡ count_at c n - cond b less 0
    by true e = let same : count_at c k ≡ count_at c n = ap (count_at c) (eqb-true k n e) in omega arith
    by false e = omega arith

-- what counts more than some is there
pub is_there : (o : Option ℕ) (less : ℕ) → less < unwrap_or o 0 → o ≢ None
is_there None less more e = absurd (omega arith)
is_there (Some v) less more e = absurd cc

-- one name more of those that a walk has shown
pub shown_more : {A : Type 0} (f : A → ℕ) (n : ℕ) (ys : List A) (y : A) → count_by (λ m. m == n) (map f (ys ++ y ∷ [])) ≡ count_by (λ m. m == n) (map f ys) + cond (f y == n) 1 0
shown_more f n [] y = sum_by-cons (λ m. cond (m == n) 1 0) (f y) [] ∙ omega arith
shown_more f n (z ∷ zs) y =
    let w : ℕ → ℕ = λ m. cond (m == n) 1 0 in
    omega (arith, sum_by-cons w (f z) (map f (zs ++ y ∷ [])), sum_by-cons w (f z) (map f zs), shown_more f n zs y)

pub lost_more : {A : Type 0} (f : A → ℕ) (n : ℕ) (ys : List A) (y : A) (first mid last : ℕ) → mid ≡ first - count_by (λ m. m == n) (map f ys) → last ≡ mid - cond (f y == n) 1 0 → last ≡ first - count_by (λ m. m == n) (map f (ys ++ y ∷ []))
lost_more f n ys y first mid last so now = omega (arith, shown_more f n ys y)

once : (n : ℕ) (o : Option ℕ) → weight (λ m. cond (m == n) 1 0) o ≡ given_once n o
once n None = refl
once n (Some m) = refl

-- the names of all inodes after one inode came in the place of another, or went
module _ (m : FinMap nat_cmp Inode) (k n : ℕ) where
  all-set : (v : Inode) → given_by_all (insert m k v) n + times_given n (names_of_inode (get m k)) ≡ given_by_all m n + times_given n (names_of_inode (Some v))
  all-set v = ap (λ w. given_by_all (insert m k v) n + w) (sym (weighed n (get m k))) ∙ sum-insert nat_cmp_total nat_cmp-IsAntisymmetric (λ inode. times_given n (names_of_inode (Some inode))) m k v

  all-gone : given_by_all (remove m k) n + times_given n (names_of_inode (get m k)) ≡ given_by_all m n
  all-gone =
      let parts : weight (λ inode. times_given n (names_of_inode (Some inode))) (get m k) + given_by_all (remove m k) n ≡ given_by_all m n = sum-remove nat_cmp_total nat_cmp-IsAntisymmetric (λ inode. times_given n (names_of_inode (Some inode))) m k in
      let same : weight (λ inode. times_given n (names_of_inode (Some inode))) (get m k) ≡ times_given n (names_of_inode (get m k)) = weighed n (get m k) in
      omega arith

-- after one name came, or went
module _ (names : FinMap name_cmp ℕ) (x : Name) (n : ℕ) where
  name-set : (v : ℕ) → times_given n (insert names x v) + given_once n (get names x) ≡ times_given n names + cond (v == n) 1 0
  name-set v = ap (λ w. times_given n (insert names x v) + w) (sym (once n (get names x))) ∙ sum-insert name_total name_exact (λ v. cond (v == n) 1 0) names x v

  name-gone : times_given n (remove names x) + given_once n (get names x) ≡ times_given n names
  name-gone =
      let parts : weight (λ v. cond (v == n) 1 0) (get names x) + times_given n (remove names x) ≡ times_given n names = sum-remove name_total name_exact (λ v. cond (v == n) 1 0) names x in
      let same : weight (λ v. cond (v == n) 1 0) (get names x) ≡ given_once n (get names x) = once n (get names x) in
      omega arith

-- the counts go with the inodes: `c` is of those before, `d` of those after
module _ (m : FinMap nat_cmp Inode) (c d : FinMap nat_cmp ℕ) (counted : AreCounted m c) (k : ℕ) where
  pub counted_set : (v : Inode) → names_of_inode (Some v) ≡ empty → ((n : ℕ) → count_at d n ≡ count_at c n - times_given n (names_of_inode (get m k))) → AreCounted (insert m k v) d
  counted_set v bare less = λ n.
      let none : times_given n (names_of_inode (Some v)) ≡ 0 = ap (times_given n) bare ∙ sym (none_given n) in
      omega (arith, counted n, less n, all-set m k n v)

  pub counted_gone : ((n : ℕ) → count_at d n ≡ count_at c n - times_given n (names_of_inode (get m k))) → AreCounted (remove m k) d
  counted_gone less = λ n. omega (arith, counted n, less n, all-gone m k n)

  module _ (x : Name) where
    pub counted_named : (v : ℕ) → ((n : ℕ) → count_at d n ≡ count_at c n + cond (v == n) 1 0 - given_once n (get (names_of_inode (get m k)) x))
        → AreCounted (insert m k (Directory (insert (names_of_inode (get m k)) x v))) d
    counted_named v less = λ n.
        omega (arith, counted n, less n, all-set m k n (Directory (insert (names_of_inode (get m k)) x v)), name-set (names_of_inode (get m k)) x n v)

    pub counted_unnamed : ((n : ℕ) → count_at d n ≡ count_at c n - given_once n (get (names_of_inode (get m k)) x)) → AreCounted (insert m k (Directory (remove (names_of_inode (get m k)) x))) d
    counted_unnamed less = λ n.
        omega (arith, counted n, less n, all-set m k n (Directory (remove (names_of_inode (get m k)) x)), name-gone (names_of_inode (get m k)) x n)

-- what an empty map counts
pub nothing_at : (c : FinMap nat_cmp ℕ) (n : ℕ) → c ≡ empty → count_at c n ≡ 0
nothing_at c n none = ap (λ x. count_at x n) none ∙ ap (λ o. unwrap_or o 0) (get-empty nat_cmp n)

pub nothing_counted : (m : FinMap nat_cmp Inode) (c : FinMap nat_cmp ℕ) → m ≡ empty → c ≡ empty → AreCounted m c
nothing_counted m c bare none = λ n.
    nothing_at c n none ∙ sym (ap (λ x. given_by_all x n) bare ∙ ap (λ (es : List (ℕ × Inode)). sum_by (given_by n) (map (λ e. e.1) es)) (entries-empty nat_cmp))

-- what was taken out, and is set again
pub set_again : {X : Type 0} (m mid last : FinMap nat_cmp X) (k : ℕ) (f v w : X) → mid ≡ insert m k f → last ≡ insert mid k v → v ≡ w → last ≡ insert m k w
set_again {X} m mid last k f v w out back same = back ∙ ap (λ (x : FinMap nat_cmp X). insert x k v) out ∙ insert_twice m k f v ∙ ap (insert m k) same

-- the same inodes have the same names
pub counted_as : (m last : FinMap nat_cmp Inode) (c : FinMap nat_cmp ℕ) → last ≡ m → AreCounted m c → AreCounted last c
counted_as m last c same counted = λ n. counted n ∙ ap (λ x. given_by_all x n) (sym same)
