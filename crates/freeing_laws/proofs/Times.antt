-- How often a number stands in a list, and whether it does.
use Rattle.std.proofs.Common.{◌≡◌, ◌≢◌, ℕ, ◌+◌, ◌<◌, ◌==◌, cond, eq-eqb, List, [], ◌∷◌, ◌++◌, Option, Some, None, refl, ap, ◌∙◌, arith, ◌⊎◌, inl, inr}
use Rattle.std.proofs.lemmas.Bool.{cases_eq}
use Rattle.std.proofs.lemmas.List.Sums.{sum_by-cons, sum_by-append}
use Rattle.model.specs.FiniteMap.{get}
use Rattle.model.specs.State.{Kernel, Description}
use Rattle.call_laws.proofs.Laws.{one, counted, not_counted}
use Rattle.freeing_laws.specs.Counts.{times, listed}
use Rattle.freeing_laws.specs.Sweep.{inode_in, inodes_of}

pub times_cons : (n m : ℕ) (ms : List ℕ) → times n (m ∷ ms) ≡ one m n + times n ms
times_cons n m ms = sum_by-cons (λ v. cond (v == n) 1 0) m ms

pub times_one : (n m : ℕ) → times n (m ∷ []) ≡ one m n
times_one n m = let c : times n (m ∷ []) ≡ one m n + times n [] = times_cons n m [] in omega arith

pub times_append : (n : ℕ) (ms ns : List ℕ) → times n (ms ++ ns) ≡ times n ms + times n ns
times_append n ms ns = sum_by-append (λ v. cond (v == n) 1 0) ms ns

pub times_listed : (n : ℕ) (o : Option ℕ) → times n (listed o) ≡ counted n o
times_listed n None = refl
times_listed n (Some m) = times_one n m

pub same_one : (n : ℕ) → one n n ≡ 1
same_one n = ap (λ b. cond b 1 0) (eq-eqb n n refl)

-- n stands in the list
abbrev pub Has : List ℕ → ℕ → Type 0
Has ns n = 0 < times n ns

pub has_first : (n : ℕ) (ns : List ℕ) → Has (n ∷ ns) n
has_first n ns = let c : times n (n ∷ ns) ≡ one n n + times n ns = times_cons n n ns in let o : one n n ≡ 1 = same_one n in omega arith

pub has_rest : (n m : ℕ) (ns : List ℕ) → m ≢ n → Has (m ∷ ns) n → Has ns n
has_rest n m ns away has = let c : times n (m ∷ ns) ≡ one m n + times n ns = times_cons n m ns in let o : one m n ≡ 0 = not_counted m n away in let some : 0 < times n (m ∷ ns) = has in omega arith

pub has_left : (n : ℕ) (ms ns : List ℕ) → Has ms n → Has (ms ++ ns) n
has_left n ms ns has = let c : times n (ms ++ ns) ≡ times n ms + times n ns = times_append n ms ns in let some : 0 < times n ms = has in omega arith

pub has_right : (n : ℕ) (ms ns : List ℕ) → Has ns n → Has (ms ++ ns) n
has_right n ms ns has = let c : times n (ms ++ ns) ≡ times n ms + times n ns = times_append n ms ns in let some : 0 < times n ns = has in omega arith

-- what these descriptions open
pub has_inode : (k : Kernel) (ds : List ℕ) (d : ℕ) (it : Description) → Has ds d → get k.descriptions d ≡ Some it → Has (inodes_of k ds) it.inode
has_inode k [] d it has is = absurd (let none : 0 < times d [] = has in omega arith)
has_inode k (e ∷ ds) d it has is = elim (cases_eq e d) [
  | inl same ↦ has_left it.inode (inode_in (get k.descriptions e)) (inodes_of k ds)
      (let here : times it.inode (inode_in (get k.descriptions e)) ≡ times it.inode (it.inode ∷ []) = ap (λ o. times it.inode (inode_in o)) (ap (get k.descriptions) same ∙ is) in
      let some : 0 < times it.inode (it.inode ∷ []) = has_first it.inode [] in omega arith)
  | inr away ↦ has_right it.inode (inode_in (get k.descriptions e)) (inodes_of k ds) (has_inode k ds d it (has_rest d e ds away has) is)
]

-- a count that was not 0 is not, or something was lost
pub fewer : (after lost before gained : ℕ) → after + lost ≡ before + gained → 0 < before → (0 < after) ⊎ (0 < lost)
fewer after lost before gained e some = elim (cases_eq lost 0) [
  | inl none ↦ inl (omega arith)
  | inr more ↦ inr (omega arith)
]
