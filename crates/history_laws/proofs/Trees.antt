-- In a well-formed state in which nothing is unreached the directories are a tree.
use Rattle.std.proofs.Common.{◌≡◌, ◌≢◌, ℕ, ◌≤◌, Bool, true, false, cond, Option, Some, None, refl, sym, ap, subst, ◌∙◌, arith, ◌==◌, nat_lt, inl, inr, eqb-true}
use Rattle.std.specs.Cmp.{nat_cmp_total}
use Rattle.std.proofs.lemmas.Bool.{cases_eq}
use Rattle.model.specs.FiniteMap.{get}
use Rattle.model.specs.State.{Kernel, Inode, Description, A_directory, kind, kind_of, links, mapped}
use Rattle.model.specs.Changes.{is_held, openings, without_descriptions, tidy}
use Rattle.call_laws.specs.WellFormed.{WellFormed, CanBeOpened, IsRooted}
use Rattle.call_laws.proofs.Laws.{not_none, retained_some, sum-zero, reached, either_of, get_tidy, directories_are_a_tree_lem}
use Rattle.history_laws.proofs.FromCallLaws.{FromCallLaws}
use Rattle.history_laws.specs.Trees.{IsATree, CommittedDirectoriesAreATree}
use Rattle.history_laws.proofs.Standing.{what_stands}

-- no description is open on a directory
not_open : (k : Kernel) → WellFormed k → (d : ℕ) → kind_of k d ≡ Some A_directory → openings (without_descriptions k) d ≡ 0
unfolding openings
not_open k well d is = sum-zero nat_cmp_total (λ (it : Description). cond (it.inode == d) 1 0) (without_descriptions k).descriptions (λ n it e. by_test it (it.inode == d) refl (well.descriptions n it (retained_some k.descriptions (is_held k) n it e).1))
  where
    by_test : (it : Description) (b : Bool) → (it.inode == d) ≡ b → CanBeOpened (kind_of k it.inode) → ◌≡◌ {A = ℕ} (cond b 1 0) 0
    by_test it true same can = absurd (subst CanBeOpened (ap (kind_of k) (eqb-true it.inode d same) ∙ is) can)
    by_test it false same can = refl

-- what tidying leaves is reached
left : (k : Kernel) → tidy k ≡ k → (d : ℕ) → kind_of k d ≡ Some A_directory → reached k d ≡ true
left k tidied d is = by_test (reached k d) refl
  where
    gone : kind_of k d ≡ None → reached k d ≡ true
    gone none = absurd (not_none A_directory (sym is ∙ none))

    by_test : (b : Bool) → reached k d ≡ b → reached k d ≡ true
    by_test true e = e
    by_test false e = gone (ap (λ (x : Option Inode). mapped kind x) (ap (λ k. get k.inodes d) (sym tidied) ∙ get_tidy k d ∙ ap (λ b. cond b (get k.inodes d) None) e))

module _ (k : Kernel) (well : WellFormed k) (tidied : tidy k ≡ k) where
  named : (d : ℕ) → kind_of k d ≡ Some A_directory → d ≢ k.root → links k d ≢ 0
  unfolding links
  named d is other none = either_of (d == k.root) (nat_lt 0 (links k d)) (nat_lt 0 (openings (without_descriptions k) d)) ⊥ (left k tidied d is)
      (λ root. other (eqb-true d k.root root))
      (λ some. absurd (let zero : nat_lt 0 (links k d) ≡ false = ap (nat_lt 0) none in let bad : true ≡ false = sym some ∙ zero in cc))
      (λ some. absurd (let zero : nat_lt 0 (openings (without_descriptions k) d) ≡ false = ap (nat_lt 0) (not_open k well d is) in let bad : true ≡ false = sym some ∙ zero in cc))

  rooted : (d : ℕ) → kind_of k d ≡ Some A_directory → IsRooted k d
  rooted d is = record {
    directory = is;
    rooted = λ none. elim (cases_eq d k.root) [
      | inl same ↦ same
      | inr other ↦ absurd (named d is other none)
    ];
  }

  pub is_a_tree : IsATree k
  is_a_tree = record {
    root = well.root;
    no_entry = well.root_unnamed;
    one_entry = λ d is other. let most : links k d ≤ 1 = well.one_name d is in let some : links k d ≢ 0 = named d is other in omega arith;
    path = λ d is. (directories_are_a_tree_lem k well).path d (rooted d is);
    one_path = (directories_are_a_tree_lem k well).one_path;
    no_ring = λ d path is. (directories_are_a_tree_lem k well).no_ring d path (rooted d is);
  }

pub committed_tree : FromCallLaws CommittedDirectoriesAreATree
committed_tree laws root setup limit es legal =
    let stands = (what_stands laws root setup limit es legal).committed in
    is_a_tree _ stands.well stands.tidied
