-- Numbers that can be chosen: what is no inode and no description is nowhere, and there are always more.
use Rattle.std.proofs.Common.{◌≡◌, ℕ, zero, suc, ◌+◌, ◌≤◌, true, false, ◌||◌, List, [], ◌∷◌, length, Option, Some, None, is_some, sum_by, refl, sym, ap, subst, ◌∙◌, arith, nat_cmp}
use Rattle.std.specs.List.{AllByRecursion, list_any}
use Rattle.std.specs.Ordering.{eq_by_cmp}
use Rattle.std.proofs.lemmas.List.Sums.{sum_by-cons}
use Rattle.model.specs.FiniteMap.{FinMap, get, keys, contains_key-keys, nat_cmp-IsAntisymmetric}
use Rattle.model.specs.State.{kind, mapped}
use Rattle.model.specs.Plan.{rising}
use Rattle.model.specs.Changes.{news}
use Rattle.model.specs.Steps.{IsNowhere, AllDifferent, edits}
use Rattle.model.proofs.Laws.{tie}
use Rattle.call_laws.specs.WellFormed.{CanBeNamed}
use Rattle.call_laws.specs.Numbers.{UnusedNumbersAreNowhere, EveryCallCanBeMade}
use Rattle.call_laws.proofs.Maps.{not_none, all-mapped}
use Rattle.call_laws.proofs.edits.Rights.{unset}

pub unused_nowhere : UnusedNumbersAreNowhere
unused_nowhere k n well no_inode no_description = record {
  inode = no_inode;
  rights = unset k n well no_inode;
  description = no_description;
  unnamed = λ d x e. subst CanBeNamed (ap (mapped kind) no_inode) (well.names d x n e);
  unheld = λ pid f e. let there = well.slots pid f n e in not_none there.0 (sym there.1 ∙ no_description);
}

-- above all keys of a map
above : {X : Type 0} → FinMap nat_cmp X → ℕ
above m = suc (sum_by (λ n. n) (keys m))

among_keys : (q : ℕ) (ks : List ℕ) → list_any (eq_by_cmp nat_cmp q) ks ≡ true → q ≤ sum_by (λ n. n) ks
among_keys q [] e = absurd cc
among_keys q (n ∷ ns) e =
    let all : sum_by (λ n. n) (n ∷ ns) ≡ n + sum_by (λ n. n) ns = sum_by-cons (λ n. n) n ns in
    elim (eq_by_cmp nat_cmp q n) as (λ b. eq_by_cmp nat_cmp q n ≡ b → (b || list_any (eq_by_cmp nat_cmp q) ns) ≡ true → q ≤ sum_by (λ n. n) (n ∷ ns)) [
      | true ↦ λ is _. let same : q ≡ n = nat_cmp-IsAntisymmetric q n (tie (nat_cmp q n) is) in omega arith
      | false ↦ λ is rest. let low : q ≤ sum_by (λ n. n) ns = among_keys q ns rest in omega arith
    ] refl e

none_above : {X : Type 0} (m : FinMap nat_cmp X) (q : ℕ) → above m ≤ q → get m q ≡ None
unfolding above
none_above {X} m q high = by_value (get m q) refl
  where
    by_value : (x : Option X) → get m q ≡ x → x ≡ None
    by_value None e = refl
    by_value (Some x) e = absurd (let low : q ≤ sum_by (λ n. n) (keys m) = among_keys q (keys m) (sym (contains_key-keys m q) ∙ ap is_some e) in omega arith)

-- the numbers from one on
length-rising : (first count : ℕ) → length (rising first count) ≡ count
length-rising first zero = refl
length-rising first (suc count) = let rest : length (rising (suc first) count) ≡ count = length-rising (suc first) count in omega arith

rising_from : (first count : ℕ) → AllByRecursion (λ n. first ≤ n) (rising first count)
rising_from first zero = tt
rising_from first (suc count) = (omega arith, all-mapped (rising (suc first) count) (λ n h. let more : suc first ≤ n = h in omega arith) (rising_from (suc first) count))

rising_different : (first count : ℕ) → AllDifferent (rising first count)
rising_different first zero = tt
rising_different first (suc count) = (all-mapped (rising (suc first) count) (λ n h e. let more : suc first ≤ n = h in omega (arith, e)) (rising_from (suc first) count), rising_different (suc first) count)

pub can_be_made : EveryCallCanBeMade
can_be_made k pid call well alive =
    let first : ℕ = above k.inodes + above k.descriptions in
    let count : ℕ = sum_by news (edits k pid call) in
    let nowhere : (n : ℕ) → above k.inodes + above k.descriptions ≤ n → IsNowhere k n = λ n high. unused_nowhere k n well (none_above k.inodes n (omega arith)) (none_above k.descriptions n (omega arith)) in (
      rising first count,
      record {
        well = well;
        alive = alive;
        numbers = record {
          count = length-rising first count;
          unused = all-mapped (rising first count) nowhere (rising_from first count);
          different = rising_different first count;
        };
      },
    )
