-- The numbers that no entry chose.
use Rattle.std.proofs.Common.{◌≡◌, ◌≢◌, ℕ, ◌+◌, ◌<◌, ◌≤◌, List, [], ◌∷◌, ◌++◌, All, length, get_or, take, IsPermutation, sym, ap, subst, ◌∙◌}
use Rattle.std.specs.List.{AllByRecursion}
use Rattle.std.proofs.lemmas.List.{take_all, take_more}
use Rattle.std.proofs.lemmas.List.Elements.{recursion_from_All}
use Rattle.std.proofs.lemmas.List.Sorted.{All-permutation, IsPermutation-sym}
use Rattle.model.specs.Entries.{Entry}
use Rattle.model.proofs.Laws.{all-append, append-all}
use Rattle.replay.specs.Failing.{IsUnchosen}

-- one entry more
pub unchosen_more : (es : List Entry) (i : ℕ) (e : Entry) (old all ns : List ℕ) → i < length es → e ≡ get_or es i e → all ≡ old ++ ns → ns ≡ e.chosen
    → ((n : ℕ) → AllByRecursion (λ m. m ≢ n) old → IsUnchosen n (take i es)) → (n : ℕ) → AllByRecursion (λ m. m ≢ n) all → IsUnchosen n (take (i + 1) es)
unchosen_more es i e old all ns low is more same before n away =
    let parts = all-append (λ m. m ≢ n) old ns (subst (λ xs. AllByRecursion (λ m. m ≢ n) xs) more away) in
    subst (λ (xs : List Entry). IsUnchosen n xs) (ap (λ (x : Entry). take i es ++ x ∷ []) is ∙ sym (take_more es i e low))
    (append-all (λ (x : Entry). AllByRecursion (λ m. m ≢ n) x.chosen) (take i es) (e ∷ []) (before n parts.0) (subst (λ xs. AllByRecursion (λ m. m ≢ n) xs) same parts.1, tt))

pub unchosen_all : (es : List Entry) (i : ℕ) (ns : List ℕ) → length es ≤ i → ((n : ℕ) → AllByRecursion (λ m. m ≢ n) ns → IsUnchosen n (take i es)) → (n : ℕ) → AllByRecursion (λ m. m ≢ n) ns → IsUnchosen n es
unchosen_all es i ns past h n away = subst (λ (xs : List Entry). IsUnchosen n xs) (take_all i es past) (h n away)

-- what is apart from the sorted numbers is apart from the numbers
pub apart_from_sorted : (n : ℕ) (ns sorted shown : List ℕ) → IsPermutation ns sorted → shown ≡ sorted → All (λ m. m ≢ n) shown → AllByRecursion (λ m. m ≢ n) ns
apart_from_sorted n ns sorted shown moved same apart =
    recursion_from_All (λ m. m ≢ n) ns (All-permutation (λ m. m ≢ n) sorted ns (IsPermutation-sym ns sorted moved) (subst (λ (xs : List ℕ). All (λ m. m ≢ n) xs) same apart))
