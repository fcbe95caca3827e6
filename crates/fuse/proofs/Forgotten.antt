-- Reading forgets one after the other, as a loop does.
use Rattle.std.proofs.Common.{◌≡◌, ℕ, suc, ◌+◌, ◌-◌, ◌<◌, ◌≤◌, List, [], ◌∷◌, ◌++◌, drop, sym, ◌∙◌, append_assoc, arith}
use Rattle.std.proofs.lemmas.List.{append-nil}
use Rattle.fuse.specs.declared.forgets.Forget.{Forget}
use Rattle.fuse.specs.Bodies.{forgets_in}
use Rattle.fuse.specs.Numbers.{u64_at}

-- the first of the bytes
abbrev pub first_in : List ℕ → Forget
first_in bytes = record { node = u64_at bytes 0; lookups = u64_at bytes 8 }

-- one more is read
pub goes_on : (front : List Forget) (count i : ℕ) (rest : List ℕ) (all : List Forget) → i < count
    → front ++ forgets_in (count - i) rest ≡ all
    → (front ++ first_in rest ∷ []) ++ forgets_in (count - (i + 1)) (drop 16 rest) ≡ all
unfolding forgets_in
goes_on front count i rest all lt so_far =
    let k : count - i ≡ suc (count - (i + 1)) = omega arith in
    let one : front ++ forgets_in (count - i) rest ≡ (front ++ first_in rest ∷ []) ++ forgets_in (count - (i + 1)) (drop 16 rest) = rw k (sym (append_assoc front (first_in rest ∷ []) (forgets_in (count - (i + 1)) (drop 16 rest)))) in
    sym one ∙ so_far

-- nothing is left to be read
pub is_done : (front : List Forget) (count i : ℕ) (rest : List ℕ) (all : List Forget) → count ≤ i
    → front ++ forgets_in (count - i) rest ≡ all → front ≡ all
unfolding forgets_in
is_done front count i rest all le so_far =
    let k : count - i ≡ 0 = omega arith in
    let one : front ++ forgets_in (count - i) rest ≡ front = rw k (append-nil front) in
    sym one ∙ so_far
