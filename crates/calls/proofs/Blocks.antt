-- Runs of blocks, and what is taken from a pipe.
use Rattle.std.proofs.Common.{◌≡◌, ℕ, suc, ◌+◌, List, [], ◌∷◌, ◌++◌, true, false, map, length, refl, sym, ap, ◌∙◌, arith}
use Rattle.model.specs.Aspects.{Block}
use Rattle.model.specs.Plan.{rising}
use Rattle.model.specs.Paths.{is_empty}
use Rattle.model.specs.Calls.{Bytes}
use Rattle.model.specs.Changes.{Take}
use Rattle.model.specs.Plans.{changed, read_pipe}

pub run_more : (f first more : ℕ) → map (Block f) (rising first more) ++ Block f (first + more) ∷ [] ≡ map (Block f) (rising first (more + 1))
run_more f first ℕ.zero = let e : first + 0 ≡ first = omega arith in ap (λ n. Block f n ∷ []) e
run_more f first (suc m) =
    let e : first + suc m ≡ suc first + m = omega arith in
    let l : suc m + 1 ≡ suc (m + 1) = omega arith in
    ap (λ n. map (Block f) (rising first (suc m)) ++ Block f n ∷ []) e
    ∙ ap (λ t. Block f first ∷ t) (run_more f (suc first) m)
    ∙ ap (λ n. map (Block f) (rising first n)) (sym l)

pub taken_plan : (p : ℕ) (bytes : List ℕ) → is_empty bytes ≡ false → read_pipe p bytes ≡ changed (Bytes bytes) (Take p (length bytes) ∷ [])
taken_plan p [] is = absurd (grind (arith, is))
taken_plan p (b ∷ bytes) is = refl

pub nothing_plan : (p : ℕ) (bytes : List ℕ) → is_empty bytes ≡ true → read_pipe p bytes ≡ read_pipe p []
nothing_plan p [] is = refl
nothing_plan p (b ∷ bytes) is = absurd (grind (arith, is))

pub nothing_left : (bytes : List ℕ) → is_empty bytes ≡ true → [] ≡ bytes
nothing_left [] is = refl
nothing_left (b ∷ bytes) is = absurd (grind (arith, is))
