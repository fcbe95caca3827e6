-- The processes that are there at the start.
use Rattle.std.proofs.Common.{◌≡◌, ◌≢◌, ℕ, zero, suc, ◌+◌, ◌<◌, ◌≤◌, List, [], ◌∷◌, length, get_or, Some, is_some, refl, ◌∙◌, ap, ◌⊎◌, inl, inr, arith}
use Rattle.std.specs.Ordering.{nat_cmp}
use Rattle.model.specs.FiniteMap.{FinMap, get, empty, insert, get-empty}
use Rattle.model.specs.State.{Process}
use Rattle.model.specs.Changes.{or_new}
use Rattle.model.specs.Moments.{with_processes}
use Rattle.model.proofs.Laws.{get_same, get_other}
use Rattle.call_laws.specs.Processes.{FirstProcessesLive}

-- the processes that are there at the start
abbrev fresh : ℕ → Process
fresh p = record { table = empty; priority = p }

untouched : (made : ℕ) (ps : List ℕ) (m : FinMap nat_cmp Process) (q : ℕ) → (q ≤ made) ⊎ (made + length ps < q) → get (with_processes made ps m) q ≡ get m q
untouched made [] m q out = refl
untouched made (p ∷ ps) m q out =
    let ne : q ≢ suc made = (λ same. let is : q ≡ suc made = same in elim out [ inl low ↦ absurd (omega arith) | inr high ↦ absurd (omega arith) ]) in
    untouched (suc made) ps (insert m (suc made) (fresh p)) q (elim out [ inl low ↦ inl (omega arith) | inr high ↦ inr (omega arith) ])
    ∙ get_other m (suc made) q (fresh p) ne

placed : (made : ℕ) (ps : List ℕ) (m : FinMap nat_cmp Process) (i : ℕ) → i < length ps → get (with_processes made ps m) (suc (made + i)) ≡ Some (fresh (get_or ps i 0))
placed made [] m i low = absurd (omega arith)
placed made (p ∷ ps) m zero low =
    let here : suc (made + 0) ≡ suc made = omega arith in
    ap (get (with_processes (suc made) ps (insert m (suc made) (fresh p)))) here
    ∙ untouched (suc made) ps (insert m (suc made) (fresh p)) (suc made) (inl (omega arith)) ∙ get_same m (suc made) (fresh p)
placed made (p ∷ ps) m (suc i) low =
    let here : suc (made + suc i) ≡ suc (suc made + i) = omega arith in
    ap (get (with_processes (suc made) ps (insert m (suc made) (fresh p)))) here ∙ placed (suc made) ps (insert m (suc made) (fresh p)) i (omega arith)

pub first_processes_live : FirstProcessesLive
first_processes_live root setup = record {
  made = refl;
  alive = λ i low. ap is_some (there i low);
  priority = λ i low. ap (λ o. (or_new o).priority) (there i low);
  none = λ q out. ap is_some (untouched 0 setup.priorities empty q (elim out [
    | inl zero_th ↦ (let none : q ≡ 0 = zero_th in inl (omega arith))
    | inr high ↦ (let above : length setup.priorities < q = high in inr (omega arith))
  ]) ∙ get-empty nat_cmp q);
} where
  there : (i : ℕ) → i < length setup.priorities → get (with_processes 0 setup.priorities empty) (suc i) ≡ Some (fresh (get_or setup.priorities i 0))
  there i low = (let here : suc i ≡ suc (0 + i) = omega arith in ap (get (with_processes 0 setup.priorities empty)) here ∙ placed 0 setup.priorities empty i low)
