-- Queues of operations, one for each process.
use Rattle.std.proofs.Common.{◌≡◌, ℕ, ◌+◌, ◌<◌, List, [], ◌∷◌, ◌++◌, Some, None, Option, Bool, true, false, cond, eqb, zero, suc, length, get_or, set, drop, refl, ap, ◌∙◌, sym, append-nil, slice_get, append_assoc, add-one}
use Rattle.std.proofs.lemmas.Bool.{eqb-true, eq-eqb}
use Rattle.std.proofs.lemmas.List.{get_or-set_same, get_or-set_other}
use Rattle.script.proofs.Drops.{next_of}
use Rattle.ids.specs.declared.call.Op.{Op}
use Rattle.script.specs.declared.read.Line.{Line}
use Rattle.script.specs.Schedules.{times}
use Rattle.script.specs.Steps.{ops_for, steps_after, with_step}

-- the first of what is left is the next
pub slice_get-drop : {A : Type 0} (xs : List A) (k : ℕ) → slice_get (drop k xs) 0 ≡ slice_get xs k
slice_get-drop [] zero = refl
slice_get-drop [] (suc k) = refl
slice_get-drop (x ∷ xs) zero = refl
slice_get-drop (x ∷ xs) (suc k) = slice_get-drop xs k

drop_one-suc : {A : Type 0} (xs : List A) (k : ℕ) → drop 1 (drop k xs) ≡ drop (suc k) xs
drop_one-suc [] zero = refl
drop_one-suc [] (suc k) = refl
drop_one-suc (x ∷ xs) zero = refl
drop_one-suc (x ∷ xs) (suc k) = drop_one-suc xs k

drop_one-drop : {A : Type 0} (xs : List A) (k : ℕ) → drop 1 (drop k xs) ≡ drop (k + 1) xs
drop_one-drop xs k = rw add-one (drop_one-suc xs k)

taken_at : (queues : List (List Op)) (p pid k : ℕ) (before : List ℕ) (lines : List Line) (old : List Op) → pid < length queues → old ≡ get_or queues pid []
    → old ≡ drop (times pid before) (ops_for pid lines) → get_or queues p [] ≡ drop (times p before) (ops_for p lines) → (t : Bool) → eqb pid p ≡ t
    → get_or (set queues pid (drop 1 old)) p [] ≡ drop (cond t (times p before + 1) (times p before)) (ops_for p lines)
taken_at queues p pid k before lines old room is here same true e =
    let at : pid ≡ p = eqb-true pid p e in
    ap (λ (q : ℕ). get_or (set queues pid (drop 1 old)) q []) (sym at)
    ∙ get_or-set_same queues pid (drop 1 old) [] room
    ∙ ap (λ (ops : List Op). drop 1 ops) here ∙ drop_one-drop (ops_for pid lines) (times pid before)
    ∙ ap (λ (q : ℕ). drop (times q before + 1) (ops_for q lines)) at
taken_at queues p pid k before lines old room is here same false e =
    get_or-set_other queues pid p (drop 1 old) [] (λ (at : p ≡ pid). cc (eq-eqb pid p (sym at), e)) ∙ same

-- a step takes the first operation of its process's queue, and leaves the others
pub taken : (queues : List (List Op)) (p pid : ℕ) (before : List ℕ) (lines : List Line) (old : List Op) → pid < length queues → old ≡ get_or queues pid []
    → old ≡ drop (times pid before) (ops_for pid lines) → get_or queues p [] ≡ drop (times p before) (ops_for p lines)
    → get_or (set queues pid (drop 1 old)) p [] ≡ drop (times p (pid ∷ before)) (ops_for p lines)
taken queues p pid before lines old room is here same = taken_at queues p pid 0 before lines old room is here same (eqb pid p) refl

with_step-append : (pid : ℕ) (found : Option Op) (front rest : List (ℕ × Op)) → front ++ with_step pid found rest ≡ (front ++ with_step pid found []) ++ rest
with_step-append pid None front rest = ap (λ (xs : List (ℕ × Op)). xs ++ rest) (sym (append-nil front))
with_step-append pid (Some op) front rest = sym (append_assoc front ((pid, op) ∷ []) rest)

-- the steps so far and those to come, where one more is taken
pub stepped : (lines : List Line) (pids before : List ℕ) (i pid : ℕ) (old : List Op) (found : Option Op) (steps : List (ℕ × Op))
    → i < length pids → pid ≡ get_or pids i pid → old ≡ drop (times pid before) (ops_for pid lines) → found ≡ slice_get old 0
    → steps ++ steps_after lines before (drop i pids) ≡ (steps ++ with_step pid found []) ++ steps_after lines (pid ∷ before) (drop (i + 1) pids)
stepped lines pids before i pid old found steps below is here taken =
    let rest : List (ℕ × Op) = steps_after lines (pid ∷ before) (drop (i + 1) pids) in
    ap (λ (xs : List ℕ). steps ++ steps_after lines before xs) (next_of pids i pid below is)
    ∙ ap (λ (o : Option Op). steps ++ with_step pid o rest)
    (sym (slice_get-drop (ops_for pid lines) (times pid before)) ∙ ap (λ (ops : List Op). slice_get ops 0) (sym here) ∙ sym taken)
    ∙ with_step-append pid found steps rest
