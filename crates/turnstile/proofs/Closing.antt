-- What the closing seat learns of the passes that it collects, and what it starts with.
use Rattle.std.proofs.Common.{◌≡◌, ℕ, arith, map, Option, Some, None, IfSome, All, List, [], ◌∷◌, ◌++◌, refl, sym, ap, ◌∙◌, subst}
use Rattle.std.proofs.lemmas.List.Elements.{All-cons, All-push, All-same}
use Rattle.atomic_table.specs.Table.{Me, Step, rest, opening}
use Rattle.history.specs.Log.{Log}
use Rattle.machine.specs.Shown.{Shown}
use Rattle.turnstile.specs.Histories.{IsLegal}
use Rattle.turnstile.specs.Rule.{Kept, collected, checked}
use Rattle.model.specs.State.{Kernel as State}
use Rattle.turnstile.specs.Calls.{KeepsPass, first_pass, first_passes, living_numbers}
use Rattle.turnstile.specs.Passes.{Gate, PassView, pass_of, pass_view}
use Rattle.turnstile.specs.Holding.{closer_of}
use Rattle.turnstile.specs.declared.rule.Role.{Role}
use Rattle.turnstile.specs.declared.rule.Role.TheVariants.{Deals, Process, Closes, Checks}
use Rattle.turnstile.proofs.Calls.{history}
use Rattle.turnstile.proofs.Steps.{opens, checked_all}

pub opens_at : {K : Type 0} (shown : K → Shown) (key : Log) (items : List (Option K)) (k : K) → key ≡ (shown k).log → items ≡ Some k ∷ [] → IsLegal (shown k).log → Kept (history shown) IsLegal key (opening (0 ∷ []) items (Deals 0 key))
opens_at {K = K} shown key items k is at legal = subst (λ (x : Log × List (Option K)). Kept (history shown) IsLegal x.0 (opening (0 ∷ []) x.1 (Deals 0 x.0))) (λ i. (sym is i, sym at i)) (opens (history shown) IsLegal (shown k).log k refl legal)

-- the state of the closing seat that has collected a pass
pub collected_is : (v w : Role) → v ≡ Closes (closer_of v) → w ≡ Process (pass_of w) → collected v w ≡ Checks (closer_of v) (pass_of w)
collected_is v w is at = λ i. collected (is i) (at i)

-- the history has all that the pass had seen
pub checks_pass : {K : Type 0} (st : Step (Option K)) (m m' : Me (Option K) Role) (n : ℕ) (z : _) (v w : Role) (cs : List (ℕ × Option K)) → v ≡ Closes (closer_of v) → w ≡ Process (pass_of w) → m ≡ (collected v w, cs) → checked st m n m'
    → (m' ≡ (v, cs)) × KeepsPass (closer_of v) (pass_view z (pass_of w))
checks_pass {K = K} st m m' n z v w cs is at mid then = let t = checked_all st m m' n (closer_of v) (pass_of w) (ap (λ (x : Me (Option K) Role). x.0) mid ∙ collected_is v w is at) then in
    (t.0 ∙ (λ i. (sym is i, (ap (λ (x : Me (Option K) Role). x.1) mid) i)), record { longer = t.1; own_kept = t.2 })

pub one_more : (P : PassView → Type 0) (all xs ys : List PassView) (p : PassView) → xs ≡ ys ++ p ∷ [] → P p → (All P xs → All P all) → All P ys → All P all
one_more P all xs ys p is here so rest = so (All-same P xs (ys ++ p ∷ []) is (All-push P ys p rest here))

abbrev head_or : {K : Type 0} → List (ℕ × Option K) → Option K
head_or [] = None
head_or (y ∷ ys) = y.1

-- the kernel that comes out of the slot at the end
pub closes_out : {K : Type 0} (shown : K → Shown) (x : Option K) (m m' : Me (Option K) Role) (k : K) (passes : List PassView) → m ≡ (Closes (shown k).log, (0, Some k) ∷ []) → m' ≡ m → m'.1 ≡ (0, x) ∷ rest m'.1
    → All (KeepsPass (closer_of m.0)) passes → IfSome x (λ kernel. All (KeepsPass (shown kernel).log) passes)
closes_out {K = K} shown x m m' k passes is same out keeps = let e : x ≡ Some k = ap head_or (sym out ∙ ap (λ (m : Me (Option K) Role). m.1) (same ∙ is)) in
    subst (λ (x : Option K). IfSome x (λ kernel. All (KeepsPass (shown kernel).log) passes)) (sym e) (subst (λ (m : Me (Option K) Role). All (KeepsPass (closer_of m.0)) passes) is keeps)

pub first_gates : (gate : Gate) (k : State) → All (λ p. p.gate ≡ gate) (first_passes gate k)
first_gates gate k = go (living_numbers k)
  where
    go : (ns : List ℕ) → All (λ p. p.gate ≡ gate) (map (first_pass gate) ns)
    go [] = λ k d l. absurd (omega arith)
    go (n ∷ ns) = All-cons (λ (p : PassView). p.gate ≡ gate) (first_pass gate n) (map (first_pass gate) ns) refl (go ns)
