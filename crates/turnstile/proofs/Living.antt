-- The marks of the living processes.
use Rattle.std.proofs.Common.{◌≡◌, ℕ, zero, suc, ◌<◌, Bool, true, false, List, [], ◌∷◌, ◌++◌, map, length, refl, sym, ap, ◌∙◌, inl, inr, arith}
use Rattle.std.specs.Prelude.{if◌then◌else◌, ◌&&◌, nat_lt}
use Rattle.std.proofs.lemmas.Bool.{cases_lt, ltb-true, false≢true}
use Rattle.std.proofs.lemmas.List.{get_or_past}
use Rattle.model.specs.State.{Kernel as State}
use Rattle.model.specs.Moments.{is_alive, all_below}
use Rattle.turnstile.specs.Calls.{has_pass, first_pass, first_passes}
use Rattle.turnstile.specs.Holding.{is_set, Lives}
use Rattle.turnstile.specs.Passes.{Gate, PassView}

and_first : (a b : Bool) → (a && b) ≡ true → a ≡ true
and_first true b is = refl
and_first false b is = absurd (false≢true is)

below_same : (f g : ℕ → Bool) (n : ℕ) → ((i : ℕ) → i < n → f i ≡ g i) → all_below f n ≡ all_below g n
below_same f g zero same = refl
below_same f g (suc n) same = let rest : all_below f n ≡ all_below g n = below_same f g n (λ i l. same i (omega arith)) in
    ap (λ b. if b then all_below f n ++ n ∷ [] else all_below f n) (same n (omega arith)) ∙ ap (λ xs. if g n then xs ++ n ∷ [] else xs) rest

-- a number that is marked is below 2^32
pub marks_small : (k : State) (marks : List Bool) → Lives k marks → (i : ℕ) → is_set marks i ≡ true → i < 4294967296
marks_small k marks lives i set = elim (cases_lt i (length marks)) [
  | inl l ↦ ltb-true i 4294967296 (and_first (nat_lt i 4294967296) (is_alive k i) (sym (lives.each i (let whole = lives.whole in omega arith)) ∙ set))
  | inr past ↦ absurd (false≢true (sym (get_or_past marks i false past) ∙ set))
]

-- the marked numbers are those of the living processes
pub marked_passes : (gate : Gate) (k : State) (marks : List Bool) → Lives k marks → (passes : List PassView) → passes ≡ map (first_pass gate) (all_below (is_set marks) (length marks)) → passes ≡ first_passes gate k
marked_passes gate k marks lives passes is =
    is ∙ (ap (λ n. map (first_pass gate) (all_below (is_set marks) n)) lives.whole ∙ ap (map (first_pass gate)) (below_same (is_set marks) (has_pass k) (suc k.made) lives.each))
