-- The processes that are there at the start, and what a run of all comes to.
use Rattle.std.proofs.Common.{◌≡◌, ℕ, zero, suc, ◌<◌, ◌≤◌, List, [], ◌∷◌, ◌++◌, inl, inr, length, map, refl, sym, ◌∙◌, ap, subst, true, false, Bool, arith}
use Rattle.std.specs.Prelude.{if◌then◌else◌, nat_lt, ◌&&◌}
use Rattle.std.specs.List.{AllByRecursion}
use Rattle.std.proofs.lemmas.Bool.{cases_lt}
use Rattle.std.proofs.lemmas.Bool.Decides.{nat_tests}
use Rattle.call_laws.proofs.Laws.{first_processes_live}
use Rattle.history.specs.Log.{Log}
use Rattle.ids.specs.declared.limits.Limits.{Limits}
use Rattle.ids.specs.declared.limits.TheConstants.{MAX_PROCESSES}
use Rattle.model.specs.Moments.{Setup, all_below, is_alive, start}
use Rattle.ports.proofs.Called.{begins_on}
use Rattle.ports.proofs.Found.{Among, AreWorked, all_among, among_left, among_right, gates, waiting_found, works}
use Rattle.ports.specs.Runs.{IsRunByThreads}
use Rattle.script.specs.Contents.{ScriptContents}
use Rattle.turnstile.specs.Calls.{KeepsPass, first_pass, first_passes, has_pass, living_numbers}
use Rattle.turnstile.specs.Histories.{Begins, IsLegal}
use Rattle.turnstile.specs.Passes.{Gate, PassView}
use Rattle.ids.specs.Bounds.{bounds_of}

below_among : (test : ℕ → Bool) (n q : ℕ) → test q ≡ true → q < n → Among (all_below test n) q
below_among test zero q holds low = absurd (omega arith)
below_among test (suc n) q holds low = elim (cases_lt q n) [
  | inl below ↦ (let here = below_among test n q holds below in
      elim (test n) as (λ b. Among (if b then all_below test n ++ n ∷ [] else all_below test n) q) [
        | true ↦ among_left (all_below test n) (n ∷ []) q here
        | false ↦ here
      ])
  | inr above ↦ (let is : n ≡ q = omega arith in
      let last : test n ≡ true = ap test is ∙ holds in
      subst (λ (b : Bool). Among (if b then all_below test n ++ n ∷ [] else all_below test n) q) (sym last) (among_right (all_below test n) (n ∷ []) q (inl is)))
]

-- each process that is there at the start is one of those that get a pass
living : (setup : Setup) → length setup.priorities ≤ MAX_PROCESSES
    → (q : ℕ) → 0 < q → q ≤ length setup.priorities → Among (living_numbers (start 0 setup)) q
living setup few zero positive low = absurd (omega arith)
living setup few (suc i) positive low =
    let firsts = first_processes_live 0 setup in
    let alive : is_alive (start 0 setup) (suc i) ≡ true = firsts.alive i (omega arith) in
    let small : nat_lt (suc i) 4294967296 ≡ true = grind (arith, nat_tests) in
    let has : has_pass (start 0 setup) (suc i) ≡ true = ap (λ (b : Bool). b && is_alive (start 0 setup) (suc i)) small ∙ alive in
    let made : (start 0 setup).made ≡ length setup.priorities = firsts.made in
    below_among (has_pass (start 0 setup)) (suc (start 0 setup).made) (suc i) has (omega arith)

-- the first passes are those of the living processes
pub numbers_of : (g : Gate) (qs : List ℕ) → map (λ (p : PassView). p.pid) (map (first_pass g) qs) ≡ qs
numbers_of g [] = refl
numbers_of g (q ∷ qs) = ap (λ (xs : List ℕ). q ∷ xs) (numbers_of g qs)

-- they have seen what was there when the turnstile was made
pub firsts_begun : (g : Gate) (qs : List ℕ) → AllByRecursion (λ (p : PassView). p.seen ≡ p.gate.start) (map (first_pass g) qs)
firsts_begun g [] = tt
firsts_begun g (q ∷ qs) = (refl, firsts_begun g qs)

-- what the kernel of a run is given
abbrev pub setup_for : ScriptContents → Limits → Setup
setup_for script limits = record { priorities = script.priorities; bounds = bounds_of limits }

-- the kernel that a turnstile begins with has no entry
pub record IsFresh (script : ScriptContents) (limits : Limits) (g : Gate) : Type 0 where
  pub gate : g.start ≡ record { entries = []; priorities = script.priorities; limit = limits.entries; forgotten = []; bounds = bounds_of limits }
  pub some : 0 < length script.priorities
  pub few : length script.priorities ≤ MAX_PROCESSES

-- a run whose passes have all come back
pub has_run : (script : ScriptContents) (limits : Limits) (g : Gate) (passes : List PassView) (log : Log)
    → IsFresh script limits g → AreWorked script.lines g (map (λ (p : PassView). p.pid) (first_passes g (start 0 (setup_for script limits)))) passes
    → AllByRecursion (λ (p : PassView). Begins p.gate.start p.seen) passes → AllByRecursion (KeepsPass log) passes → IsLegal log
    → IsRunByThreads script limits log
has_run script limits g passes log fresh came begun kept legal =
    let setup : Setup = setup_for script limits in
    let initial : List ℕ = living_numbers (start 0 setup) in
    let numbers = numbers_of g initial in
    let worked : AreWorked script.lines g initial passes = subst (λ (w : List ℕ). AreWorked script.lines g w passes) numbers came in
    let one = waiting_found script.lines g initial passes worked 1 (living setup fresh.few 1 (omega arith) (omega arith)) in
    let gate : one.pass.gate ≡ g = all_among (λ (p : PassView). p.gate ≡ g) passes one.pass (gates script.lines g initial passes worked) one.among in
    let start_is = ap (λ (h : Gate). h.start) gate ∙ fresh.gate in
    let grown : Begins one.pass.gate.start log =
    begins_on one.pass.gate.start one.pass.seen log
    (all_among (λ (p : PassView). Begins p.gate.start p.seen) passes one.pass begun one.among)
    (all_among (KeepsPass log) passes one.pass kept one.among).longer in
    let priorities : log.priorities ≡ script.priorities = grown.priorities ∙ ap (λ (l : Log). l.priorities) start_is in
    record {
      legal = legal.legal;
      same_priorities = priorities;
      same_limit = grown.limit ∙ ap (λ (l : Log). l.limit) start_is;
      same_bounds = grown.bounds ∙ ap (λ (l : Log). l.bounds) start_is;
      whole = grown.forgotten ∙ ap (λ (l : Log). l.forgotten) start_is;
      works = works script.lines g initial passes log worked kept legal.legal
          (λ q positive low. living setup fresh.few q positive (subst (λ (ps : List ℕ). q ≤ length ps) priorities low));
    }
