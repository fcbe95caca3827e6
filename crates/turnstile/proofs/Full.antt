-- A machine whose history has no place, for the tests.
use Rattle.std.proofs.Common.{◌≡◌, ℕ, zero, suc, ◌<◌, ◌≤◌, List, [], Bool, true, false, refl, sym, ◌∙◌, ap, subst, inl, inr, length, arith, rules, ◌-◌, ◌∷◌, ◌++◌, ◌+◌}
use Rattle.std.specs.Prelude.{if◌then◌else◌, nat_le, sum}
use Rattle.std.proofs.lemmas.Bool.Decides.{nat_tests}
use Rattle.call_laws.proofs.Laws.{first_processes_live}
use Rattle.history.specs.Log.{Log, all_forgotten, kept as kept_entries}
use Rattle.history_laws.proofs.Laws.{forgetting_is_legal}
use Rattle.std.proofs.lemmas.List.{length-drop}
use Rattle.std.proofs.lemmas.List.Sums.{sum_by-append}
use Rattle.history_laws.proofs.Laws.{legal_start, serializable_at}
use Rattle.history_laws.specs.Headline.{IsSerializable}
use Rattle.ids.specs.declared.call.Op.{Op}
use Rattle.machine.specs.Shown.{limit_of, setup_of, Kept, Shown}
use Rattle.machine.specs.Steps.{IsStep, has_place}
use Rattle.model.specs.Entries.{Do, Begin, End, Abort, HistoryFull}
use Rattle.model.specs.Legal.{Legal}
use Rattle.model.specs.Moments.{gone, idle, Setup, after, is_alive, start}
use Rattle.model.specs.Replies.{needed}
use Rattle.model.specs.Limits.{Bounds}

abbrev pub full : Log → Shown
full l = record { log = l; state = start 0 (setup_of l) }

pub holds : (l : Log) → l.entries ≡ [] → sum l.forgotten ≡ 0 → Kept (full l)
holds l none whole = record {
  legal = subst (λ es. Legal 0 (setup_of l) (limit_of l) es) (sym none) (legal_start 0 (setup_of l) (limit_of l));
  state = ap (λ es. (after 0 (setup_of l) es).committed) (sym none);
  forgot = omega (arith, whole);
}

pub kept : (l : Log) (v : Shown) → full l ≡ v → l.entries ≡ [] → sum l.forgotten ≡ 0 → Kept v
kept l v is none whole = subst Kept is (holds l none whole)

pub serial : (l : Log) (v : Shown) → full l ≡ v → l.entries ≡ [] → sum l.forgotten ≡ 0 → IsSerializable 0 (setup_of v.log) (limit_of v.log) v.log.entries v.state
serial l v is none whole = let k = kept l v is none whole in serializable_at 0 _ _ _ _ k.legal k.state

-- a setup by its parts
abbrev with_parts : List ℕ → Bounds → Setup
with_parts priorities bounds = record { priorities = priorities; bounds = bounds }

pub made : (priorities : List ℕ) (bounds : Bounds) → length priorities ≡ (start 0 (with_parts priorities bounds)).made
made priorities bounds = sym (first_processes_live 0 (with_parts priorities bounds)).made

-- who lives at the start
pub nobody : (l : Log) (v : Shown) (pid : ℕ) → full l ≡ v → pid ≡ 0 → false ≡ is_alive v.state pid
nobody l v pid is zeroth =
    sym ((first_processes_live 0 (setup_of l)).none 0 (inl refl)) ∙ ap (λ (s : Shown). is_alive s.state 0) is ∙ ap (is_alive v.state) (sym zeroth)

living : (priorities : List ℕ) (bounds : Bounds) (q : ℕ) → 0 < q → nat_le q (length priorities) ≡ is_alive (start 0 (with_parts priorities bounds)) q
living priorities bounds zero some = absurd (omega arith)
living priorities bounds (suc i) some = elim (nat_le (suc i) (length priorities)) as (λ b. nat_le (suc i) (length priorities) ≡ b → b ≡ is_alive (start 0 (with_parts priorities bounds)) (suc i)) [
  | true ↦ (λ e. let low : i < length priorities = grind (arith, nat_tests) in sym ((first_processes_live 0 (with_parts priorities bounds)).alive i low))
  | false ↦ (λ e. let above : length priorities < suc i = grind (arith, nat_tests) in sym ((first_processes_live 0 (with_parts priorities bounds)).none (suc i) (inr above)))
] refl

pub lives : (l : Log) (v : Shown) (ps : List ℕ) (q pid : ℕ) → full l ≡ v → ps ≡ l.priorities → q ≡ pid → 0 < q → nat_le q (length ps) ≡ is_alive v.state pid
lives l v ps q pid is same number some =
    ap (λ (xs : List ℕ). nat_le q (length xs)) same ∙ living l.priorities l.bounds q some ∙ ap (λ (s : Shown). is_alive s.state q) is ∙ ap (is_alive v.state) number

needs_a_place : (b : Bool) (op : Op) → 1 ≤ needed (if b then idle else gone) op
needs_a_place true (Begin flags) = omega arith
needs_a_place true (Do call) = omega arith
needs_a_place true End = omega arith
needs_a_place true (Abort no_restart) = omega arith
needs_a_place false op = omega arith

no_place : (priorities counts : List ℕ) (bounds : Bounds) → sum counts ≡ 0 → (pid : ℕ) (op : Op) → has_place (record { entries = []; priorities = priorities; limit = 0; forgotten = counts; bounds = bounds }) pid op ≡ false
no_place priorities counts bounds none pid op =
    let some = needs_a_place (is_alive (start 0 (with_parts priorities bounds)) pid) op in
    let all = forgetting_is_legal.all (record { capacity = 0; forgotten = counts }) (after 0 (with_parts priorities bounds) []).entries (omega (arith, none)) in
    grind (arith, nat_tests, none, all)

holds_step : (l : Log) → l.entries ≡ [] → l.limit ≡ 0 → sum l.forgotten ≡ 0 → (pid : ℕ) (op : Op) → IsStep (full l) (full l) pid op HistoryFull
holds_step l none limit whole pid op =
    let log : l ≡ record { entries = []; priorities = l.priorities; limit = 0; forgotten = l.forgotten; bounds = l.bounds } = search rules in
    record {
      entry = refl;
      full = ((λ e. ap (λ (l : Log). has_place l pid op) log ∙ no_place l.priorities l.forgotten l.bounds whole pid op), λ e. refl);
      memory = λ e same. cc same;
    }

pub step : (l : Log) (v : Shown) (pid : ℕ) (op : Op) → full l ≡ v → l.entries ≡ [] → l.limit ≡ 0 → sum l.forgotten ≡ 0 → IsStep v v pid op HistoryFull
step l v pid op is none limit whole = subst (λ (s : Shown). IsStep s s pid op HistoryFull) is (holds_step l none limit whole pid op)

-- where nothing was kept, nothing more is forgotten
pub forgot_none : (l new : Log) (b : Bool) → l.entries ≡ [] → l.limit ≡ 0 → sum l.forgotten ≡ 0 → (b ≡ true → new ≡ all_forgotten l) → (b ≡ false → new ≡ l)
    → (new.entries ≡ []) × (new.limit ≡ 0) × (sum new.forgotten ≡ 0)
forgot_none l new true none limit nought done not_done =
    let is : new ≡ all_forgotten l = done refl in
    let parts : sum (l.forgotten ++ length (kept_entries l) ∷ []) ≡ sum l.forgotten + sum (length (kept_entries l) ∷ []) = sum_by-append (λ n. n) l.forgotten (length (kept_entries l) ∷ []) in
    let empty : length l.entries ≡ 0 = ap length none in
    let left : length (kept_entries l) ≡ length l.entries - sum l.forgotten = length-drop (sum l.forgotten) l.entries in
    let sums : sum (l.forgotten ++ length (kept_entries l) ∷ []) ≡ 0 = omega (arith, parts, empty, left, nought) in
    (ap (λ (l : Log). l.entries) is ∙ none, ap (λ (l : Log). l.limit) is ∙ limit, ap (λ (l : Log). sum l.forgotten) is ∙ sums)
forgot_none l new false none limit nought done not_done =
    let is : new ≡ l = not_done refl in
    (ap (λ (l : Log). l.entries) is ∙ none, ap (λ (l : Log). l.limit) is ∙ limit, ap (λ (l : Log). sum l.forgotten) is ∙ nought)
