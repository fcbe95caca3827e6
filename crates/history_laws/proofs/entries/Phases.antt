-- What one right entry does to the phases and to the count of reserved places.
use Rattle.std.proofs.Common.{◌≡◌, ◌≢◌, ℕ, ◌+◌, ◌≤◌, List, [], ◌∷◌, Some, Result, refl, sym, ◌∙◌, ap, ap₂, true, false, Bool, inl, inr, eqb, cond, arith}
use Rattle.std.specs.Prelude.{if◌then◌else◌, ◌&&◌, not}
use Rattle.std.proofs.lemmas.Bool.{cases_Bool, cases_lt, and_parts, not-true, both_ways, false≢true, eqb-false, ne_eqb}
use Rattle.model.specs.State.{Kernel}
use Rattle.model.specs.Plan.{Errno}
use Rattle.model.specs.Calls.{Call, Answer}
use Rattle.model.specs.Steps.{Touch}
use Rattle.model.specs.Entries.{BeginFlags, Begin, Reply, Begun, Committed, Entry, answer_in}
use Rattle.model.specs.Clashes.{any_clash}
use Rattle.model.specs.Forgetting.{Limit}
use Rattle.model.specs.Moments.{Status, gone, idle, live, doomed, Moment, status, is_alive, list_touches, calls_of, calls_at, held_by, counted_touches, bound, clashes_with, settled, own_next, doom, doom_cause, dooming_touches, is_in, next, holds_place, reserved, count_below}
use Rattle.model.specs.Legal.{Alone, Taken, Right}
use Rattle.call_laws.specs.CallLaws.{CallLaws}
use Rattle.history_laws.specs.Entered.{IsDoomed, PhasesMove, starts, stops}
use Rattle.history_laws.proofs.entries.Moments.{below_passes, phase_other, phase_own, phase_is}
use Rattle.history_laws.proofs.entries.ExecutedCalls.{not_itself, plain_phase, plain_idle, pushed_phase}
use Rattle.history_laws.proofs.entries.Kinds.{Kind, Changes, Pushes, Commits, Begins, Settles, Rests, kind}
use Rattle.history_laws.proofs.entries.Places.{one, Steady, other_places, count_beyond, count_changed, count_limit, dead_stays, beyond_next, above_dead, few}

-- nobody is doomed by its own entry
pub own_free : (m : Moment) (e : Entry) → Kind m e → is_in e.pid e.doomed ≡ false
own_free m e (Changes call is_s is_op taken) = not_itself m e call taken
own_free m e (Pushes flags age calls call is_s is_op inside taken) = not_itself m e call taken
own_free m e (Commits flags age calls is_s is_op is_reply alone) = ap (is_in e.pid) alone.doomed
own_free m e (Begins flags is_s is_op is_reply alone) = ap (is_in e.pid) alone.doomed
own_free m e (Settles s again is_phase holds some left) = ap (is_in e.pid) left.alone.doomed
own_free m e (Rests some left) = ap (is_in e.pid) left.alone.doomed

none_clash : (ts : List Touch) → any_clash ts [] ≡ false
none_clash [] = refl
none_clash (t ∷ ts) = none_clash ts

phase_doomed : (m : Moment) (e : Entry) (q : ℕ) → q ≢ e.pid → is_in q e.doomed ≡ true → (next m e).phase q ≡ doom (m.phase q) (doom_cause m e.pid (dooming_touches m e.pid e.op) q)
phase_doomed m e q ne is_doomed = at_tests (is_in q e.doomed) (eqb q e.pid) is_doomed (ne_eqb q e.pid ne) where
  at_tests : (b a : Bool) → b ≡ true → a ≡ false → cond b (doom (cond a (own_next (m.entries + 1) (m.phase q) e.op e.reply e.chosen) (m.phase q)) (doom_cause m e.pid (dooming_touches m e.pid e.op) q)) (cond a (own_next (m.entries + 1) (m.phase q) e.op e.reply e.chosen) (m.phase q)) ≡ doom (m.phase q) (doom_cause m e.pid (dooming_touches m e.pid e.op) q)
  at_tests false a f g = absurd (false≢true f)
  at_tests true true f g = absurd (false≢true (sym g))
  at_tests true false f g = refl

nobody : (m : Moment) (e : Entry) (q : ℕ) → e.doomed ≡ [] → is_in q e.doomed ≡ true → IsDoomed m e q
nobody m e q none is_doomed = absurd (false≢true (sym (ap (is_in q) none) ∙ is_doomed))

doomed_by : (m : Moment) (e : Entry) (call : Call) → Taken m e call → (q : ℕ) → is_in q e.doomed ≡ true → IsDoomed m e q
doomed_by m e call taken q is_doomed = by_phase (m.phase q) refl where
  clashing : (not (eqb q e.pid) && any_clash (counted_touches m e.pid call) (held_by m q)) ≡ true
  clashing = below_passes (clashes_with m e.pid (counted_touches m e.pid call)) (bound m) q (sym (ap (is_in q) taken.doomed) ∙ is_doomed)

  differs : q ≢ e.pid
  differs = eqb-false q e.pid (not-true (eqb q e.pid) (and_parts (not (eqb q e.pid)) _ clashing).0)

  holds_none : calls_at m q ≡ [] → IsDoomed m e q
  holds_none none = absurd (both_ways (any_clash (counted_touches m e.pid call) (held_by m q))
      (ap (λ es. any_clash (counted_touches m e.pid call) (list_touches q es m.committed)) none ∙ none_clash (counted_touches m e.pid call))
      (and_parts (not (eqb q e.pid)) _ clashing).1)

  by_phase : (s : Status) → m.phase q ≡ s → IsDoomed m e q
  by_phase (live flags age calls) is = record { other = differs; flags = flags; age = age; calls = calls; before = is; later = phase_doomed m e q differs is_doomed ∙ ap (λ s. doom s (doom_cause m e.pid (dooming_touches m e.pid e.op) q)) is }
  by_phase gone is = holds_none (ap calls_of is)
  by_phase idle is = holds_none (ap calls_of is)
  by_phase (doomed first flags age) is = holds_none (ap calls_of is)

dooms_by : (m : Moment) (e : Entry) → Kind m e → (q : ℕ) → is_in q e.doomed ≡ true → IsDoomed m e q
dooms_by m e (Changes call is_s is_op taken) q is_doomed = doomed_by m e call taken q is_doomed
dooms_by m e (Pushes flags age calls call is_s is_op inside taken) q is_doomed = doomed_by m e call taken q is_doomed
dooms_by m e (Commits flags age calls is_s is_op is_reply alone) q is_doomed = nobody m e q alone.doomed is_doomed
dooms_by m e (Begins flags is_s is_op is_reply alone) q is_doomed = nobody m e q alone.doomed is_doomed
dooms_by m e (Settles s again is_phase holds some left) q is_doomed = nobody m e q left.alone.doomed is_doomed
dooms_by m e (Rests some left) q is_doomed = nobody m e q left.alone.doomed is_doomed

-- the phases after a right entry, in any moment
pub phases_move : (limit : Limit) (m : Moment) (e : Entry) → Right limit m e → PhasesMove m e
phases_move limit m e right = record {
  own = phase_own m e (own_free m e (kind limit m e right));
  dooms = dooms_by m e (kind limit m e right);
  others = phase_other m e;
}

-- the phase of the entry's process after a begin and after a commit
pub begun_phase : (m : Moment) (e : Entry) (flags : BeginFlags) → status m e.pid ≡ idle → e.op ≡ Begin flags → e.reply ≡ Begun → Alone e → (next m e).phase e.pid ≡ live flags (m.entries + 1) []
begun_phase m e flags is_s is_op is_reply alone = phase_own m e (ap (is_in e.pid) alone.doomed)
    ∙ ap (λ x. own_next (m.entries + 1) x e.op e.reply e.chosen) (phase_is m e.pid idle is_s (λ h. absurd cc)) ∙ ap (λ x. own_next (m.entries + 1) idle x e.reply e.chosen) is_op ∙ ap (λ x. own_next (m.entries + 1) idle (Begin flags) x e.chosen) is_reply

pub ended_phase : (m : Moment) (e : Entry) → e.reply ≡ Committed → Alone e → (next m e).phase e.pid ≡ idle
ended_phase m e is_reply alone = phase_own m e (ap (is_in e.pid) alone.doomed) ∙ ap (λ x. own_next (m.entries + 1) (m.phase e.pid) e.op x e.chosen) is_reply

-- what an answered reply starts and stops
answer_starts : (said : Reply) (answer : Result Answer Errno) → answer_in said ≡ Some answer → (starts said ≡ 0) × (stops said ≡ 0)
answer_starts (Rattle.model.specs.Entries.Answers a) answer h = (refl, refl)
answer_starts (Rattle.model.specs.Entries.Refuses a) answer h = (refl, refl)
answer_starts Begun answer h = absurd cc
answer_starts Committed answer h = absurd cc
answer_starts (Rattle.model.specs.Entries.GivenUp again) answer h = absurd cc
answer_starts (Rattle.model.specs.Entries.Aborted why again) answer h = absurd cc
answer_starts said answer h = (refl, refl)

settled_place : (s : Status) (again : Bool) (n : ℕ) → holds_place s ≡ true → n ≡ (if again then 0 else 1) → one (holds_place (settled s again)) + n ≡ one (holds_place s) + 0
settled_place (live flags age calls) true n h is = (let none : n ≡ 0 = is in omega arith)
settled_place (live flags age calls) false n h is = (let back : n ≡ 1 = is in omega arith)
settled_place (doomed cause flags age) true n h is = (let none : n ≡ 0 = is in omega arith)
settled_place (doomed cause flags age) false n h is = (let back : n ≡ 1 = is in omega arith)
settled_place gone again n h is = absurd (false≢true h)
settled_place idle again n h is = absurd (false≢true h)

-- what an entry's process holds after it, with what is given back, is what it held, with what is added
own_place_moves : (m : Moment) (e : Entry) → Kind m e → one (holds_place ((next m e).phase e.pid)) + stops e.reply ≡ one (holds_place (m.phase e.pid)) + starts e.reply
own_place_moves m e (Changes call is_s is_op taken) =
    let none = answer_starts e.reply _ taken.answer in
    ap₂ (λ s n. one (holds_place s) + n) (plain_idle m e call taken is_s) none.1 ∙ sym (ap₂ (λ s n. one (holds_place s) + n) (plain_phase m e call taken is_s) none.0)
own_place_moves m e (Pushes flags age calls call is_s is_op inside taken) =
    let none = answer_starts e.reply _ taken.answer in
    ap₂ (λ s n. one (holds_place s) + n) (pushed_phase m e call taken flags age calls is_s is_op) none.1 ∙ sym (ap₂ (λ s n. one (holds_place s) + n) (phase_is m e.pid (live flags age calls) is_s (λ h. absurd cc)) none.0)
own_place_moves m e (Commits flags age calls is_s is_op is_reply alone) =
    ap₂ (λ s r. one (holds_place s) + stops r) (ended_phase m e is_reply alone) is_reply ∙ sym (ap₂ (λ s r. one (holds_place s) + starts r) (phase_is m e.pid (live flags age calls) is_s (λ h. absurd cc)) is_reply)
own_place_moves m e (Begins flags is_s is_op is_reply alone) =
    ap₂ (λ s r. one (holds_place s) + stops r) (begun_phase m e flags is_s is_op is_reply alone) is_reply ∙ sym (ap₂ (λ s r. one (holds_place s) + starts r) (phase_is m e.pid idle is_s (λ h. absurd cc)) is_reply)
own_place_moves m e (Settles s again is_phase holds some left) =
    ap (λ x. one (holds_place x) + stops e.reply) left.phase ∙ settled_place s again (stops e.reply) holds some.0 ∙ sym (ap₂ (λ x n. one (holds_place x) + n) is_phase left.starts)
own_place_moves m e (Rests some left) = ap₂ (λ s n. one (holds_place s) + n) left.phase some.0 ∙ sym (ap (λ n. one (holds_place (m.phase e.pid)) + n) left.starts)

module _ (Well : Kernel → Type 0) (laws : CallLaws Well) (limit : Limit) (m : Moment) (e : Entry) (right : Right limit m e) (s : Steady Well limit m) (s_next : Steady Well limit (next m e)) where
  abbrev held_then : ℕ → Bool
  held_then q = holds_place ((next m e).phase q)

  above_next : (q : ℕ) → bound (next m e) ≤ q → held_then q ≡ false
  above_next q above = elim (cases_Bool (is_alive (next m e).committed q)) [
    | inr dead ↦ ap holds_place (beyond_next Well laws limit m e right s q dead)
    | inl alive ↦ (let low : q ≤ (next m e).committed.made = laws.alive_counted (next m e).committed s_next.sound.lists.well q alive in absurd (omega arith))
  ]

  same_count : reserved (next m e) ≡ count_below held_then (bound m)
  same_count =
      let most : reserved (next m e) ≤ count_below held_then (bound m) = few Well laws limit m e right s in
      let least : count_below held_then (bound m) ≤ reserved (next m e) = count_limit held_then (bound (next m e)) (bound m) above_next in
      omega arith

  pub reserved_moves : reserved (next m e) + one (holds_place (m.phase e.pid)) ≡ reserved m + one (holds_place ((next m e).phase e.pid))
  reserved_moves = elim (cases_lt e.pid (bound m)) [
    | inl below ↦ ap (λ n. n + one (holds_place (m.phase e.pid))) same_count ∙ count_changed (λ q. holds_place (m.phase q)) held_then e.pid (bound m) (other_places limit m e) below
    | inr above ↦
        let dead = above_dead Well laws limit m e right s e.pid above in
        let before : one (holds_place (m.phase e.pid)) ≡ 0 = ap (λ x. one (holds_place x)) (s.beyond e.pid dead) in
        let later : one (holds_place ((next m e).phase e.pid)) ≡ 0 = ap (λ x. one (holds_place x)) (dead_stays Well laws limit m e right s e.pid dead) in
        let rest : count_below held_then (bound m) ≡ reserved m = count_beyond (λ q. holds_place (m.phase q)) held_then e.pid (bound m) (other_places limit m e) above in
        let same : reserved (next m e) ≡ count_below held_then (bound m) = same_count in
        omega arith
  ]

  pub places_move : reserved (next m e) + stops e.reply ≡ reserved m + starts e.reply
  places_move =
      let moved : reserved (next m e) + one (holds_place (m.phase e.pid)) ≡ reserved m + one (holds_place ((next m e).phase e.pid)) = reserved_moves in
      let own : one (holds_place ((next m e).phase e.pid)) + stops e.reply ≡ one (holds_place (m.phase e.pid)) + starts e.reply = own_place_moves m e (kind limit m e right) in
      omega arith
