-- A right entry keeps all steady. So along a legal history the lists run, the committed state is the
-- run of the serial list, and the places suffice.
use Rattle.std.proofs.Common.{◌≡◌, ℕ, zero, suc, ◌+◌, ◌≤◌, List, [], ◌∷◌, ◌++◌, Option, Some, None, Result, refl, sym, ◌∙◌, ap, subst, true, false, Bool, arith, leb-true}
use Rattle.std.specs.Prelude.{if◌then◌else◌, not}
use Rattle.std.proofs.lemmas.Bool.{and_parts, false≢true}
use Rattle.model.specs.Plan.{Errno, ENOTSUP}
use Rattle.model.specs.State.{Kernel}
use Rattle.model.specs.Calls.{Call, Answer}
use Rattle.model.specs.Steps.{Run, Item}
use Rattle.model.specs.Entries.{BeginFlags, Op, Do, Begin, End, Abort, Cause, Clash, Unsupported, Reply, Refuses, Begun, Committed, GivenUp, Aborted, Busy, InTransaction, NotInTransaction, NoProcess, Entry, Executed, answer_in, is_inside}
use Rattle.model.specs.Forgetting.{Limit, limit_at}
use Rattle.model.specs.Moments.{Setup, Status, gone, idle, live, doomed, Moment, status, bound, counted_touches, losing_cause, settled, with_call, own_next, next, holds_place, reserved, count_below, calls_of, run_by, plain_calls, after_from, at_start, after_list}
use Rattle.model.specs.Legal.{Outcome, lost, restarts, Inside, RightAt, Right, LegalFrom, items, serial_from}
use Rattle.call_laws.specs.CallLaws.{CallLaws}
use Rattle.history_laws.proofs.lists.UntidiedRuns.{Goes, tidied_run}
use Rattle.history_laws.proofs.entries.Moments.{phase_is, lists_run}
use Rattle.history_laws.proofs.entries.ExecutedCalls.{answered, plain_goes}
use Rattle.history_laws.proofs.entries.Soundness.{sound_next}
use Rattle.history_laws.proofs.entries.Places.{one, Steady, placed_by, beyond_next}

holds_with_call : (s : Status) (op : Op) (o : Option (Result Answer Errno)) (chosen : List ℕ) → holds_place (with_call s op o chosen) ≡ holds_place s
holds_with_call (live flags age es) (Do call) (Some answer) chosen = refl
holds_with_call (live flags age es) (Do call) None chosen = refl
holds_with_call (live flags age es) (Begin more) o chosen = refl
holds_with_call (live flags age es) End o chosen = refl
holds_with_call (live flags age es) (Abort no_restart) o chosen = refl
holds_with_call gone op o chosen = refl
holds_with_call idle op o chosen = refl
holds_with_call (doomed cause flags age) op o chosen = refl

restarts_free : (limit : Limit) (m : Moment) (flags : BeginFlags) (op : Op) → restarts limit m flags op ≡ true → m.entries + reserved m + 1 ≤ limit_at limit m.entries
restarts_free limit m flags (Abort no_restart) h = leb-true _ _ (and_parts (not no_restart) _ (and_parts _ _ h).1).1
restarts_free limit m flags (Do call) h = leb-true _ _ (and_parts _ _ h).1
restarts_free limit m flags (Begin more) h = leb-true _ _ (and_parts _ _ h).1
restarts_free limit m flags End h = leb-true _ _ (and_parts _ _ h).1

module _ (Well : Kernel → Type 0) (laws : CallLaws Well) (limit : Limit) (m : Moment) (e : Entry) (right : Right limit m e) (s : Steady Well limit m) where
  have : m.entries + reserved m ≤ limit_at limit m.entries
  have = s.placed

  by_case : (st : Status) (op : Op) (said : Reply) → m.phase e.pid ≡ st → e.op ≡ op → e.reply ≡ said
      → m.entries + reserved m + 1 + one (holds_place (own_next (m.entries + 1) st op said e.chosen)) ≤ limit_at limit m.entries + one (holds_place st) → (m.entries + 1) + reserved (next m e) ≤ limit_at limit (m.entries + 1)
  by_case st op said is_s is_op is_said room =
      let here : one (holds_place (m.phase e.pid)) ≡ one (holds_place st) = ap (λ x. one (holds_place x)) is_s in
      let later : one (holds_place (own_next (m.entries + 1) (m.phase e.pid) e.op e.reply e.chosen)) ≡ one (holds_place (own_next (m.entries + 1) st op said e.chosen)) =
      ap (λ x. one (holds_place (own_next (m.entries + 1) x e.op e.reply e.chosen))) is_s ∙ ap (λ x. one (holds_place (own_next (m.entries + 1) st x e.reply e.chosen))) is_op ∙ ap (λ x. one (holds_place (own_next (m.entries + 1) st op x e.chosen))) is_said in
      placed_by Well laws limit m e right s (omega arith)

  settled_room : (flags : BeginFlags) (st : Status) (b : Bool) → one (holds_place st) ≡ 1 → one (holds_place (settled st false)) ≡ 0 → one (holds_place (settled st true)) ≡ 1 → (b ≡ true → m.entries + reserved m + 1 ≤ limit_at limit m.entries) → m.entries + reserved m + 1 + one (holds_place (settled st b)) ≤ limit_at limit m.entries + one (holds_place st)
  settled_room flags st true own off on free = (let f : m.entries + reserved m + 1 ≤ limit_at limit m.entries = free refl in omega arith)
  settled_room flags st false own off on free = (let f : m.entries + reserved m ≤ limit_at limit m.entries = s.placed in omega arith)

  answer_room : (st : Status) (op : Op) (answer : Result Answer Errno) → answer_in e.reply ≡ Some answer → m.entries + reserved m + 1 ≤ limit_at limit m.entries → m.entries + reserved m + 1 + one (holds_place (own_next (m.entries + 1) st op e.reply e.chosen)) ≤ limit_at limit m.entries + one (holds_place st)
  answer_room st op answer said free =
      let same : one (holds_place (own_next (m.entries + 1) st op e.reply e.chosen)) ≡ one (holds_place st) = ap (λ x. one (holds_place x)) (answered (m.entries + 1) st op e.reply e.chosen answer said) ∙ ap one (holds_with_call st op (Some answer) e.chosen) in
      omega arith

  pub placed_next : (m.entries + 1) + reserved (next m e) ≤ limit_at limit (m.entries + 1)
  placed_next = by_status (status m e.pid) e.op refl refl right where
    inside : (flags : BeginFlags) (age : ℕ) (calls : List Executed) (call : Call) (b : Bool) → m.phase e.pid ≡ live flags age calls → e.op ≡ Do call → Inside limit m e (live flags age calls) flags call b → (m.entries + 1) + reserved (next m e) ≤ limit_at limit (m.entries + 1)
    inside flags age calls call false is_s is_op r = by_flag _ r.0 where
      by_flag : (b : Bool) → e.reply ≡ (if b then Aborted Unsupported false else Refuses ENOTSUP) → (m.entries + 1) + reserved (next m e) ≤ limit_at limit (m.entries + 1)
      by_flag true said = by_case (live flags age calls) (Do call) (Aborted Unsupported false) is_s is_op said (omega (arith, r.2))
      by_flag false said = by_case (live flags age calls) (Do call) (Refuses ENOTSUP) is_s is_op said (omega (arith, r.2))
    inside flags age calls call true is_s is_op r = by_cause (losing_cause m e.pid (counted_touches m e.pid call)) r.0 where
      by_cause : (o : Option Cause) → Outcome m e (live flags age calls) call o → (m.entries + 1) + reserved (next m e) ≤ limit_at limit (m.entries + 1)
      by_cause (Some c) q = by_case (live flags age calls) (Do call) (lost (live flags age calls) c) is_s is_op q.0 (settled_room flags (live flags age calls) _ refl refl refl (λ h. r.1))
      by_cause None q = by_case (live flags age calls) (Do call) e.reply is_s is_op refl (answer_room (live flags age calls) (Do call) _ q.answer r.1)

    by_status : (st : Status) (op : Op) → status m e.pid ≡ st → e.op ≡ op → RightAt limit m e st op → (m.entries + 1) + reserved (next m e) ≤ limit_at limit (m.entries + 1)
    by_status (doomed c flags age) op is_s is_op r = by_case (doomed c flags age) op (Aborted (Clash c) (restarts limit m flags op)) (phase_is m e.pid _ is_s (λ h. absurd cc)) is_op r.0 (settled_room flags (doomed c flags age) (restarts limit m flags op) refl refl refl (restarts_free limit m flags op))
    by_status (live flags age es) End is_s is_op r = by_case (live flags age es) End Committed (phase_is m e.pid _ is_s (λ h. absurd cc)) is_op r.0 (omega (arith, have))
    by_status (live flags age es) (Abort no_restart) is_s is_op r = by_case (live flags age es) (Abort no_restart) (GivenUp (restarts limit m flags (Abort no_restart))) (phase_is m e.pid _ is_s (λ h. absurd cc)) is_op r.0 (settled_room flags (live flags age es) (restarts limit m flags (Abort no_restart)) refl refl refl (restarts_free limit m flags (Abort no_restart)))
    by_status gone op is_s is_op r = by_case (m.phase e.pid) op NoProcess refl is_op r.0 (omega (arith, r.2))
    by_status idle (Begin flags) is_s is_op r = by_case idle (Begin flags) Begun (phase_is m e.pid _ is_s (λ h. absurd cc)) is_op r.0 (omega (arith, r.2))
    by_status (live flags age es) (Begin more) is_s is_op r = by_case (live flags age es) (Begin more) InTransaction (phase_is m e.pid _ is_s (λ h. absurd cc)) is_op r.0 (omega (arith, r.2))
    by_status idle End is_s is_op r = by_case idle End NotInTransaction (phase_is m e.pid _ is_s (λ h. absurd cc)) is_op r.0 (omega (arith, r.2))
    by_status idle (Abort no_restart) is_s is_op r = by_case idle (Abort no_restart) NotInTransaction (phase_is m e.pid _ is_s (λ h. absurd cc)) is_op r.0 (omega (arith, r.2))
    by_status (live flags age es) (Do call) is_s is_op r = inside flags age es call (is_inside call) (phase_is m e.pid _ is_s (λ h. absurd cc)) is_op r
    by_status idle (Do call) is_s is_op r = by_cause (losing_cause m e.pid (counted_touches m e.pid call)) r.0 where
      by_cause : (o : Option Cause) → Outcome m e idle call o → (m.entries + 1) + reserved (next m e) ≤ limit_at limit (m.entries + 1)
      by_cause (Some c) q = by_case idle (Do call) (Busy c) (phase_is m e.pid _ is_s (λ h. absurd cc)) is_op q.0 (omega (arith, r.1))
      by_cause None q = by_case idle (Do call) e.reply (phase_is m e.pid _ is_s (λ h. absurd cc)) is_op refl (answer_room idle (Do call) _ q.answer r.1)

  -- a right entry keeps all steady
  pub steady_next : Steady Well limit (next m e)
  steady_next = record { sound = sound_next Well laws limit m e right s.sound; beyond = beyond_next Well laws limit m e right s; placed = placed_next }

  -- what an entry runs on the committed state runs there
  pub goes_by : Goes Well m.committed e.pid (run_by (status m e.pid) e.op e.reply e.chosen)
  goes_by = by_status (status m e.pid) e.op refl refl right where
    quiet : run_by (status m e.pid) e.op e.reply e.chosen ≡ [] → Goes Well m.committed e.pid (run_by (status m e.pid) e.op e.reply e.chosen)
    quiet none = subst (Goes Well m.committed e.pid) (sym none) tt

    is_run : (st : Status) (op : Op) (said : Reply) → status m e.pid ≡ st → e.op ≡ op → e.reply ≡ said → run_by (status m e.pid) e.op e.reply e.chosen ≡ run_by st op said e.chosen
    is_run st op said is_s is_op is_said = ap (λ x. run_by x e.op e.reply e.chosen) is_s ∙ ap (λ x. run_by st x e.reply e.chosen) is_op ∙ ap (λ x. run_by st op x e.chosen) is_said

    by_status : (st : Status) (op : Op) → status m e.pid ≡ st → e.op ≡ op → RightAt limit m e st op → Goes Well m.committed e.pid (run_by (status m e.pid) e.op e.reply e.chosen)
    by_status (doomed c flags age) op is_s is_op r = quiet (is_run _ _ _ is_s is_op refl)
    by_status (live flags age es) End is_s is_op r = subst (Goes Well m.committed e.pid) (sym (is_run _ _ _ is_s is_op r.0 ∙ sym (ap calls_of (phase_is m e.pid _ is_s (λ h. absurd cc))))) (s.sound.lists.goes e.pid)
    by_status (live flags age es) (Abort no_restart) is_s is_op r = quiet (is_run _ _ _ is_s is_op refl)
    by_status gone op is_s is_op r = quiet (is_run _ _ _ is_s is_op refl)
    by_status idle (Begin flags) is_s is_op r = quiet (is_run _ _ _ is_s is_op refl)
    by_status (live flags age es) (Begin more) is_s is_op r = quiet (is_run _ _ _ is_s is_op refl)
    by_status idle End is_s is_op r = quiet (is_run _ _ _ is_s is_op refl)
    by_status idle (Abort no_restart) is_s is_op r = quiet (is_run _ _ _ is_s is_op refl)
    by_status (live flags age es) (Do call) is_s is_op r = quiet (is_run _ _ _ is_s is_op refl)
    by_status idle (Do call) is_s is_op r = by_cause (losing_cause m e.pid (counted_touches m e.pid call)) r.0 where
      by_cause : (o : Option Cause) → Outcome m e idle call o → Goes Well m.committed e.pid (run_by (status m e.pid) e.op e.reply e.chosen)
      by_cause (Some c) q = quiet (is_run _ _ _ is_s is_op q.0)
      by_cause None q = subst (Goes Well m.committed e.pid) (sym (is_run _ _ _ is_s is_op refl ∙ ap (λ o. plain_calls call o e.chosen) q.answer)) (plain_goes Well laws m e call s.sound q is_s)

  pub run_next : Run m.committed (items e.pid (run_by (status m e.pid) e.op e.reply e.chosen)) (next m e).committed
  run_next = subst (λ k. Run k (items e.pid (run_by (status m e.pid) e.op e.reply e.chosen)) (after_list e.pid (run_by (status m e.pid) e.op e.reply e.chosen) k)) s.sound.lists.tidied
      (tidied_run Well laws e.pid m.committed (run_by (status m e.pid) e.op e.reply e.chosen) goes_by).run

run_append : (k mid l : Kernel) (xs ys : List Item) → Run k xs mid → Run mid ys l → Run k (xs ++ ys) l
run_append k mid l [] ys r q = subst (λ x. Run x ys l) r q
run_append k mid l (x ∷ xs) ys r q = (r.0, r.1, run_append r.0 mid l xs ys r.2 q)

-- what is steady stays so along a legal history
pub steady_after : (Well : Kernel → Type 0) (laws : CallLaws Well) (limit : Limit) (m : Moment) (es : List Entry) → LegalFrom limit m es → Steady Well limit m → Steady Well limit (after_from m es)
steady_after Well laws limit m [] legal s = s
steady_after Well laws limit m (e ∷ es) legal s = steady_after Well laws limit (next m e) es legal.2 (steady_next Well laws limit m e legal.1 s)

-- the committed state is the run of the serial list
pub serial_after : (Well : Kernel → Type 0) (laws : CallLaws Well) (limit : Limit) (m : Moment) (es : List Entry) → LegalFrom limit m es → Steady Well limit m → Run m.committed (serial_from m es) (after_from m es).committed
serial_after Well laws limit m [] legal s = refl
serial_after Well laws limit m (e ∷ es) legal s = run_append m.committed (next m e).committed _ (items e.pid (run_by (status m e.pid) e.op e.reply e.chosen)) (serial_from (next m e) es) (run_next Well laws limit m e legal.1 s) (serial_after Well laws limit (next m e) es legal.2 (steady_next Well laws limit m e legal.1 s))

pub after_more : (m : Moment) (es : List Entry) (e : Entry) → after_from m (es ++ e ∷ []) ≡ next (after_from m es) e
after_more m [] e = refl
after_more m (d ∷ es) e = after_more (next m d) es e

-- one right entry more keeps a history legal
pub legal_more : (Well : Kernel → Type 0) (laws : CallLaws Well) (limit : Limit) (m : Moment) (es : List Entry) (e : Entry) → Steady Well limit m → LegalFrom limit m es → Right limit (after_from m es) e → LegalFrom limit m (es ++ e ∷ [])
legal_more Well laws limit m [] e s legal right = (legal, right, lists_run Well laws (next m e) (steady_next Well laws limit m e right s).sound)
legal_more Well laws limit m (d ∷ es) e s legal right = (legal.0, legal.1, legal_more Well laws limit (next m d) es e (steady_next Well laws limit m d legal.1 s) legal.2 right)

-- a beginning of a legal history is legal
pub legal_before : (limit : Limit) (m : Moment) (es more : List Entry) → LegalFrom limit m (es ++ more) → LegalFrom limit m es
legal_before limit m [] [] legal = legal
legal_before limit m [] (e ∷ more) legal = legal.0
legal_before limit m (e ∷ es) more legal = (legal.0, legal.1, legal_before limit (next m e) es more legal.2)

count_none : (f : ℕ → Bool) (n : ℕ) → ((q : ℕ) → f q ≡ false) → count_below f n ≡ 0
count_none f zero none = refl
count_none f (suc n) none = ap (λ b. one b + count_below f n) (none n) ∙ (let rest : count_below f n ≡ 0 = count_none f n none in omega arith)

-- before any entry
pub steady_start : (Well : Kernel → Type 0) (laws : CallLaws Well) (limit : Limit) (root : ℕ) (setup : Setup) → Steady Well limit (at_start root setup)
steady_start Well laws limit root setup = record {
  sound = record {
    lists = record {
      well = laws.well_start root setup;
      tidied = laws.tidy_start root setup;
      goes = λ q. tt;
      inside = λ q. tt;
      fresh = λ q. record { nowhere = λ n h. absurd (false≢true h); distinct = tt };
      peace = λ p q ne t u i j. absurd i;
      apart = λ p q ne n h. refl;
    };
  };
  beyond = λ q h. refl;
  placed = (let none : reserved (at_start root setup) ≡ 0 = count_none (λ q. holds_place ((at_start root setup).phase q)) (bound (at_start root setup)) (λ q. refl) in omega arith);
}
