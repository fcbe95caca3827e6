-- The kinds of right entries: each right entry is of one.
use Rattle.std.proofs.Common.{◌≡◌, ◌≢◌, ℕ, ◌+◌, List, [], Option, Some, None, refl, sym, ◌∙◌, ap, subst, true, false, Bool}
use Rattle.std.specs.Prelude.{if◌then◌else◌}
use Rattle.ids.specs.Flags.{is_restarting}
use Rattle.model.specs.Plan.{ENOTSUP}
use Rattle.model.specs.Calls.{Call}
use Rattle.model.specs.Entries.{BeginFlags, Op, Do, Begin, End, Abort, Cause, Clash, Unsupported, Reply, Refuses, Begun, Committed, GivenUp, Aborted, Busy, InTransaction, NotInTransaction, NoProcess, Entry, Executed, answer_in, is_inside}
use Rattle.model.specs.Forgetting.{Limit}
use Rattle.model.specs.Moments.{Status, gone, idle, live, doomed, Moment, status, counted_touches, losing_cause, settled, own_next, run_by, next, after_list, is_in, holds_place}
use Rattle.model.specs.Legal.{Alone, Taken, Outcome, lost, restarts, Inside, RightAt, Right}
use Rattle.history_laws.proofs.entries.Moments.{phase_is, phase_own, nothing_run}
use Rattle.history_laws.specs.Entered.{starts, stops, restarts_by}

-- nothing is committed, and the process goes on as this status
pub record Leaves (m : Moment) (e : Entry) (s : Status) : Type 0 where
  pub alone : Alone e
  pub committed : (next m e).committed ≡ m.committed
  pub phase : (next m e).phase e.pid ≡ s
  pub starts : starts e.reply ≡ 0
  pub uncommitted : e.reply ≢ Committed
  pub unanswered : answer_in e.reply ≡ None

-- a plain call, a call of a live transaction, its committed end, a begin, a transaction that is given up or begun anew, or an entry that changes nothing
pub data Kind (m : Moment) (e : Entry) : Type 0 where
  Changes : (call : Call) → status m e.pid ≡ idle → e.op ≡ Do call → Taken m e call → Kind m e
  Pushes : (flags : BeginFlags) (age : ℕ) (calls : List Executed) (call : Call) → status m e.pid ≡ live flags age calls → e.op ≡ Do call → is_inside call ≡ true → Taken m e call → Kind m e
  Commits : (flags : BeginFlags) (age : ℕ) (calls : List Executed) → status m e.pid ≡ live flags age calls → e.op ≡ End → e.reply ≡ Committed → Alone e → Kind m e
  Begins : (flags : BeginFlags) → status m e.pid ≡ idle → e.op ≡ Begin flags → e.reply ≡ Begun → Alone e → Kind m e
  Settles : (s : Status) (again : Bool) → m.phase e.pid ≡ s → holds_place s ≡ true → (stops e.reply ≡ (if again then 0 else 1)) × (restarts_by e.reply ≡ again) → Leaves m e (settled s again) → Kind m e
  Rests : (stops e.reply ≡ 0) × (restarts_by e.reply ≡ false) → Leaves m e (m.phase e.pid) → Kind m e

pub phase_after : (m : Moment) (e : Entry) (s : Status) (op : Op) (said : Reply) → m.phase e.pid ≡ s → e.op ≡ op → e.reply ≡ said → Alone e → (next m e).phase e.pid ≡ own_next (m.entries + 1) s op said []
phase_after m e s op said is_s is_op is_reply alone = phase_own m e (ap (is_in e.pid) alone.doomed)
    ∙ ap (λ x. own_next (m.entries + 1) x e.op e.reply e.chosen) is_s ∙ ap (λ x. own_next (m.entries + 1) s x e.reply e.chosen) is_op ∙ ap (λ x. own_next (m.entries + 1) s op x e.chosen) is_reply ∙ ap (own_next (m.entries + 1) s op said) alone.chosen

leaves : (m : Moment) (e : Entry) (s : Status) (op : Op) (said : Reply) → status m e.pid ≡ s → m.phase e.pid ≡ s → e.op ≡ op → e.reply ≡ said → Alone e → run_by s op said [] ≡ [] → starts said ≡ 0 → said ≢ Committed → answer_in said ≡ None → Leaves m e (own_next (m.entries + 1) s op said [])
leaves m e s op said is_s is_phase is_op is_reply alone still none other unanswered = record {
  alone = alone;
  committed = nothing_run m e s op said is_s is_op is_reply alone.chosen still;
  phase = phase_after m e s op said is_phase is_op is_reply alone;
  starts = ap starts is_reply ∙ none;
  uncommitted = λ h. other (sym is_reply ∙ h);
  unanswered = ap answer_in is_reply ∙ unanswered;
}

no_commit : NoProcess ≡ Committed → ⊥
no_commit h = absurd cc

-- an entry that changes nothing, by its status, its operation and its reply
rests : (m : Moment) (e : Entry) (s : Status) (op : Op) (said : Reply) → status m e.pid ≡ s → s ≢ gone → e.op ≡ op → e.reply ≡ said → Alone e → run_by s op said [] ≡ [] → starts said ≡ 0 → said ≢ Committed → answer_in said ≡ None → stops said ≡ 0 → restarts_by said ≡ false → own_next (m.entries + 1) s op said [] ≡ s → Kind m e
rests m e s op said is_s ne is_op is_reply alone still none other unanswered some begins same =
    let is_phase : m.phase e.pid ≡ s = phase_is m e.pid s is_s ne in
    Rests (ap stops is_reply ∙ some, ap restarts_by is_reply ∙ begins) (subst (Leaves m e) (same ∙ sym is_phase) (leaves m e s op said is_s is_phase is_op is_reply alone still none other unanswered))

settles : (m : Moment) (e : Entry) (s : Status) (op : Op) (said : Reply) (again : Bool) → status m e.pid ≡ s → s ≢ gone → holds_place s ≡ true → e.op ≡ op → e.reply ≡ said → Alone e → run_by s op said [] ≡ [] → starts said ≡ 0 → said ≢ Committed → answer_in said ≡ None → stops said ≡ (if again then 0 else 1) → restarts_by said ≡ again → own_next (m.entries + 1) s op said [] ≡ settled s again → Kind m e
settles m e s op said again is_s ne holds is_op is_reply alone still none other unanswered some begins same =
    let is_phase : m.phase e.pid ≡ s = phase_is m e.pid s is_s ne in
    Settles s again is_phase holds (ap stops is_reply ∙ some, ap restarts_by is_reply ∙ begins) (subst (Leaves m e) same (leaves m e s op said is_s is_phase is_op is_reply alone still none other unanswered))

pub kind : (limit : Limit) (m : Moment) (e : Entry) → Right limit m e → Kind m e
kind limit m e right = by_status (status m e.pid) e.op refl refl right where
  inside : (flags : BeginFlags) (age : ℕ) (calls : List Executed) (call : Call) (b : Bool) → is_inside call ≡ b → status m e.pid ≡ live flags age calls → e.op ≡ Do call → Inside limit m e (live flags age calls) flags call b → Kind m e
  inside flags age calls call false is is_s is_op r = by_flag _ r.0 where
    by_flag : (b : Bool) → e.reply ≡ (if b then Aborted Unsupported false else Refuses ENOTSUP) → Kind m e
    by_flag true said = settles m e (live flags age calls) (Do call) (Aborted Unsupported false) false is_s (λ h. absurd cc) refl is_op said r.1 refl refl (λ h. absurd cc) refl refl refl refl
    by_flag false said = rests m e (live flags age calls) (Do call) (Refuses ENOTSUP) is_s (λ h. absurd cc) is_op said r.1 refl refl (λ h. absurd cc) refl refl refl refl
  inside flags age calls call true is is_s is_op r = by_cause (losing_cause m e.pid (counted_touches m e.pid call)) r.0 where
    by_cause : (o : Option Cause) → Outcome m e (live flags age calls) call o → Kind m e
    by_cause (Some c) q = settles m e (live flags age calls) (Do call) (lost (live flags age calls) c) (is_restarting flags) is_s (λ h. absurd cc) refl is_op q.0 q.1 refl refl (λ h. absurd cc) refl refl refl refl
    by_cause None q = Pushes flags age calls call is_s is_op is q

  by_status : (st : Status) (op : Op) → status m e.pid ≡ st → e.op ≡ op → RightAt limit m e st op → Kind m e
  by_status (doomed c flags age) op is_s is_op r = settles m e (doomed c flags age) op (Aborted (Clash c) (restarts limit m flags op)) (restarts limit m flags op) is_s (λ h. absurd cc) refl is_op r.0 r.1 refl refl (λ h. absurd cc) refl refl refl refl
  by_status (live flags age es) End is_s is_op r = Commits flags age es is_s is_op r.0 r.1
  by_status (live flags age es) (Abort no_restart) is_s is_op r = settles m e (live flags age es) (Abort no_restart) (GivenUp (restarts limit m flags (Abort no_restart))) (restarts limit m flags (Abort no_restart)) is_s (λ h. absurd cc) refl is_op r.0 r.1 refl refl (λ h. absurd cc) refl refl refl refl
  by_status gone op is_s is_op r = Rests (ap stops r.0, ap restarts_by r.0) (record {
    alone = r.1;
    committed = ap (λ s. after_list e.pid (run_by s e.op e.reply e.chosen) m.committed) is_s;
    phase = phase_after m e (m.phase e.pid) op NoProcess refl is_op r.0 r.1;
    starts = ap starts r.0;
    uncommitted = λ h. no_commit (sym r.0 ∙ h);
    unanswered = ap answer_in r.0;
  })
  by_status idle (Begin flags) is_s is_op r = Begins flags is_s is_op r.0 r.1
  by_status (live flags age es) (Begin more) is_s is_op r = rests m e (live flags age es) (Begin more) InTransaction is_s (λ h. absurd cc) is_op r.0 r.1 refl refl (λ h. absurd cc) refl refl refl refl
  by_status idle End is_s is_op r = rests m e idle End NotInTransaction is_s (λ h. absurd cc) is_op r.0 r.1 refl refl (λ h. absurd cc) refl refl refl refl
  by_status idle (Abort no_restart) is_s is_op r = rests m e idle (Abort no_restart) NotInTransaction is_s (λ h. absurd cc) is_op r.0 r.1 refl refl (λ h. absurd cc) refl refl refl refl
  by_status (live flags age es) (Do call) is_s is_op r = inside flags age es call (is_inside call) refl is_s is_op r
  by_status idle (Do call) is_s is_op r = by_cause (losing_cause m e.pid (counted_touches m e.pid call)) r.0 where
    by_cause : (o : Option Cause) → Outcome m e idle call o → Kind m e
    by_cause (Some c) q = rests m e idle (Do call) (Busy c) is_s (λ h. absurd cc) is_op q.0 q.1 refl refl (λ h. absurd cc) refl refl refl refl
    by_cause None q = Changes call is_s is_op q
