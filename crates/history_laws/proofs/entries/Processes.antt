-- What one right entry does to the processes, and that those never made are refused.
use Rattle.std.proofs.Common.{◌≡◌, ℕ, suc, ◌+◌, ◌<◌, ◌≤◌, List, [], ◌∷◌, Option, Some, None, Result, Ok, Err, refl, sym, ◌∙◌, ap, subst, true, false, Bool, inl, inr, eqb, arith}
use Rattle.std.specs.Prelude.{if◌then◌else◌}
use Rattle.std.specs.List.{AllByRecursion}
use Rattle.std.proofs.lemmas.Bool.{cases_Bool, false≢true, eqb-true}
use Rattle.model.specs.State.{Kernel}
use Rattle.model.specs.Plan.{Errno}
use Rattle.model.specs.Changes.{tidy}
use Rattle.model.specs.Calls.{Call, Exit, Answer, Child}
use Rattle.model.specs.Steps.{reply}
use Rattle.model.specs.Entries.{Op, Do, Begin, End, Abort, Reply, Answers, Refuses, Begun, Committed, GivenUp, Aborted, Busy, InTransaction, NotInTransaction, HistoryFull, NoMemory, NoProcess, Entry, answer_in, is_inside, is_unsupported}
use Rattle.model.specs.Forgetting.{Limit}
use Rattle.model.specs.Moments.{gone, idle, live, Moment, status, is_alive, at_start, after, after_from, next, loose, calls_at, seen_by}
use Rattle.model.specs.Legal.{RightAt, Right, LegalFrom, Legal, mine}
use Rattle.call_laws.specs.WellFormed.{WellFormed}
use Rattle.call_laws.specs.CallLaws.{CallLaws}
use Rattle.history_laws.proofs.FromCallLaws.{FromCallLaws}
use Rattle.history_laws.specs.Processes.{child_in, born, is_exit, is_ended, ProcessesMove, ForksAndExitsMove, UnmadeAreRefused}
use Rattle.history_laws.proofs.entries.Moments.{alive_is}
use Rattle.history_laws.proofs.entries.Places.{Steady, idle_stays}
use Rattle.history_laws.proofs.entries.ExecutedCalls.{plain_same, plain_seen, pushed_same, end_same}
use Rattle.history_laws.proofs.entries.Kinds.{Kind, Changes, Pushes, Commits, Begins, Settles, Rests, kind}
use Rattle.history_laws.proofs.Legality.{steady_start, steady_next, steady_after}
use Rattle.history_laws.proofs.entries.Lists.{begun_still}
use Rattle.history_laws.proofs.calls.Processes.{SameProcesses, same_self, same_through, loose_same, tidied_same, child_of, born_of, born_none, inside_childless, CallMoves, call_moves}

answer_child : (a : Answer) → child_in (Answers a) ≡ child_of (Ok a)
answer_child (Child pid) = refl
answer_child a = refl

answer_born : (a : Answer) → born (Answers a) ≡ born_of (Ok a)
answer_born (Child pid) = refl
answer_born a = refl

abbrev answer_or : Result Answer Errno → Option (Result Answer Errno) → Result Answer Errno
answer_or other (Some r) = r
answer_or other None = other

-- an executed reply makes the child that its answer does
pub said_child : (said : Reply) (answer : Result Answer Errno) → answer_in said ≡ Some answer → (child_in said ≡ child_of answer) × (born said ≡ born_of answer)
said_child (Answers a) answer h = (let is : Ok a ≡ answer = ap (answer_or answer) h in (answer_child a ∙ ap child_of is, answer_born a ∙ ap born_of is))
said_child (Refuses e) answer h = by (is_unsupported e) h where
  by : (b : Bool) → (if b then None else Some (Err e)) ≡ Some answer → (None ≡ child_of answer) × (0 ≡ born_of answer)
  by true g = absurd cc
  by false g = (let is : Err e ≡ answer = ap (answer_or answer) g in (ap child_of is, ap born_of is))
said_child Begun answer h = absurd cc
said_child Committed answer h = absurd cc
said_child (GivenUp again) answer h = absurd cc
said_child (Aborted why again) answer h = absurd cc
said_child (Busy cause) answer h = absurd cc
said_child InTransaction answer h = absurd cc
said_child NotInTransaction answer h = absurd cc
said_child HistoryFull answer h = absurd cc
said_child NoMemory answer h = absurd cc
said_child NoProcess answer h = absurd cc

-- and one that is not executed makes none
pub unsaid_child : (said : Reply) → answer_in said ≡ None → (child_in said ≡ None) × (born said ≡ 0)
unsaid_child (Answers a) h = absurd cc
unsaid_child said h = (refl, refl)

unsaid_ended : (op : Op) (said : Reply) → answer_in said ≡ None → is_ended op said ≡ false
unsaid_ended (Do call) (Answers a) h = absurd cc
unsaid_ended (Do call) said h = refl
unsaid_ended (Begin flags) said h = refl
unsaid_ended End said h = refl
unsaid_ended (Abort no_restart) said h = refl

inside_stays : (call : Call) (said : Reply) → is_inside call ≡ true → is_ended (Do call) said ≡ false
inside_stays Exit said h = absurd (false≢true h)
inside_stays call (Answers a) h = refl
inside_stays call said h = refl

ended_by : (call : Call) (said : Reply) → is_ended (Do call) said ≡ true → is_exit call ≡ true
ended_by call (Answers a) h = h
ended_by call said h = absurd (false≢true h)

no_refusal : (k : Kernel) (pid : ℕ) (e : Errno) → Err e ≡ reply k pid Exit → ⊥
no_refusal k pid e h = absurd cc

-- an executed exit has ended
exit_ends : (k : Kernel) (pid : ℕ) (call : Call) (said : Reply) → answer_in said ≡ Some (reply k pid call) → is_ended (Do call) said ≡ false → is_exit call ≡ false
exit_ends k pid Exit (Answers a) h f = f
exit_ends k pid Exit (Refuses e) h f = by (is_unsupported e) h where
  by : (b : Bool) → (if b then None else Some (Err e)) ≡ Some (reply k pid Exit) → is_exit Exit ≡ false
  by true g = absurd cc
  by false g = absurd (no_refusal k pid e (ap (answer_or (Err e)) g))
exit_ends k pid Exit said h f = absurd cc
exit_ends k pid call said h f = refl

module _ (limit : Limit) (m : Moment) (e : Entry) (right : Right limit m e) (s : Steady WellFormed limit m) (laws : CallLaws WellFormed) where
  -- no process of this number is there yet
  unmade : is_alive m.committed (suc m.committed.made) ≡ false
  unmade = elim (cases_Bool (is_alive m.committed (suc m.committed.made))) [
    | inr dead ↦ dead
    | inl alive ↦ (let low : suc m.committed.made ≤ m.committed.made = laws.alive_counted m.committed s.sound.lists.well (suc m.committed.made) alive in absurd (omega arith))
  ]

  still : SameProcesses m.committed (next m e).committed → (child_in e.reply ≡ None) × (born e.reply ≡ 0) → is_ended e.op e.reply ≡ false → ProcessesMove m e
  still same none stays = record {
    made = same.made ∙ (let n : born e.reply ≡ 0 = none.1 in let made = m.committed.made in omega arith);
    born = λ child h. absurd (no_child child (sym none.0 ∙ h));
    ended = λ h. absurd (false≢true (sym stays ∙ h));
    others = λ q ne free. record { alive = same.alive q; priority = same.priority q };
  } where
    no_child : (child : ℕ) → ◌≡◌ {A = Option ℕ} None (Some child) → ⊥
    no_child child h = absurd cc

  unmoved : (next m e).committed ≡ m.committed → SameProcesses m.committed (next m e).committed
  unmoved is = subst (SameProcesses m.committed) (sym is) (same_self m.committed)

  changed : (call : Call) → e.op ≡ Do call → answer_in e.reply ≡ Some (reply m.committed e.pid call) → CallMoves m.committed e.pid call (reply m.committed e.pid call) (next m e).committed → ProcessesMove m e
  changed call is_op is_answer moves = record {
    made = moves.made ∙ ap (λ n. m.committed.made + n) (sym said.1);
    born = λ child h.
        let it = moves.child child (sym said.0 ∙ h) in
        let dead : is_alive m.committed child ≡ false = ap (is_alive m.committed) it.0 ∙ unmade in
        record { number = it.0; unmade = dead; alive = it.1; phase = idle_stays limit m e right s.beyond child dead; priority = it.2 };
    ended = λ h. moves.ended (ended_by call e.reply (sym (ap (λ o. is_ended o e.reply) is_op) ∙ h));
    others = λ q ne free.
        let it = moves.others q (λ h. ne (said.0 ∙ h)) (elim free [
          | inl stays ↦ inl (exit_ends m.committed e.pid call e.reply is_answer (sym (ap (λ o. is_ended o e.reply) is_op) ∙ stays))
          | inr other ↦ inr other
        ]) in
        record { alive = it.0; priority = it.1 };
  } where
    said : (child_in e.reply ≡ child_of (reply m.committed e.pid call)) × (born e.reply ≡ born_of (reply m.committed e.pid call))
    said = said_child e.reply (reply m.committed e.pid call) is_answer

  moves_tidied : (call : Call) (answer : Result Answer Errno) (l : Kernel) → CallMoves m.committed e.pid call answer l → CallMoves m.committed e.pid call answer (tidy l)
  moves_tidied call answer l moves =
      let same = tidied_same l in
      record {
        made = same.made ∙ moves.made;
        child = λ p h. let it = moves.child p h in (it.0, same.alive p ∙ it.1, same.priority p ∙ it.2);
        ended = λ h. same.alive e.pid ∙ moves.ended h;
        others = λ q ne free. let it = moves.others q ne free in (same.alive q ∙ it.0, same.priority q ∙ it.1);
      }

  pub processes_move : ProcessesMove m e
  processes_move = by (kind limit m e right) where
    by : Kind m e → ProcessesMove m e
    by (Changes call is_s is_op taken) =
        let alive = alive_is m e.pid idle is_s (λ h. absurd cc) in
        let answer : answer_in e.reply ≡ Some (reply m.committed e.pid call) = taken.answer ∙ ap (λ k. Some (reply k e.pid call)) (plain_seen m e call taken is_s) in
        changed call is_op answer (subst (CallMoves m.committed e.pid call (reply m.committed e.pid call)) (sym (plain_same m e call taken is_s is_op))
        (moves_tidied call (reply m.committed e.pid call) _ (call_moves m.committed e.pid call e.chosen alive)))
    by (Pushes flags age calls call is_s is_op inside taken) =
        let said = said_child e.reply (reply (seen_by m e.pid) e.pid call) taken.answer in
        let none : child_of (reply (seen_by m e.pid) e.pid call) ≡ None = inside_childless (seen_by m e.pid) e.pid call inside in
        still (unmoved (pushed_same m e call taken flags age calls is_s is_op)) (said.0 ∙ none, said.1 ∙ born_none _ none) (ap (λ o. is_ended o e.reply) is_op ∙ inside_stays call e.reply inside)
    by (Commits flags age calls is_s is_op is_reply alone) =
        let alive = alive_is m e.pid (live flags age calls) is_s (λ h. absurd cc) in
        still (subst (SameProcesses m.committed) (sym (end_same WellFormed laws m e flags age calls s.sound is_s is_op is_reply))
        (same_through m.committed (loose e.pid (calls_at m e.pid) m.committed) _ (loose_same e.pid (calls_at m e.pid) m.committed (s.sound.lists.inside e.pid) alive) (tidied_same _)))
        (unsaid_child e.reply (ap answer_in is_reply)) (unsaid_ended e.op e.reply (ap answer_in is_reply))
    by (Begins flags is_s is_op is_reply alone) = still (unmoved (begun_still m e flags is_s is_op is_reply)) (unsaid_child e.reply (ap answer_in is_reply)) (unsaid_ended e.op e.reply (ap answer_in is_reply))
    by (Settles st again is_phase holds some left) = still (unmoved left.committed) (unsaid_child e.reply left.unanswered) (unsaid_ended e.op e.reply left.unanswered)
    by (Rests some left) = still (unmoved left.committed) (unsaid_child e.reply left.unanswered) (unsaid_ended e.op e.reply left.unanswered)

pub forks_and_exits_move : FromCallLaws ForksAndExitsMove
unfolding Legal
forks_and_exits_move laws root setup limit es e legal right =
    processes_move limit (after root setup es) e right (steady_after WellFormed laws limit (at_start root setup) es legal (steady_start WellFormed laws limit root setup)) laws

-- the count of processes made never falls
made_grows : (laws : CallLaws WellFormed) (limit : Limit) (m : Moment) (es : List Entry) → LegalFrom limit m es → Steady WellFormed limit m → m.committed.made ≤ (after_from m es).committed.made
made_grows laws limit m [] legal s = omega arith
made_grows laws limit m (e ∷ es) legal s =
    let here : (next m e).committed.made ≡ m.committed.made + born e.reply = (processes_move limit m e legal.1 s laws).made in
    let rest : (next m e).committed.made ≤ (after_from (next m e) es).committed.made = made_grows laws limit (next m e) es legal.2 (steady_next WellFormed laws limit m e legal.1 s) in
    omega arith

refused_by : (limit : Limit) (m : Moment) (e : Entry) (op : Op) → RightAt limit m e gone op → e.reply ≡ NoProcess
refused_by limit m e op right = right.0

refused_from : (laws : CallLaws WellFormed) (limit : Limit) (m : Moment) (es : List Entry) → LegalFrom limit m es → Steady WellFormed limit m → (q : ℕ) → (after_from m es).committed.made < q → AllByRecursion (λ e. e.reply ≡ NoProcess) (mine q es)
refused_from laws limit m [] legal s q high = tt
refused_from laws limit m (e ∷ es) legal s q high = by (eqb e.pid q) refl (refused_from laws limit (next m e) es legal.2 (steady_next WellFormed laws limit m e legal.1 s) q high) where
  dead : e.pid ≡ q → status m e.pid ≡ gone
  dead same = elim (cases_Bool (is_alive m.committed e.pid)) [
    | inr d ↦ ap (λ b. if b then m.phase e.pid else gone) d
    | inl alive ↦
        let low : e.pid ≤ m.committed.made = laws.alive_counted m.committed s.sound.lists.well e.pid alive in
        let grows : m.committed.made ≤ (after_from m (e ∷ es)).committed.made = made_grows laws limit m (e ∷ es) legal s in
        let is : e.pid ≡ q = same in
        let above : (after_from m (e ∷ es)).committed.made < q = high in
        absurd (omega arith)
  ]

  by : (b : Bool) → eqb e.pid q ≡ b → AllByRecursion (λ e. e.reply ≡ NoProcess) (mine q es) → AllByRecursion (λ e. e.reply ≡ NoProcess) (if b then e ∷ mine q es else mine q es)
  by true is rest = (refused_by limit m e e.op (subst (λ s. RightAt limit m e s e.op) (dead (eqb-true e.pid q is)) legal.1), rest)
  by false is rest = rest

pub unmade_are_refused : FromCallLaws UnmadeAreRefused
unfolding Legal
unmade_are_refused laws root setup limit es legal q high = refused_from laws limit (at_start root setup) es legal (steady_start WellFormed laws limit root setup) q high
