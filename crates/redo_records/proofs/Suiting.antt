-- Each right entry suits.
use Rattle.std.proofs.Common.{◌≡◌, Bool, true, false, not, ◌&&◌, ◌||◌, [], ◌∷◌, Option, Some, None, refl, ap, ◌∙◌}
use Rattle.std.specs.Prelude.{if◌then◌else◌}
use Rattle.std.specs.Option.{is_some}
use Rattle.ids.specs.Flags.{is_aborting_unsupported}
use Rattle.model.specs.Entries.{BeginFlags, Op, Do, Begin, End, Abort, Aborted, Unsupported, Refuses, Cause, Reply, Entry, is_inside}
use Rattle.model.specs.Plan.{ENOTSUP}
use Rattle.model.specs.Calls.{Call}
use Rattle.model.specs.Forgetting.{Limit}
use Rattle.model.specs.Moments.{Status, gone, idle, live, doomed, Moment, status, after, counted_touches, losing_cause}
use Rattle.model.specs.Legal.{Outcome, Inside, RightAt, unsupported}
use Rattle.model.specs.Suits.{suits, is_clash, is_busy, is_begun, is_committed, is_given_up, is_in_transaction, is_not_in_transaction, is_no_process, is_executed, is_refused_inside}
use Rattle.history_laws.proofs.Laws.{legality_follows}
use Rattle.redo_records.specs.Recovery.{LegalEntriesSuit}

first_of : (a b : Bool) → a ≡ true → (a || b) ≡ true
first_of true b h = refl
first_of false b h = absurd cc

second_of : (a b : Bool) → b ≡ true → (a || b) ≡ true
second_of true b h = refl
second_of false b h = h

abbrev said_by : Bool → Reply
said_by b = if b then Aborted Unsupported false else Refuses ENOTSUP

refused : (flags : BeginFlags) (b : Bool) → is_aborting_unsupported flags ≡ b → is_refused_inside flags (unsupported flags) ≡ true
refused flags true h = ap (λ b. is_refused_inside flags (said_by b)) h ∙ h
refused flags false h = ap (λ b. is_refused_inside flags (said_by b)) h ∙ ap (λ b. not b && true) h

module _ (limit : Limit) (m : Moment) (e : Entry) where
  idle_call : (call : Call) (o : Option Cause) → Outcome m e idle call o → (is_busy e.reply || is_executed e.reply) ≡ true
  idle_call call (Some c) q = first_of _ _ (ap is_busy q.0)
  idle_call call None q = second_of _ _ (ap is_some q.answer)

  suits_at : (s : Status) (op : Op) → RightAt limit m e s op → suits s op e.reply ≡ true
  suits_at (doomed c flags age) op r = ap is_clash r.0
  suits_at gone op r = ap is_no_process r.0
  suits_at (live flags age calls) End r = ap is_committed r.0
  suits_at (live flags age calls) (Abort no_restart) r = ap is_given_up r.0
  suits_at (live flags age calls) (Begin new) r = ap is_in_transaction r.0
  suits_at (live flags age calls) (Do call) r = by_inside (is_inside call) r where
    by_cause : (o : Option Cause) → Outcome m e (live flags age calls) call o → (is_clash e.reply || is_executed e.reply) ≡ true
    by_cause (Some c) q = first_of _ _ (ap is_clash q.0)
    by_cause None q = second_of _ _ (ap is_some q.answer)

    by_inside : (b : Bool) → Inside limit m e (live flags age calls) flags call b → (if b then is_clash e.reply || is_executed e.reply else is_refused_inside flags e.reply) ≡ true
    by_inside true q = by_cause (losing_cause m e.pid (counted_touches m e.pid call)) q.0
    by_inside false q = ap (is_refused_inside flags) q.0 ∙ refused flags _ refl
  suits_at idle (Do call) r = idle_call call (losing_cause m e.pid (counted_touches m e.pid call)) r.0
  suits_at idle (Begin flags) r = ap is_begun r.0
  suits_at idle End r = ap is_not_in_transaction r.0
  suits_at idle (Abort no_restart) r = ap is_not_in_transaction r.0

pub legal_entries_suit : LegalEntriesSuit
legal_entries_suit root setup limit es e legal =
    let m : Moment = after root setup es in
    suits_at limit m e (status m e.pid) e.op (legality_follows.rest root setup limit es (e ∷ []) legal).1
