-- What a recorder keeps and tells after an entry that suits.
use Rattle.std.proofs.Common.{◌≡◌, ℕ, ◌+◌, Bool, true, false, not, ◌==◌, List, [], ◌∷◌, ◌++◌, cond, Option, Some, None, Result, Ok, Err, refl, sym, ap, subst, ◌∙◌, append-nil}
use Rattle.std.specs.Prelude.{if◌then◌else◌}
use Rattle.std.proofs.lemmas.Bool.{eqb-true}
use Rattle.std.proofs.lemmas.List.Elements.{filter-append}
use Rattle.model.specs.Plan.{Errno}
use Rattle.model.specs.Calls.{Call, Answer}
use Rattle.model.specs.Steps.{Item}
use Rattle.model.specs.Entries.{BeginFlags, Op, Do, Begin, End, Abort, Cause, Reply, Answers, Refuses, Begun, Committed, GivenUp, Aborted, Busy, InTransaction, NotInTransaction, HistoryFull, NoMemory, NoProcess, Entry, Executed, answer_in, is_inside, is_unsupported}
use Rattle.model.specs.Moments.{Status, gone, idle, live, doomed, Moment, status, is_alive, is_in, next, next_phase, own_next, with_call as with_executed, begun, settled, doom, doom_cause, dooming_touches, plain_calls, run_by}
use Rattle.model.specs.Legal.{items}
use Rattle.model.specs.Suits.{suits, is_committed}
use Rattle.redo_records.specs.Changing.{only_looks, changes, changing}
use Rattle.redo_records.specs.Records.{added, as_record}
use Rattle.redo_records.specs.Kept.{AreOf, IsKept, any_told, begun_kept, called, in_place, is_change, list_told, own_kept, own_told, plain_told, settled_kept}
use Rattle.redo_records.specs.Pending.{Pending}
use Rattle.redo_records.specs.Recording.{Tell}
use Rattle.redo_records.specs.declared.transaction.Transaction.{Transaction}
use Rattle.redo_records.specs.declared.transaction.Transaction.TheVariants.{Live, Doomed}

items_append : (pid : ℕ) (xs ys : List Executed) → items pid (xs ++ ys) ≡ items pid xs ++ items pid ys
items_append pid [] ys = refl
items_append pid (x ∷ xs) ys = ap (λ is. record { pid = pid; call = x.call; answer = x.answer; chosen = x.chosen } ∷ is) (items_append pid xs ys)

-- one call more of a list, without what changes nothing
changing_more : (pid : ℕ) (xs : List Executed) (x : Executed) → changing (items pid (xs ++ x ∷ [])) ≡ changing (items pid xs) ++ changing (items pid (x ∷ []))
changing_more pid xs x = ap changing (items_append pid xs (x ∷ [])) ∙ filter-append (λ it. changes it.call it.answer) (items pid xs) (items pid (x ∷ []))

are_more : (xs ys : List Item) (es fs : List Entry) → AreOf xs es → AreOf ys fs → AreOf (xs ++ ys) (es ++ fs)
are_more [] ys [] fs h g = g
are_more [] ys (e ∷ es) fs h g = absurd h
are_more (x ∷ xs) ys [] fs h g = absurd h
are_more (x ∷ xs) ys (e ∷ es) fs h g = (h.0, are_more xs ys es fs h.1 g)

are_same : (xs : List Item) (es : List Entry) → AreOf xs es → AreOf (xs ++ []) es
are_same xs es h = subst (λ ys. AreOf ys es) (sym (append-nil xs)) h

-- what is kept is a live list of these items
abbrev LiveOf : List Item → Option Transaction → Type 0
LiveOf its (Some (Live kept)) = AreOf its kept.entries
LiveOf its (Some Doomed) = ⊥
LiveOf its None = ⊥

live_kept : (pid : ℕ) (flags : BeginFlags) (age : ℕ) (calls : List Executed) (t : Option Transaction) → LiveOf (changing (items pid calls)) t → IsKept pid (live flags age calls) t
live_kept pid flags age calls (Some (Live kept)) h = h
live_kept pid flags age calls (Some Doomed) h = absurd h
live_kept pid flags age calls None h = absurd h

module _ (pid : ℕ) (chosen dooms : List ℕ) where
  abbrev entry : Op → Reply → Entry
  entry op reply = record { pid = pid; op = op; reply = reply; chosen = chosen; doomed = dooms }

  none_either : (e : Entry) (b : Bool) → IsKept pid idle (if b then called e None else None)
  none_either e true = tt
  none_either e false = tt

  doomed_either : (e : Entry) (b : Bool) (cause : Cause) (flags : BeginFlags) (age : ℕ) → IsKept pid (doomed cause flags age) (if b then called e (Some Doomed) else Some Doomed)
  doomed_either e true cause flags age = tt
  doomed_either e false cause flags age = tt

  call_kept : (call : Call) (a : Answer) (xs : List Item) (kept : Pending) (looks : Bool) → AreOf xs kept.entries
      → LiveOf (xs ++ cond (not looks) (record { pid = pid; call = call; answer = Ok a; chosen = chosen } ∷ []) []) (if not looks then called (entry (Do call) (Answers a)) (Some (Live kept)) else Some (Live kept))
  call_kept call a xs kept true h = are_same xs kept.entries h
  call_kept call a xs kept false h = are_more xs _ kept.entries (entry (Do call) (Answers a) ∷ []) h (refl, tt)

  answered : (s : Status) (t : Option Transaction) (op : Op) (a : Answer) → IsKept pid s t → IsKept pid (with_executed s op (Some (Ok a)) chosen) (if is_change op (Answers a) then called (entry op (Answers a)) t else t)
  answered idle None op a h = none_either (entry op (Answers a)) (is_change op (Answers a))
  answered idle (Some (Live kept)) op a h = absurd h
  answered idle (Some Doomed) op a h = absurd h
  answered gone None op a h = absurd h
  answered gone (Some (Live kept)) op a h = absurd h
  answered gone (Some Doomed) op a h = absurd h
  answered (doomed cause flags age) (Some Doomed) op a h = doomed_either (entry op (Answers a)) (is_change op (Answers a)) cause flags age
  answered (doomed cause flags age) (Some (Live kept)) op a h = absurd h
  answered (doomed cause flags age) None op a h = absurd h
  answered (live flags age calls) None op a h = absurd h
  answered (live flags age calls) (Some Doomed) op a h = absurd h
  answered (live flags age calls) (Some (Live kept)) (Begin new) a h = h
  answered (live flags age calls) (Some (Live kept)) End a h = h
  answered (live flags age calls) (Some (Live kept)) (Abort no_restart) a h = h
  answered (live flags age calls) (Some (Live kept)) (Do call) a h =
      let t : Option Transaction = if not (only_looks call) then called (entry (Do call) (Answers a)) (Some (Live kept)) else Some (Live kept) in
      live_kept pid flags age (calls ++ record { call = call; answer = Ok a; chosen = chosen } ∷ []) t
      (subst (λ its. LiveOf its t) (sym (changing_more pid calls (record { call = call; answer = Ok a; chosen = chosen })))
      (call_kept call a (changing (items pid calls)) kept (only_looks call) h))

  -- a call that is refused changes nothing
  abbrev refusal : Bool → Errno → Option (Result Answer Errno)
  refusal b x = if b then None else Some (Err x)

  refused : (s : Status) (t : Option Transaction) (op : Op) (b : Bool) (x : Errno) → IsKept pid s t → IsKept pid (with_executed s op (refusal b x) chosen) t
  refused idle t op b x h = h
  refused gone t op b x h = h
  refused (doomed cause flags age) t op b x h = h
  refused (live flags age calls) t (Begin new) b x h = h
  refused (live flags age calls) t End b x h = h
  refused (live flags age calls) t (Abort no_restart) b x h = h
  refused (live flags age calls) t (Do call) true x h = h
  refused (live flags age calls) None (Do call) false x h = absurd h
  refused (live flags age calls) (Some Doomed) (Do call) false x h = absurd h
  refused (live flags age calls) (Some (Live kept)) (Do call) false x h =
      subst (λ its. AreOf its kept.entries) (sym (changing_more pid calls (record { call = call; answer = Err x; chosen = chosen }))) (are_same (changing (items pid calls)) kept.entries h)

  begins : (b : Bool) (s : Status) (t : Option Transaction) (op : Op) (place : ℕ) → IsKept pid s t → suits (if b then s else gone) op Begun ≡ true → IsKept pid (begun s op place) (begun_kept op t)
  begins b idle None (Begin flags) place h u = tt
  begins b idle None (Do call) place h u = tt
  begins b idle None End place h u = tt
  begins b idle None (Abort no_restart) place h u = tt
  begins b idle (Some (Live kept)) op place h u = absurd h
  begins b idle (Some Doomed) op place h u = absurd h
  begins b gone None op place h u = absurd h
  begins b gone (Some (Live kept)) op place h u = absurd h
  begins b gone (Some Doomed) op place h u = absurd h
  begins true (live flags age calls) t (Begin new) place h u = absurd cc
  begins false (live flags age calls) t (Begin new) place h u = absurd cc
  begins b (live flags age calls) t (Do call) place h u = h
  begins b (live flags age calls) t End place h u = h
  begins b (live flags age calls) t (Abort no_restart) place h u = h
  begins true (doomed cause flags age) t (Begin new) place h u = absurd cc
  begins false (doomed cause flags age) t (Begin new) place h u = absurd cc
  begins b (doomed cause flags age) t (Do call) place h u = h
  begins b (doomed cause flags age) t End place h u = h
  begins b (doomed cause flags age) t (Abort no_restart) place h u = h

  settles : (s : Status) (t : Option Transaction) (again : Bool) → IsKept pid s t → IsKept pid (settled s again) (settled_kept again t)
  settles idle None true h = tt
  settles idle None false h = tt
  settles idle (Some (Live kept)) again h = absurd h
  settles idle (Some Doomed) again h = absurd h
  settles gone None again h = absurd h
  settles gone (Some (Live kept)) again h = absurd h
  settles gone (Some Doomed) again h = absurd h
  settles (live flags age calls) (Some (Live kept)) true h = tt
  settles (live flags age calls) (Some (Live kept)) false h = tt
  settles (live flags age calls) (Some Doomed) again h = absurd h
  settles (live flags age calls) None again h = absurd h
  settles (doomed cause flags age) (Some Doomed) true h = tt
  settles (doomed cause flags age) (Some Doomed) false h = tt
  settles (doomed cause flags age) (Some (Live kept)) again h = absurd h
  settles (doomed cause flags age) None again h = absurd h

  -- after an entry of the process itself
  pub own_is : (b : Bool) (s : Status) (t : Option Transaction) (op : Op) (reply : Reply) (place : ℕ) → IsKept pid s t → suits (if b then s else gone) op reply ≡ true → IsKept pid (own_next place s op reply chosen) (own_kept (entry op reply) reply t)
  own_is b s t op (Answers a) place h u = answered s t op a h
  own_is b s t op (Refuses x) place h u = refused s t op (is_unsupported x) x h
  own_is b s t op Begun place h u = begins b s t op place h u
  own_is b s t op Committed place h u = tt
  own_is b s t op (GivenUp again) place h u = settles s t again h
  own_is b s t op (Aborted why again) place h u = settles s t again h
  own_is b s t op (Busy cause) place h u = h
  own_is b s t op InTransaction place h u = h
  own_is b s t op NotInTransaction place h u = h
  own_is b s t op HistoryFull place h u = h
  own_is b s t op NoMemory place h u = h
  own_is b s t op NoProcess place h u = h

  -- what an entry tells
  tell_any : (its : List Item) (es : List Entry) → AreOf its es → Tell (as_record its) (any_told es)
  tell_any [] [] h = tt
  tell_any [] (e ∷ es) h = absurd h
  tell_any (it ∷ its) [] h = absurd h
  tell_any (it ∷ its) (e ∷ es) h = (h, tt)

  tell_plain : (call : Call) (a : Answer) (looks : Bool) → Tell (as_record (cond (not looks) (record { pid = pid; call = call; answer = Ok a; chosen = chosen } ∷ []) [])) (plain_told (entry (Do call) (Answers a)) (not looks) None)
  tell_plain call a true = tt
  tell_plain call a false = ((refl, tt), tt)

  inside_told : (e : Entry) (b : Bool) (x : Transaction) → plain_told e b (Some x) ≡ []
  inside_told e true x = refl
  inside_told e false x = refl

  not_plain : (e : Entry) (b : Bool) (x : Transaction) → Tell [] (plain_told e b (Some x))
  not_plain e b x = subst (Tell []) (sym (inside_told e b x)) tt

  tells_answer : (b : Bool) (s : Status) (t : Option Transaction) (op : Op) (a : Answer) → IsKept pid s t → suits (if b then s else gone) op (Answers a) ≡ true
      → Tell (as_record (changing (items pid (run_by (if b then s else gone) op (Answers a) chosen)))) (plain_told (entry op (Answers a)) (is_change op (Answers a)) t)
  tells_answer false s t op a h u = absurd cc
  tells_answer true idle None (Do call) a h u = tell_plain call a (only_looks call)
  tells_answer true idle None (Begin flags) a h u = tt
  tells_answer true idle None End a h u = tt
  tells_answer true idle None (Abort no_restart) a h u = tt
  tells_answer true idle (Some (Live kept)) op a h u = absurd h
  tells_answer true idle (Some Doomed) op a h u = absurd h
  tells_answer true gone t op a h u = absurd cc
  tells_answer true (live flags age calls) None op a h u = absurd h
  tells_answer true (live flags age calls) (Some x) (Do call) a h u = not_plain _ (is_change (Do call) (Answers a)) x
  tells_answer true (live flags age calls) (Some x) (Begin new) a h u = tt
  tells_answer true (live flags age calls) (Some x) End a h u = tt
  tells_answer true (live flags age calls) (Some x) (Abort no_restart) a h u = tt
  tells_answer true (doomed cause flags age) None op a h u = absurd h
  tells_answer true (doomed cause flags age) (Some x) op a h u = not_plain _ (is_change op (Answers a)) x

  neither : (b : Bool) → (if b then false else false) ≡ true → ⊥
  neither true h = absurd cc
  neither false h = absurd cc

  tells_commit : (b : Bool) (s : Status) (t : Option Transaction) (op : Op) → IsKept pid s t → suits (if b then s else gone) op Committed ≡ true
      → Tell (as_record (changing (items pid (run_by (if b then s else gone) op Committed chosen)))) (list_told t)
  tells_commit false s t op h u = absurd cc
  tells_commit true idle None (Do call) h u = tt
  tells_commit true idle None (Begin flags) h u = tt
  tells_commit true idle None End h u = tt
  tells_commit true idle None (Abort no_restart) h u = tt
  tells_commit true idle (Some (Live kept)) op h u = absurd h
  tells_commit true idle (Some Doomed) op h u = absurd h
  tells_commit true gone t op h u = absurd cc
  tells_commit true (live flags age calls) (Some (Live kept)) End h u = tell_any (changing (items pid calls)) kept.entries h
  tells_commit true (live flags age calls) (Some (Live kept)) (Do call) h u = absurd (neither (is_inside call) u)
  tells_commit true (live flags age calls) (Some (Live kept)) (Begin new) h u = absurd cc
  tells_commit true (live flags age calls) (Some (Live kept)) (Abort no_restart) h u = absurd cc
  tells_commit true (live flags age calls) (Some Doomed) op h u = absurd h
  tells_commit true (live flags age calls) None op h u = absurd h
  tells_commit true (doomed cause flags age) t op h u = absurd cc

  tells_refusal : (s : Status) (op : Op) (b : Bool) (x : Errno) → Tell (as_record (changing (items pid (run_by s op (Refuses x) chosen)))) []
  tells_refusal idle (Do call) b x = by (is_unsupported x) where
    by : (b : Bool) → Tell (as_record (changing (items pid (plain_calls call (refusal b x) chosen)))) []
    by true = tt
    by false = tt
  tells_refusal idle (Begin flags) b x = tt
  tells_refusal idle End b x = tt
  tells_refusal idle (Abort no_restart) b x = tt
  tells_refusal gone op b x = tt
  tells_refusal (doomed cause flags age) op b x = tt
  tells_refusal (live flags age calls) (Do call) b x = tt
  tells_refusal (live flags age calls) (Begin new) b x = tt
  tells_refusal (live flags age calls) End b x = tt
  tells_refusal (live flags age calls) (Abort no_restart) b x = tt

  -- an entry that is no executed call and no commit runs nothing
  runs_none : (s : Status) (op : Op) (reply : Reply) → answer_in reply ≡ None → is_committed reply ≡ false → run_by s op reply chosen ≡ []
  runs_none idle (Do call) reply h g = ap (λ o. plain_calls call o chosen) h
  runs_none idle (Begin flags) reply h g = refl
  runs_none idle End reply h g = refl
  runs_none idle (Abort no_restart) reply h g = refl
  runs_none gone op reply h g = refl
  runs_none (doomed cause flags age) op reply h g = refl
  runs_none (live flags age calls) (Do call) reply h g = refl
  runs_none (live flags age calls) (Begin new) reply h g = refl
  runs_none (live flags age calls) (Abort no_restart) reply h g = refl
  runs_none (live flags age calls) End Committed h g = absurd cc
  runs_none (live flags age calls) End (Answers a) h g = refl
  runs_none (live flags age calls) End (Refuses x) h g = refl
  runs_none (live flags age calls) End Begun h g = refl
  runs_none (live flags age calls) End (GivenUp again) h g = refl
  runs_none (live flags age calls) End (Aborted why again) h g = refl
  runs_none (live flags age calls) End (Busy cause) h g = refl
  runs_none (live flags age calls) End InTransaction h g = refl
  runs_none (live flags age calls) End NotInTransaction h g = refl
  runs_none (live flags age calls) End HistoryFull h g = refl
  runs_none (live flags age calls) End NoMemory h g = refl
  runs_none (live flags age calls) End NoProcess h g = refl

  tells_none : (s : Status) (op : Op) (reply : Reply) → answer_in reply ≡ None → is_committed reply ≡ false → Tell (as_record (changing (items pid (run_by s op reply chosen)))) []
  tells_none s op reply h g = subst (λ (cs : List Executed). Tell (as_record (changing (items pid cs))) []) (sym (runs_none s op reply h g)) tt

  -- what an entry tells is what it adds
  pub told_is : (b : Bool) (s : Status) (t : Option Transaction) (op : Op) (reply : Reply) → IsKept pid s t → suits (if b then s else gone) op reply ≡ true
      → Tell (as_record (changing (items pid (run_by (if b then s else gone) op reply chosen)))) (own_told (entry op reply) reply t)
  told_is b s t op (Answers a) h u = tells_answer b s t op a h u
  told_is b s t op (Refuses x) h u = tells_refusal (if b then s else gone) op (is_unsupported x) x
  told_is b s t op Begun h u = tells_none (if b then s else gone) op Begun refl refl
  told_is b s t op Committed h u = tells_commit b s t op h u
  told_is b s t op (GivenUp again) h u = tells_none (if b then s else gone) op (GivenUp again) refl refl
  told_is b s t op (Aborted why again) h u = tells_none (if b then s else gone) op (Aborted why again) refl refl
  told_is b s t op (Busy cause) h u = tells_none (if b then s else gone) op (Busy cause) refl refl
  told_is b s t op InTransaction h u = tells_none (if b then s else gone) op InTransaction refl refl
  told_is b s t op NotInTransaction h u = tells_none (if b then s else gone) op NotInTransaction refl refl
  told_is b s t op HistoryFull h u = tells_none (if b then s else gone) op HistoryFull refl refl
  told_is b s t op NoMemory h u = tells_none (if b then s else gone) op NoMemory refl refl
  told_is b s t op NoProcess h u = tells_none (if b then s else gone) op NoProcess refl refl

doomed_is : (pid : ℕ) (s : Status) (t : Option Transaction) (cause : Cause) → IsKept pid s t → IsKept pid (doom s cause) (in_place Doomed t)
doomed_is pid idle None cause h = tt
doomed_is pid idle (Some (Live kept)) cause h = absurd h
doomed_is pid idle (Some Doomed) cause h = absurd h
doomed_is pid gone None cause h = absurd h
doomed_is pid gone (Some (Live kept)) cause h = absurd h
doomed_is pid gone (Some Doomed) cause h = absurd h
doomed_is pid (live flags age calls) (Some (Live kept)) cause h = tt
doomed_is pid (live flags age calls) (Some Doomed) cause h = absurd h
doomed_is pid (live flags age calls) None cause h = absurd h
doomed_is pid (doomed first flags age) (Some Doomed) cause h = tt
doomed_is pid (doomed first flags age) (Some (Live kept)) cause h = absurd h
doomed_is pid (doomed first flags age) None cause h = absurd h

-- An entry that suits what stood before it. What it says of its own process is noted of the same entry
-- with any others as those that it dooms.
module _ (m : Moment) (e : Entry) (dooms : List ℕ) where
  abbrev own : Entry
  own = record { pid = e.pid; op = e.op; reply = e.reply; chosen = e.chosen; doomed = dooms }

  pub told_next : (t : Option Transaction) → IsKept e.pid (m.phase e.pid) t → suits (status m e.pid) e.op e.reply ≡ true → Tell (as_record (added m e)) (own_told own e.reply t)
  told_next t h u = told_is e.pid e.chosen dooms (is_alive m.committed e.pid) (m.phase e.pid) t e.op e.reply h u

  pub kept_next : (q : ℕ) (x y z : Option Transaction) (ds : List ℕ) → ds ≡ e.doomed → IsKept q (m.phase q) x → suits (status m e.pid) e.op e.reply ≡ true
      → y ≡ (if q == e.pid then own_kept own e.reply x else x) → z ≡ (if is_in q ds then in_place Doomed y else y)
      → IsKept q ((next m e).phase q) z
  kept_next q x y z ds same h u first then_doomed =
      subst (IsKept q (next_phase m e q)) (sym (then_doomed ∙ ap (λ (ns : List ℕ). if is_in q ns then in_place Doomed y else y) same)) (by_doomed (is_in q e.doomed)) where
        by_own : (b : Bool) → (q == e.pid) ≡ b → IsKept q (if b then own_next (m.entries + 1) (m.phase q) e.op e.reply e.chosen else m.phase q) (if b then own_kept own e.reply x else x)
        by_own false _ = h
        by_own true is =
            let met : q ≡ e.pid = eqb-true q e.pid is in
            subst (λ (p : ℕ). IsKept p (own_next (m.entries + 1) (m.phase p) e.op e.reply e.chosen) (own_kept own e.reply x)) (sym met)
            (own_is e.pid e.chosen dooms (is_alive m.committed e.pid) (m.phase e.pid) x e.op e.reply (m.entries + 1) (subst (λ (p : ℕ). IsKept p (m.phase p) x) met h) u)

        owned : IsKept q (if q == e.pid then own_next (m.entries + 1) (m.phase q) e.op e.reply e.chosen else m.phase q) y
        owned = subst (IsKept q (if q == e.pid then own_next (m.entries + 1) (m.phase q) e.op e.reply e.chosen else m.phase q)) (sym first) (by_own (q == e.pid) refl)

        by_doomed : (d : Bool) → IsKept q (if d then doom (if q == e.pid then own_next (m.entries + 1) (m.phase q) e.op e.reply e.chosen else m.phase q) (doom_cause m e.pid (dooming_touches m e.pid e.op) q) else (if q == e.pid then own_next (m.entries + 1) (m.phase q) e.op e.reply e.chosen else m.phase q)) (if d then in_place Doomed y else y)
        by_doomed true = doomed_is q _ y _ owned
        by_doomed false = owned
