-- Histories whose entries are renamed: their statuses, their serial lists and the committed states.
use Rattle.std.proofs.Common.{◌≡◌, ℕ, ◌+◌, Bool, true, false, if◌then◌else◌, ◌==◌, List, [], ◌∷◌, ◌++◌, map, Option, Some, None, is_some, Result, Ok, Err, refl, sym, ap, ap₂, subst, ◌∙◌, map-id}
use Rattle.std.specs.List.{AllByRecursion}
use Rattle.std.specs.Prelude.{⊤}
use Rattle.std.proofs.lemmas.List.{map-append}
use Rattle.model.specs.FiniteMap.{get}
use Rattle.model.specs.State.{Kernel, Process, mapped}
use Rattle.model.specs.Plan.{Errno}
use Rattle.model.specs.Calls.{Call, Answer, Stated}
use Rattle.model.specs.Steps.{Item, Run}
use Rattle.model.specs.Entries.{BeginFlags, Op, Do, Begin, End, Abort, Cause, Reply, Answers, Refuses, Begun, Committed, GivenUp, Aborted, Busy, InTransaction, NotInTransaction, HistoryFull, NoMemory, NoProcess, Entry, Executed, is_unsupported, answer_in}
use Rattle.model.specs.Moments.{Setup, Status, gone, idle, live, doomed, Moment, is_alive, status, at_start, after_list, settled, with_call, begun, own_next, doom, doom_cause, dooming_touches, is_in, next_phase, plain_calls, run_by, next}
use Rattle.model.proofs.Laws.{all-append}
use Rattle.model.specs.Legal.{items, serial_from, serial}
use Rattle.renaming_laws.specs.Renaming.{IsRenaming, swap, renamed, renamed_process}
use Rattle.renaming_laws.specs.Renamed.{renamed_answer, renamed_item, renamed_executed, renamed_reply, renamed_entry, mapped_ok}
use Rattle.renaming_laws.specs.Laws.{SlotsAreThere}
use Rattle.renaming_laws.specs.Histories.{AlikeStatus, both_gone, both_idle, both_live, both_doomed, HistoryIsRenamed, HistoriesAreRenamed, RootIsFreeInHistories}
use Rattle.renaming_laws.proofs.States.{process_got}
use Rattle.renaming_laws.proofs.Slots.{slots_at_start}
use Rattle.renaming_laws.proofs.Runs.{run_renamed, slots_after}
use Rattle.renaming_laws.proofs.Swaps.{HasNeither, swap_renames, item_stays}
use Rattle.renaming_laws.proofs.Roots.{start_swapped}
use Rattle.renaming_laws.proofs.Told.{run_has_neither}

-- Two statuses that differ in the numbers of their lists, and in causes, alone.
data SameLists (f : ℕ → ℕ) : Status → Status → Type 0 where
  same_gone : SameLists f gone gone
  same_idle : SameLists f idle idle
  same_live : (flags : BeginFlags) (age : ℕ) (calls : List Executed) → SameLists f (live flags age calls) (live flags age (map (renamed_executed f) calls))
  same_doomed : (cause other : Cause) (flags : BeginFlags) (age : ℕ) → SameLists f (doomed cause flags age) (doomed other flags age)

alike : (f : ℕ → ℕ) (AreAlike : List Executed → List Executed → Type 0) → ((calls : List Executed) → AreAlike calls (map (renamed_executed f) calls)) → (s t : Status) → SameLists f s t → AlikeStatus AreAlike s t
alike f AreAlike h s t same_gone = both_gone
alike f AreAlike h s t same_idle = both_idle
alike f AreAlike h s t (same_live flags age calls) = both_live flags age calls (map (renamed_executed f) calls) (h calls)
alike f AreAlike h s t (same_doomed cause other flags age) = both_doomed cause other flags age

-- a run of two lists, and of one process's calls
record Split (k : Kernel) (first rest : List Item) (after : Kernel) : Type 0 where
  mid : Kernel
  before : Run k first mid
  behind : Run mid rest after

split : (k : Kernel) (first rest : List Item) (after : Kernel) → Run k (first ++ rest) after → Split k first rest after
split k [] rest after run = record { mid = k; before = refl; behind = run }
split k (it ∷ first) rest after run =
    let more = split run.0 first rest after run.2 in
    record { mid = more.mid; before = (run.0, run.1, more.before); behind = more.behind }

joined : (k : Kernel) (first rest : List Item) (mid after : Kernel) → Run k first mid → Run mid rest after → Run k (first ++ rest) after
joined k [] rest mid after run more = subst (λ k. Run k rest after) run more
joined k (it ∷ first) rest mid after run more = (run.0, run.1, joined run.0 first rest mid after run.2 more)

run_list : (pid : ℕ) (es : List Executed) (k after : Kernel) → Run k (items pid es) after → after_list pid es k ≡ after
run_list pid [] k after run = sym run
run_list pid (e ∷ es) k after run = ap (after_list pid es) (sym run.1.changed) ∙ run_list pid es run.0 after run.2

module _ (f : ℕ → ℕ) where
  items_renamed : (pid : ℕ) (es : List Executed) → items pid (map (renamed_executed f) es) ≡ map (renamed_item f) (items pid es)
  items_renamed pid [] = refl
  items_renamed pid (e ∷ es) = ap (λ (its : List Item). renamed_item f (record { pid = pid; call = e.call; answer = e.answer; chosen = e.chosen }) ∷ its) (items_renamed pid es)

  refused_renamed : (e : Errno) (b : Bool) → ◌≡◌ {A = Option (Result Answer Errno)} (if b then None else Some (Err e)) (mapped (mapped_ok (renamed_answer f)) (if b then None else Some (Err e)))
  refused_renamed e true = refl
  refused_renamed e false = refl

  answer_renamed : (reply : Reply) → answer_in (renamed_reply f reply) ≡ mapped (mapped_ok (renamed_answer f)) (answer_in reply)
  answer_renamed (Answers a) = refl
  answer_renamed (Refuses e) = refused_renamed e (is_unsupported e)
  answer_renamed Begun = refl
  answer_renamed Committed = refl
  answer_renamed (GivenUp again) = refl
  answer_renamed (Aborted why again) = refl
  answer_renamed (Busy cause) = refl
  answer_renamed InTransaction = refl
  answer_renamed NotInTransaction = refl
  answer_renamed HistoryFull = refl
  answer_renamed NoMemory = refl
  answer_renamed NoProcess = refl

  plain_renamed : (call : Call) (answer : Option (Result Answer Errno)) (chosen : List ℕ) → plain_calls call (mapped (mapped_ok (renamed_answer f)) answer) (map f chosen) ≡ map (renamed_executed f) (plain_calls call answer chosen)
  plain_renamed call (Some answer) chosen = refl
  plain_renamed call None chosen = refl

  -- what an entry runs
  run_by_renamed : (s t : Status) → SameLists f s t → (op : Op) (reply : Reply) (chosen : List ℕ) → run_by t op (renamed_reply f reply) (map f chosen) ≡ map (renamed_executed f) (run_by s op reply chosen)
  run_by_renamed s t same_gone op reply chosen = refl
  run_by_renamed s t (same_doomed cause other flags age) op reply chosen = refl
  run_by_renamed s t same_idle (Do call) reply chosen = ap (λ answer. plain_calls call answer (map f chosen)) (answer_renamed reply) ∙ plain_renamed call (answer_in reply) chosen
  run_by_renamed s t same_idle (Begin flags) reply chosen = refl
  run_by_renamed s t same_idle End reply chosen = refl
  run_by_renamed s t same_idle (Abort no_restart) reply chosen = refl
  run_by_renamed s t (same_live flags age calls) (Do call) reply chosen = refl
  run_by_renamed s t (same_live flags age calls) (Begin new) reply chosen = refl
  run_by_renamed s t (same_live flags age calls) (Abort no_restart) reply chosen = refl
  run_by_renamed s t (same_live flags age calls) End (Answers a) chosen = refl
  run_by_renamed s t (same_live flags age calls) End (Refuses e) chosen = refl
  run_by_renamed s t (same_live flags age calls) End Begun chosen = refl
  run_by_renamed s t (same_live flags age calls) End Committed chosen = refl
  run_by_renamed s t (same_live flags age calls) End (GivenUp again) chosen = refl
  run_by_renamed s t (same_live flags age calls) End (Aborted why again) chosen = refl
  run_by_renamed s t (same_live flags age calls) End (Busy cause) chosen = refl
  run_by_renamed s t (same_live flags age calls) End InTransaction chosen = refl
  run_by_renamed s t (same_live flags age calls) End NotInTransaction chosen = refl
  run_by_renamed s t (same_live flags age calls) End HistoryFull chosen = refl
  run_by_renamed s t (same_live flags age calls) End NoMemory chosen = refl
  run_by_renamed s t (same_live flags age calls) End NoProcess chosen = refl

  -- the status of its process after it
  settled_alike : (s t : Status) → SameLists f s t → (again : Bool) → SameLists f (settled s again) (settled t again)
  settled_alike s t same_gone again = same_gone
  settled_alike s t same_idle again = same_idle
  settled_alike s t (same_live flags age calls) true = same_live flags age []
  settled_alike s t (same_live flags age calls) false = same_idle
  settled_alike s t (same_doomed cause other flags age) true = same_live flags age []
  settled_alike s t (same_doomed cause other flags age) false = same_idle

  begun_alike : (s t : Status) → SameLists f s t → (op : Op) (place : ℕ) → SameLists f (begun s op place) (begun t op place)
  begun_alike s t same_gone op place = same_gone
  begun_alike s t same_idle (Do call) place = same_idle
  begun_alike s t same_idle (Begin flags) place = same_live flags place []
  begun_alike s t same_idle End place = same_idle
  begun_alike s t same_idle (Abort no_restart) place = same_idle
  begun_alike s t (same_live flags age calls) op place = same_live flags age calls
  begun_alike s t (same_doomed cause other flags age) op place = same_doomed cause other flags age

  with_call_alike : (s t : Status) → SameLists f s t → (op : Op) (answer : Option (Result Answer Errno)) (chosen : List ℕ) → SameLists f (with_call s op answer chosen) (with_call t op (mapped (mapped_ok (renamed_answer f)) answer) (map f chosen))
  with_call_alike s t same_gone op answer chosen = same_gone
  with_call_alike s t same_idle op answer chosen = same_idle
  with_call_alike s t (same_doomed cause other flags age) op answer chosen = same_doomed cause other flags age
  with_call_alike s t (same_live flags age calls) (Do call) (Some answer) chosen =
      subst (λ es. SameLists f (live flags age (calls ++ record { call = call; answer = answer; chosen = chosen } ∷ [])) (live flags age es)) (map-append (renamed_executed f) calls (record { call = call; answer = answer; chosen = chosen } ∷ []))
      (same_live flags age (calls ++ record { call = call; answer = answer; chosen = chosen } ∷ []))
  with_call_alike s t (same_live flags age calls) (Do call) None chosen = same_live flags age calls
  with_call_alike s t (same_live flags age calls) (Begin new) answer chosen = same_live flags age calls
  with_call_alike s t (same_live flags age calls) End answer chosen = same_live flags age calls
  with_call_alike s t (same_live flags age calls) (Abort no_restart) answer chosen = same_live flags age calls

  own_alike : (place : ℕ) (s t : Status) → SameLists f s t → (op : Op) (reply : Reply) (chosen : List ℕ) → SameLists f (own_next place s op reply chosen) (own_next place t op (renamed_reply f reply) (map f chosen))
  own_alike place s t h op (Answers a) chosen = with_call_alike s t h op (Some (Ok a)) chosen
  own_alike place s t h op (Refuses e) chosen = subst (λ answer. SameLists f (with_call s op (answer_in (Refuses e)) chosen) (with_call t op answer (map f chosen))) (sym (answer_renamed (Refuses e))) (with_call_alike s t h op (answer_in (Refuses e)) chosen)
  own_alike place s t h op Begun chosen = begun_alike s t h op place
  own_alike place s t h op Committed chosen = same_idle
  own_alike place s t h op (GivenUp again) chosen = settled_alike s t h again
  own_alike place s t h op (Aborted why again) chosen = settled_alike s t h again
  own_alike place s t h op (Busy cause) chosen = h
  own_alike place s t h op InTransaction chosen = h
  own_alike place s t h op NotInTransaction chosen = h
  own_alike place s t h op HistoryFull chosen = h
  own_alike place s t h op NoMemory chosen = h
  own_alike place s t h op NoProcess chosen = h

  doom_alike : (s t : Status) → SameLists f s t → (cause other : Cause) → SameLists f (doom s cause) (doom t other)
  doom_alike s t same_gone cause other = same_gone
  doom_alike s t same_idle cause other = same_idle
  doom_alike s t (same_live flags age calls) cause other = same_doomed cause other flags age
  doom_alike s t (same_doomed first second flags age) cause other = same_doomed first second flags age

  either_alike : (b : Bool) (s s' t t' : Status) → SameLists f s s' → SameLists f t t' → SameLists f (if b then s else t) (if b then s' else t')
  either_alike true s s' t t' h g = h
  either_alike false s s' t t' h g = g

-- Two moments that differ in numbers and causes alone: the committed states by one renaming, the
-- lists by another.
record Alike (f g : ℕ → ℕ) (m l : Moment) : Type 0 where
  committed : l.committed ≡ renamed f m.committed
  entries : l.entries ≡ m.entries
  phase : (q : ℕ) → SameLists g (m.phase q) (l.phase q)
  slots : SlotsAreThere m.committed

-- Both renamings rename alike what is run.
module _ (f g : ℕ → ℕ) (r : IsRenaming f) (IsFree : Item → Type 0) (same : (it : Item) → IsFree it → renamed_item f it ≡ renamed_item g it) where
  same_items : (its : List Item) → AllByRecursion IsFree its → map (renamed_item f) its ≡ map (renamed_item g) its
  same_items [] h = refl
  same_items (it ∷ its) h = ap₂ (λ (first : Item) (rest : List Item). first ∷ rest) (same it h.0) (same_items its h.1)

  some_still : (x : Option Process) → is_some (mapped (renamed_process f) x) ≡ is_some x
  some_still None = refl
  some_still (Some process) = refl

  alive_still : (m l : Moment) → Alike f g m l → (pid : ℕ) → is_alive l.committed pid ≡ is_alive m.committed pid
  alive_still m l h pid = ap (λ k. is_alive k pid) h.committed ∙ ap is_some (process_got f r m.committed pid) ∙ some_still (get m.committed.processes pid)

  status_alike : (m l : Moment) → Alike f g m l → (pid : ℕ) → SameLists g (status m pid) (status l pid)
  status_alike m l h pid = subst (λ b. SameLists g (status m pid) (if b then l.phase pid else gone)) (sym (alive_still m l h pid)) (either_alike g (is_alive m.committed pid) (m.phase pid) (l.phase pid) gone gone (h.phase pid) same_gone)

  runs_alike : (m l : Moment) → Alike f g m l → (e : Entry) → run_by (status l e.pid) e.op (renamed_reply g e.reply) (map g e.chosen) ≡ map (renamed_executed g) (run_by (status m e.pid) e.op e.reply e.chosen)
  runs_alike m l h e = run_by_renamed g (status m e.pid) (status l e.pid) (status_alike m l h e.pid) e.op e.reply e.chosen

  phase_alike : (m l : Moment) → Alike f g m l → (e : Entry) (q : ℕ) → SameLists g (next_phase m e q) (next_phase l (renamed_entry g e) q)
  phase_alike m l h e q =
      let place : ℕ = m.entries + 1 in
      let own : SameLists g (own_next place (m.phase q) e.op e.reply e.chosen) (own_next (l.entries + 1) (l.phase q) e.op (renamed_reply g e.reply) (map g e.chosen)) =
      subst (λ n. SameLists g (own_next place (m.phase q) e.op e.reply e.chosen) (own_next (n + 1) (l.phase q) e.op (renamed_reply g e.reply) (map g e.chosen))) (sym h.entries) (own_alike g place (m.phase q) (l.phase q) (h.phase q) e.op e.reply e.chosen) in
      let undoomed : SameLists g (if q == e.pid then own_next place (m.phase q) e.op e.reply e.chosen else m.phase q) (if q == e.pid then own_next (l.entries + 1) (l.phase q) e.op (renamed_reply g e.reply) (map g e.chosen) else l.phase q) =
      either_alike g (q == e.pid) _ _ _ _ own (h.phase q) in
      either_alike g (is_in q e.doomed) _ _ _ _ (doom_alike g _ _ undoomed (doom_cause m e.pid (dooming_touches m e.pid e.op) q) (doom_cause l e.pid (dooming_touches l e.pid e.op) q)) undoomed

  -- the run of an entry's calls in the renamed state
  entry_runs : (m l : Moment) → Alike f g m l → (e : Entry) (mid : Kernel) → AllByRecursion IsFree (items e.pid (run_by (status m e.pid) e.op e.reply e.chosen)) → Run m.committed (items e.pid (run_by (status m e.pid) e.op e.reply e.chosen)) mid
      → Run l.committed (items e.pid (run_by (status l e.pid) e.op (renamed_reply g e.reply) (map g e.chosen))) (renamed f mid)
  entry_runs m l h e mid free run =
      let its : List Item = items e.pid (run_by (status m e.pid) e.op e.reply e.chosen) in
      subst (λ es. Run l.committed (items e.pid es) (renamed f mid)) (sym (runs_alike m l h e))
      (subst (λ its. Run l.committed its (renamed f mid)) (same_items its free ∙ sym (items_renamed g e.pid (run_by (status m e.pid) e.op e.reply e.chosen)))
      (subst (λ k. Run k (map (renamed_item f) its) (renamed f mid)) (sym h.committed) (run_renamed f r m.committed h.slots its mid run)))

  next_alike : (m l : Moment) → Alike f g m l → (e : Entry) (mid : Kernel) → AllByRecursion IsFree (items e.pid (run_by (status m e.pid) e.op e.reply e.chosen)) → Run m.committed (items e.pid (run_by (status m e.pid) e.op e.reply e.chosen)) mid → Alike f g (next m e) (next l (renamed_entry g e))
  next_alike m l h e mid free run =
      let here : after_list e.pid (run_by (status m e.pid) e.op e.reply e.chosen) m.committed ≡ mid = run_list e.pid (run_by (status m e.pid) e.op e.reply e.chosen) m.committed mid run in
      record {
        committed = run_list e.pid (run_by (status l e.pid) e.op (renamed_reply g e.reply) (map g e.chosen)) l.committed (renamed f mid) (entry_runs m l h e mid free run) ∙ ap (renamed f) (sym here);
        entries = ap (λ n. n + 1) h.entries;
        phase = phase_alike m l h e;
        slots = subst SlotsAreThere (sym here) (slots_after f r m.committed h.slots (items e.pid (run_by (status m e.pid) e.op e.reply e.chosen)) mid run);
      }

  -- the lists of live transactions, and what an entry runs
  module _ (AreAlike : List Executed → List Executed → Type 0) (h : (calls : List Executed) → AreAlike calls (map (renamed_executed g) calls)) where
    history_renamed : (m l : Moment) → Alike f g m l → (es : List Entry) (after : Kernel) → AllByRecursion IsFree (serial_from m es) → Run m.committed (serial_from m es) after
        → HistoryIsRenamed f AreAlike m l es (map (renamed_entry g) es) (map (renamed_item g) (serial_from m es)) after
    history_renamed m l both [] after free run = record { serial = refl; run = ap (renamed f) run ∙ sym both.committed; statuses = λ q. alike g AreAlike h (status m q) (status l q) (status_alike m l both q); phases = λ q. alike g AreAlike h (m.phase q) (l.phase q) (both.phase q) }
    history_renamed m l both (e ∷ es) after free run =
        let calls : List Executed = run_by (status m e.pid) e.op e.reply e.chosen in
        let its : List Item = items e.pid calls in
        let parts = split m.committed its (serial_from (next m e) es) after run in
        let frees = all-append IsFree its (serial_from (next m e) es) free in
        let here : after_list e.pid calls m.committed ≡ parts.mid = run_list e.pid calls m.committed parts.mid parts.before in
        let alike_next = next_alike m l both e parts.mid frees.0 parts.before in
        let rest = history_renamed (next m e) (next l (renamed_entry g e)) alike_next es after frees.1 (subst (λ k. Run k (serial_from (next m e) es) after) (sym here) parts.behind) in
        let same_run : items e.pid (run_by (status l e.pid) e.op (renamed_reply g e.reply) (map g e.chosen)) ≡ map (renamed_item g) its = ap (items e.pid) (runs_alike m l both e) ∙ items_renamed g e.pid calls in
        let first : Run l.committed (map (renamed_item g) its) (renamed f parts.mid) = subst (λ its. Run l.committed its (renamed f parts.mid)) same_run (entry_runs m l both e parts.mid frees.0 parts.before) in
        let both_parts : map (renamed_item g) (its ++ serial_from (next m e) es) ≡ map (renamed_item g) its ++ map (renamed_item g) (serial_from (next m e) es) = map-append (renamed_item g) its (serial_from (next m e) es) in
        record {
          serial = ap₂ (λ (xs : List Item) (ys : List Item). xs ++ ys) same_run rest.serial ∙ sym both_parts;
          run = subst (λ its. Run l.committed its (renamed f after)) (sym both_parts)
              (joined l.committed (map (renamed_item g) its) (map (renamed_item g) (serial_from (next m e) es)) (renamed f parts.mid) (renamed f after) first
              (subst (λ k. Run k (map (renamed_item g) (serial_from (next m e) es)) (renamed f after)) (alike_next.committed ∙ ap (renamed f) here) rest.run));
          statuses = (alike g AreAlike h (status m e.pid) (status l e.pid) (status_alike m l both e.pid), rest.statuses);
          phases = rest.phases;
        }

-- the first moments
start_alike : (a b : ℕ) (g : ℕ → ℕ) (setup : Setup) → Alike (swap a b) g (at_start a setup) (at_start b setup)
start_alike a b g setup = record {
  committed = sym (start_swapped a b setup);
  entries = refl;
  phase = λ q. same_idle;
  slots = slots_at_start a setup;
}

all_free : (its : List Item) → AllByRecursion (λ it. ⊤) its
all_free [] = tt
all_free (it ∷ its) = (tt, all_free its)

pub histories_are_renamed : HistoriesAreRenamed
histories_are_renamed a b setup es after run =
    history_renamed (swap a b) (swap a b) (swap_renames a b) (λ it. ⊤) (λ it h. refl) (λ calls others. others ≡ map (renamed_executed (swap a b)) calls) (λ calls. refl)
    (at_start a setup) (at_start b setup) (start_alike a b (swap a b) setup) es after (all_free (serial a setup es)) run

-- to rename nothing
answer_unnamed : (answer : Answer) → renamed_answer (λ n. n) answer ≡ answer
answer_unnamed (Stated s) = refl
answer_unnamed _ = refl

result_unnamed : (answer : Result Answer Errno) → mapped_ok (renamed_answer (λ n. n)) answer ≡ answer
result_unnamed (Ok a) = ap Ok (answer_unnamed a)
result_unnamed (Err e) = refl

reply_unnamed : (reply : Reply) → renamed_reply (λ n. n) reply ≡ reply
reply_unnamed (Answers a) = ap Answers (answer_unnamed a)
reply_unnamed _ = refl

item_unnamed : (it : Item) → renamed_item (λ n. n) it ≡ it
item_unnamed it = λ i. record it { answer = result_unnamed it.answer i; chosen = map-id it.chosen i }

executed_unnamed : (e : Executed) → renamed_executed (λ n. n) e ≡ e
executed_unnamed e = λ i. record e { answer = result_unnamed e.answer i; chosen = map-id e.chosen i }

entry_unnamed : (e : Entry) → renamed_entry (λ n. n) e ≡ e
entry_unnamed e = λ i. record e { reply = reply_unnamed e.reply i; chosen = map-id e.chosen i }

unnamed : {A : Type 0} (h : A → A) → ((x : A) → h x ≡ x) → (xs : List A) → map h xs ≡ xs
unnamed h same xs = ap (λ h. map h xs) (λ i x. same x i) ∙ map-id xs

pub root_is_free_in_histories : RootIsFreeInHistories
root_is_free_in_histories a b setup es after untold unchosen run =
    let neither = run_has_neither a b setup (serial a setup es) after untold unchosen run in
    let whole = history_renamed (swap a b) (λ n. n) (swap_renames a b) (HasNeither a b) (λ it h. item_stays a b it h ∙ sym (item_unnamed it)) (λ calls others. others ≡ calls) (λ calls. unnamed (renamed_executed (λ n. n)) executed_unnamed calls)
    (at_start a setup) (at_start b setup) (start_alike a b (λ n. n) setup) es after neither run in
    subst (λ items. HistoryIsRenamed (swap a b) (λ calls others. others ≡ calls) (at_start a setup) (at_start b setup) es es items after) (unnamed (renamed_item (λ n. n)) item_unnamed (serial a setup es))
    (subst (λ others. HistoryIsRenamed (swap a b) (λ calls others. others ≡ calls) (at_start a setup) (at_start b setup) es others (map (renamed_item (λ n. n)) (serial a setup es)) after) (unnamed (renamed_entry (λ n. n)) entry_unnamed es) whole)
