-- The records lead to the committed state.
use Rattle.std.proofs.Common.{◌≡◌, ℕ, true, List, [], ◌∷◌, ◌++◌, Option, Some, None, Result, refl, sym, ap, subst, ◌∙◌, append_assoc, append-nil}
use Rattle.std.specs.List.{AllByRecursion}
use Rattle.std.proofs.lemmas.List.Elements.{filter-append}
use Rattle.std.proofs.lemmas.Grind.{flat_map-append}
use Rattle.model.specs.State.{Kernel}
use Rattle.model.specs.Plan.{Errno}
use Rattle.model.specs.Calls.{Call, Answer}
use Rattle.model.specs.Steps.{Item, Run}
use Rattle.model.specs.Entries.{Op, Do, Begin, End, Abort, Reply, Committed, Entry, Executed, answer_in, is_inside}
use Rattle.model.specs.Forgetting.{Limit}
use Rattle.model.specs.Moments.{Setup, Status, gone, idle, live, doomed, Moment, status, start, after, after_from, at_start, next, plain_calls, run_by, calls_of, calls_at, holds_place}
use Rattle.model.specs.Legal.{Legal, items, serial, serial_from}
use Rattle.history_laws.specs.Standing.{Standing}
use Rattle.history_laws.proofs.Laws.{after_one_more, beginnings_are_legal, phase_is, the_committed_state_is_serial, what_stands}
use Rattle.redo_records.specs.Changing.{changes, changing}
use Rattle.redo_records.specs.Records.{added, as_record, records_from, all_of}
use Rattle.redo_records.specs.Recovery.{RecordsLeadToTheState}
use Rattle.redo_records.proofs.Running.{list_kept, one_kept, run_append, run_split, same_end}

-- one entry more in the serial list
serial_more : (m : Moment) (es : List Entry) (e : Entry) → serial_from m (es ++ e ∷ []) ≡ serial_from m es ++ items e.pid (run_by (status (after_from m es) e.pid) e.op e.reply e.chosen)
serial_more m [] e = append-nil (items e.pid (run_by (status m e.pid) e.op e.reply e.chosen))
serial_more m (d ∷ es) e = ap (λ is. items d.pid (run_by (status m d.pid) d.op d.reply d.chosen) ++ is) (serial_more (next m d) es e) ∙ sym (append_assoc (items d.pid (run_by (status m d.pid) d.op d.reply d.chosen)) (serial_from (next m d) es) (items e.pid (run_by (status (after_from (next m d) es) e.pid) e.op e.reply e.chosen)))

-- the items of all records are those of the serial list that can have changed something
one_of : (xs : List Item) → all_of (as_record xs) ≡ xs
one_of [] = refl
one_of (x ∷ xs) = append-nil (x ∷ xs)

all_are : (m : Moment) (es : List Entry) → all_of (records_from m es) ≡ changing (serial_from m es)
all_are m [] = refl
all_are m (e ∷ es) =
    flat_map-append (λ (r : List Item). r) (as_record (added m e)) (records_from (next m e) es)
    ∙ ap (λ (xs : List Item). xs ++ all_of (records_from (next m e) es)) (one_of (added m e))
    ∙ ap (λ (xs : List Item). added m e ++ xs) (all_are (next m e) es)
    ∙ sym (filter-append (λ it. changes it.call it.answer) (items e.pid (run_by (status m e.pid) e.op e.reply e.chosen)) (serial_from (next m e) es))

module _ (m : Moment) (e : Entry) (l : Kernel) (limit : Limit) (stands : Standing limit m) where
  -- what an entry runs is run without what changes nothing
  Keeps : List Executed → Type 0
  Keeps cs = Run m.committed (items e.pid cs) l → Run m.committed (changing (items e.pid cs)) l

  plain_kept : (call : Call) (o : Option (Result Answer Errno)) → Keeps (plain_calls call o e.chosen)
  unfolding Keeps
  plain_kept call None r = r
  plain_kept call (Some answer) r = one_kept m.committed l (record { pid = e.pid; call = call; answer = answer; chosen = e.chosen }) stands.committed.tidied r

  live_kept : (s : Status) (calls : List Executed) → m.phase e.pid ≡ s → holds_place s ≡ true → calls_of s ≡ calls → Keeps calls
  unfolding Keeps
  live_kept s calls is holds are r =
      let own : calls_at m e.pid ≡ calls = ap calls_of is ∙ are in
      list_kept e.pid calls m.committed l (record {
        well = stands.committed.well;
        tidied = stands.committed.tidied;
        alive = stands.phases.alive e.pid (ap holds_place is ∙ holds);
      }) (subst (AllByRecursion (λ d. is_inside d.call ≡ true)) own (stands.lists e.pid).inside) r

  entry_kept_by : (s : Status) (op : Op) (reply : Reply) → status m e.pid ≡ s → Keeps (run_by s op reply e.chosen)
  unfolding Keeps
  entry_kept_by idle (Do call) reply is = plain_kept call (answer_in reply)
  entry_kept_by idle (Begin flags) reply is = λ r. r
  entry_kept_by idle End reply is = λ r. r
  entry_kept_by idle (Abort no_restart) reply is = λ r. r
  entry_kept_by gone op reply is = λ r. r
  entry_kept_by (doomed cause flags age) op reply is = λ r. r
  entry_kept_by (live flags age calls) (Do call) reply is = λ r. r
  entry_kept_by (live flags age calls) (Begin new) reply is = λ r. r
  entry_kept_by (live flags age calls) (Abort no_restart) reply is = λ r. r
  entry_kept_by (live flags age calls) End Committed is = live_kept (live flags age calls) calls (phase_is m e.pid (live flags age calls) is (λ h. absurd cc)) refl refl
  entry_kept_by (live flags age calls) End reply is = λ r. r

  pub entry_kept : Run m.committed (items e.pid (run_by (status m e.pid) e.op e.reply e.chosen)) l → Run m.committed (added m e) l
  unfolding Keeps
  entry_kept r = entry_kept_by (status m e.pid) e.op e.reply refl r

module _ (root : ℕ) (setup : Setup) (limit : Limit) where
  -- what an entry of a legal history runs on the committed state
  entry_runs : (before : List Entry) (e : Entry) → Legal root setup limit (before ++ e ∷ []) → Run (after root setup before).committed (added (after root setup before) e) (next (after root setup before) e).committed
  entry_runs before e legal =
      let m : Moment = after root setup before in
      let legal_before : Legal root setup limit before = beginnings_are_legal root setup limit before (before ++ e ∷ []) (e ∷ [], refl) legal in
      let own : List Item = items e.pid (run_by (status m e.pid) e.op e.reply e.chosen) in
      let first : Run (start root setup) (serial root setup before) m.committed = the_committed_state_is_serial root setup limit before legal_before in
      let whole : Run (start root setup) (serial root setup (before ++ e ∷ [])) (after root setup (before ++ e ∷ [])).committed = the_committed_state_is_serial root setup limit (before ++ e ∷ []) legal in
      let ends : Run (start root setup) (serial root setup (before ++ e ∷ [])) (next m e).committed = subst (λ (x : Moment). Run (start root setup) (serial root setup (before ++ e ∷ [])) x.committed) (after_one_more root setup before e) whole in
      let parted : Run (start root setup) (serial root setup before ++ own) (next m e).committed = subst (λ is. Run (start root setup) is (next m e).committed) (serial_more (at_start root setup) before e) ends in
      let parts = run_split (start root setup) (next m e).committed (serial root setup before) own parted in
      let met : parts.0 ≡ m.committed = same_end (start root setup) m.committed parts.0 (serial root setup before) first parts.1.0 in
      entry_kept m e (next m e).committed limit (what_stands root setup limit before legal_before)
      (subst (λ (k : Kernel). Run k own (next m e).committed) met parts.1.1)

  -- and all entries from one on
  run_from : (before later : List Entry) → Legal root setup limit (before ++ later) → Run (after root setup before).committed (changing (serial_from (after root setup before) later)) (after root setup (before ++ later)).committed
  run_from before [] legal = ap (λ es. (after root setup es).committed) (append-nil before)
  run_from before (e ∷ es) legal =
      let m : Moment = after root setup before in
      let whole : (before ++ e ∷ []) ++ es ≡ before ++ e ∷ es = append_assoc before (e ∷ []) es in
      let legal_here : Legal root setup limit ((before ++ e ∷ []) ++ es) = subst (Legal root setup limit) (sym whole) legal in
      let legal_one : Legal root setup limit (before ++ e ∷ []) = beginnings_are_legal root setup limit (before ++ e ∷ []) ((before ++ e ∷ []) ++ es) (es, refl) legal_here in
      let rest : Run (next m e).committed (changing (serial_from (next m e) es)) (after root setup (before ++ e ∷ es)).committed
      = subst (λ (x : Moment). Run x.committed (changing (serial_from x es)) (after root setup (before ++ e ∷ es)).committed) (after_one_more root setup before e)
      (subst (λ hs. Run (after root setup (before ++ e ∷ [])).committed (changing (serial_from (after root setup (before ++ e ∷ [])) es)) (after root setup hs).committed) whole (run_from (before ++ e ∷ []) es legal_here)) in
      subst (λ is. Run m.committed is (after root setup (before ++ e ∷ es)).committed)
      (sym (filter-append (λ it. changes it.call it.answer) (items e.pid (run_by (status m e.pid) e.op e.reply e.chosen)) (serial_from (next m e) es)))
      (run_append m.committed (next m e).committed _ (added m e) (changing (serial_from (next m e) es)) (entry_runs before e legal_one) rest)

pub records_lead_to_the_state : RecordsLeadToTheState
records_lead_to_the_state root setup limit es legal =
    subst (λ is. Run (start root setup) is (after root setup es).committed) (sym (all_are (at_start root setup) es)) (run_from root setup limit [] es legal)
