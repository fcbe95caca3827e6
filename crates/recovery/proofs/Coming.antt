-- Calls that are made again, one behind the other.
use Rattle.std.proofs.Common.{◌≡◌, ℕ, ◌+◌, ◌==◌, ◌<◌, ◌≤◌, length, get_or, take, Bool, true, false, not, List, [], ◌∷◌, ◌++◌, Result, Ok, Err, cond, refl, sym, ap, subst, ◌∙◌, append_assoc, append-nil, map}
use Rattle.std.specs.Prelude.{if◌then◌else◌, Decides, IfOk}
use Rattle.std.specs.List.{flat_map}
use Rattle.std.proofs.lemmas.Grind.{flat_map-append}
use Rattle.std.proofs.lemmas.List.{map-append, take_more, take_all}
use Rattle.history.specs.Log.{Log}
use Rattle.machine.specs.Shown.{Shown, Kept, limit_of, setup_of}
use Rattle.machine.specs.Steps.{entry_of, forgetting, Added, IsStep}
use Rattle.model.specs.State.{Kernel}
use Rattle.model.specs.Calls.{Call, Answer}
use Rattle.model.specs.Steps.{Item}
use Rattle.model.specs.Entries.{Op, Do, Cause, Reply, Answers, HistoryFull, Entry}
use Rattle.model.specs.Forgetting.{Limit}
use Rattle.model.specs.Moments.{Setup, Status, gone, idle, Moment, status, is_alive, is_in, after, own_next, run_by, doom, doom_cause, dooming_touches}
use Rattle.model.specs.Legal.{items, Legal}
use Rattle.model.specs.Suits.{suits}
use Rattle.history_laws.proofs.Laws.{after_one_more}
use Rattle.redo_records.specs.Changing.{only_looks, changing}
use Rattle.redo_records.specs.Kept.{items_in}
use Rattle.redo_records.specs.Records.{added, as_record, records, all_of}
use Rattle.redo_records.proofs.Laws.{legal_entries_suit, records_grow}
use Rattle.store_form.specs.Laws.{told_records}
use Rattle.store_form.specs.Stores.{Told, told_item, told_of, IsOfChange, RunsTo}
use Rattle.store_form.proofs.Laws.{records_run_to_the_state}
use Rattle.recovery.specs.Coming.{Answered, Comes, IsTold, Stays, Tells}

-- a process that was answered, and is in no transaction, is idle
idle_if : (b : Bool) (s : Status) (op : Op) (a : Answer) → s ≡ idle → suits (if b then s else gone) op (Answers a) ≡ true → (if b then s else gone) ≡ idle
idle_if true s op a h p = h
idle_if false s op a h p = absurd cc

-- an answered call leaves a process idle
abbrev moved : Bool → Bool → ℕ → Call → Answer → List ℕ → Cause → Status → Status
moved own dooms place call a chosen cause s =
    let kept = if own then own_next place s (Do call) (Answers a) chosen else s in
    if dooms then doom kept cause else kept

stays_idle : (own dooms : Bool) (place : ℕ) (call : Call) (a : Answer) (chosen : List ℕ) (cause : Cause) → moved own dooms place call a chosen cause idle ≡ idle
stays_idle true true place call a chosen cause = refl
stays_idle true false place call a chosen cause = refl
stays_idle false true place call a chosen cause = refl
stays_idle false false place call a chosen cause = refl

told_more : (rs : List (List Item)) (it : Item) → told_records (rs ++ (it ∷ []) ∷ []) ≡ told_records rs ++ told_item it ∷ []
told_more rs it =
    ap (λ (xs : List Item). map told_item xs) (flat_map-append (λ (r : List Item). r) rs ((it ∷ []) ∷ []))
    ∙ map-append told_item (all_of rs) (it ∷ [])

-- an entry of an answered call that can have changed something
module _ (setup : Setup) (limit : Limit) (es : List Entry) (pid : ℕ) (call : Call) (a : Answer) (chosen dooms : List ℕ) where
  abbrev e : Entry
  e = entry_of pid (Do call) (Answers a) chosen dooms

  abbrev m : Moment
  m = after 0 setup es

  abbrev it : Item
  it = record { pid = pid; call = call; answer = Ok a; chosen = chosen }

  is_idle : ((q : ℕ) → m.phase q ≡ idle) → Legal 0 setup limit (es ++ e ∷ []) → status m pid ≡ idle
  is_idle idles legal = idle_if (is_alive m.committed pid) (m.phase pid) (Do call) a (idles pid) (legal_entries_suit 0 setup limit es e legal)

  adds : only_looks call ≡ false → status m pid ≡ idle → added m e ≡ it ∷ []
  adds changed is =
      ap (λ (s : Status). changing (items pid (run_by s (Do call) (Answers a) chosen))) is
      ∙ ap (λ (b : Bool). cond (not b) (it ∷ []) []) changed

  told_then : only_looks call ≡ false → status m pid ≡ idle → told_records (records 0 setup (es ++ e ∷ [])) ≡ told_records (records 0 setup es) ++ told_item it ∷ []
  told_then changed is =
      ap told_records (records_grow 0 setup es e)
      ∙ ap (λ (xs : List Item). told_records (records 0 setup es ++ as_record xs)) (adds changed is)
      ∙ told_more (records 0 setup es) it

  idle_then : ((q : ℕ) → m.phase q ≡ idle) → (q : ℕ) → (after 0 setup (es ++ e ∷ [])).phase q ≡ idle
  idle_then idles q =
      let cause = doom_cause m pid (dooming_touches m pid (Do call)) q in
      ap (λ (x : Moment). x.phase q) (after_one_more 0 setup es e)
      ∙ ap (moved (q == pid) (is_in q dooms) (m.entries + 1) call a chosen cause) (idles q)
      ∙ stays_idle (q == pid) (is_in q dooms) (m.entries + 1) call a chosen cause

-- one call more
pub comes_more : (setup : Setup) (old new : Log) (told : List Told) (pid : ℕ) (call : Call) (a : Answer) (limit : Limit) → only_looks call ≡ false
    → Legal 0 (setup_of new) limit new.entries → Added old new pid (Do call) (Answers a) → Comes setup old told
    → Comes setup new (told ++ record { pid = pid; call = call; answer = Ok a } ∷ [])
comes_more setup old new told pid call a limit changed legal added comes =
    let es : List Entry = old.entries in
    let more : List Entry = es ++ entry_of pid (Do call) (Answers a) added.chosen added.doomed ∷ [] in
    let grown : new.entries ≡ more = ap (λ (log : Log). log.entries) added.is in
    let of_setup : setup_of new ≡ setup = ap setup_of added.is ∙ comes.of_setup in
    let right : Legal 0 setup limit more = subst (λ (s : Setup). Legal 0 s limit more) of_setup (subst (λ (fs : List Entry). Legal 0 (setup_of new) limit fs) grown legal) in
    let was_idle : status (after 0 setup es) pid ≡ idle = is_idle setup limit es pid call a added.chosen added.doomed comes.idles right in
    record {
      of_setup = of_setup;
      idles = λ q. ap (λ (fs : List Entry). (after 0 setup fs).phase q) grown ∙ idle_then setup limit es pid call a added.chosen added.doomed comes.idles q;
      tells = ap (λ (fs : List Entry). told_records (records 0 setup fs)) grown
          ∙ told_then setup limit es pid call a added.chosen added.doomed changed was_idle
          ∙ ap (λ (ts : List Told). ts ++ record { pid = pid; call = call; answer = Ok a } ∷ []) comes.tells;
    }

pub answered : (old new : Shown) (pid : ℕ) (call : Call) (reply : Reply) → only_looks call ≡ false → Kept new → IsStep old new pid (Do call) reply → Answered old.log new.log pid call reply
answered old new pid call reply changed kept step a is setup told comes =
    let said : IsStep old new pid (Do call) (Answers a) = subst (λ (r : Reply). IsStep old new pid (Do call) r) is step in
    comes_more setup old.log new.log told pid call a (limit_of new.log) changed kept.legal said.entry comes

pub is_told_by : (old new : Log) (pid : ℕ) (call : Call) (reply : Reply) (told : Answer) (same : Bool) → Answered old new pid call reply → same ≡ true → Decides same (reply ≡ Answers told) → IsTold old new pid call told
is_told_by old new pid call reply told same answered is decides = answered told (decides.0 is)

-- ---- what is forgotten

pub after_forgetting : (old mid : Shown) (forgot : Bool) → (forgot ≡ true → mid ≡ forgetting old) → (forgot ≡ false → mid ≡ old) → Stays old.log mid.log
after_forgetting old mid true forgets same setup told comes =
    subst (λ (v : Shown). Comes setup v.log told) (sym (forgets refl)) (record { of_setup = comes.of_setup; idles = comes.idles; tells = comes.tells })
after_forgetting old mid false forgets same setup told comes = subst (λ (v : Shown). Comes setup v.log told) (sym (same refl)) comes

-- nothing changes where the history is full
pub stays_full : (old new : Shown) (pid : ℕ) (op : Op) (reply : Reply) → IsStep old new pid op reply → reply ≡ HistoryFull → Stays old.log new.log
stays_full old new pid op reply step is setup told comes =
    let said : IsStep old new pid op HistoryFull = subst (λ (r : Reply). IsStep old new pid op r) is step in
    subst (λ (v : Shown). Comes setup v.log told) (sym said.entry) comes

-- calls behind which something is forgotten
pub tells_stays : (a b c : Log) (ts : List Told) → Tells a b ts → Stays b c → Tells a c ts
tells_stays a b c ts p q setup told comes = q setup (told ++ ts) (p setup told comes)

-- and then a call is answered
pub answered_later : {E : Type 0} (a b c : Log) (pid : ℕ) (call : Call) (made : Result Reply E) → Stays a b → IfOk made (λ reply. Answered b c pid call reply) → IfOk made (λ reply. Answered a c pid call reply)
answered_later a b c pid call (Ok reply) p q = λ answer is setup told comes. q answer is setup told (p setup told comes)
answered_later a b c pid call (Err error) p q = tt

-- ---- in a row

pub tells_none : (log : Log) → Tells log log []
tells_none log setup told comes = subst (Comes setup log) (sym (append-nil told)) comes

pub tells_both : (a b c : Log) (xs ys : List Told) → Tells a b xs → Tells b c ys → Tells a c (xs ++ ys)
tells_both a b c xs ys p q setup told comes = subst (Comes setup c) (append_assoc told xs ys) (q setup (told ++ xs) (p setup told comes))

pub told_of_both : (xs ys : List Entry) → told_of (xs ++ ys) ≡ told_of xs ++ told_of ys
told_of_both xs ys =
    ap (λ (its : List Item). map told_item its) (flat_map-append items_in xs ys) ∙ map-append told_item (flat_map items_in xs) (flat_map items_in ys)

-- what the entry of an answered call tells
module _ (entry : Entry) (call : Call) (a : Answer) (is_op : entry.op ≡ Do call) (is_reply : entry.reply ≡ Answers a) where
  abbrev item : Item
  item = record { pid = entry.pid; call = call; answer = Ok a; chosen = entry.chosen }

  is_item : items_in entry ≡ item ∷ []
  is_item =
      ap (λ (op : Op). items entry.pid (run_by idle op entry.reply entry.chosen)) is_op
      ∙ ap (λ (reply : Reply). items entry.pid (run_by idle (Do call) reply entry.chosen)) is_reply

  told_one : told_of (entry ∷ []) ≡ told_item item ∷ []
  told_one = ap (λ (its : List Item). map told_item (its ++ [])) is_item

  pub tells_one : (old new : Log) → IsTold old new entry.pid call a → Tells old new (told_of (entry ∷ []))
  tells_one old new p = subst (Tells old new) (sym told_one) p

  pub is_change : only_looks call ≡ false → IsOfChange entry
  is_change changed = (item, is_item, ap (λ (b : Bool). not b) changed)

-- ---- the entries of a loop

pub tells_upto : (a b c : Log) (es : List Entry) (i : ℕ) (entry : Entry) → i < length es → entry ≡ get_or es i entry → Tells a b (told_of (take i es)) → Tells b c (told_of (entry ∷ [])) → Tells a c (told_of (take (i + 1) es))
tells_upto a b c es i entry lt is p q =
    let grown : take (i + 1) es ≡ take i es ++ entry ∷ [] = take_more es i entry lt ∙ ap (λ (x : Entry). take i es ++ x ∷ []) (sym is) in
    subst (Tells a c) (sym (ap told_of grown ∙ told_of_both (take i es) (entry ∷ []))) (tells_both a b c (told_of (take i es)) (told_of (entry ∷ [])) p q)

pub tells_all : (a c : Log) (es : List Entry) (i : ℕ) → length es ≤ i → Tells a c (told_of (take i es)) → Tells a c (told_of es)
tells_all a c es i le p = subst (λ (xs : List Entry). Tells a c (told_of xs)) (take_all i es le) p

-- ---- what it runs to

pub runs_to : (setup : Setup) (v : Shown) (told : List Told) → Kept v → Comes setup v.log told → RunsTo setup told v.state
runs_to setup v told kept comes =
    let legal : Legal 0 setup (limit_of v.log) v.log.entries = subst (λ (s : Setup). Legal 0 s (limit_of v.log) v.log.entries) comes.of_setup kept.legal in
    let is_state : v.state ≡ (after 0 setup v.log.entries).committed = kept.state ∙ ap (λ (s : Setup). (after 0 s v.log.entries).committed) comes.of_setup in
    subst (λ (k : Kernel). RunsTo setup told k) (sym is_state)
    (subst (λ (ts : List Told). RunsTo setup ts (after 0 setup v.log.entries).committed) comes.tells (records_run_to_the_state setup (limit_of v.log) v.log.entries legal))

pub begins : (setup : Setup) (log : Log) (limit : ℕ)
    → log ≡ record { entries = []; priorities = setup.priorities; limit = limit; forgotten = []; bounds = setup.bounds } → Comes setup log []
begins setup log limit is =
    let fresh : Log = record { entries = []; priorities = setup.priorities; limit = limit; forgotten = []; bounds = setup.bounds } in
    let comes : Comes setup fresh [] = record { of_setup = refl; idles = λ q. refl; tells = refl } in
    subst (λ (l : Log). Comes setup l []) (sym is) comes

pub begins_if : {M E : Type 0} (shown : M → Shown) (setup : Setup) (limit : ℕ) (made : Result M E)
    → IfOk made (λ m. (shown m).log ≡ record { entries = []; priorities = setup.priorities; limit = limit; forgotten = []; bounds = setup.bounds })
    → IfOk made (λ m. Comes setup (shown m).log [])
begins_if shown setup limit (Ok m) is = begins setup (shown m).log limit is
begins_if shown setup limit (Err error) is = tt
