-- What dooming comes to for each process, what the slots show of the transactions, and which entries can be added.
use Rattle.kernel.proofs.Words.{◌≡◌, ◌≢◌, ℕ, suc, ◌+◌, ◌<◌, ◌≤◌, List, [], ◌∷◌, ◌++◌, length, refl, sym, ◌∙◌, ap, ap₂, subst, true, false, Bool, inl, inr}
use Rattle.kernel.proofs.Words.{arith, eqb, le-leb, MatchBool, if◌then◌else◌, cases_Bool, eqb-true, eqb-false, false≢true, length-append, Entry, Reply}
use Rattle.kernel.proofs.Words.{HistoryFull, NoMemory, Touch, Status, gone, doomed, Moment, is_alive, bound, reserved, holds_place, priority_of, calls_of}
use Rattle.kernel.proofs.Words.{list_touches, doom_cause, dooming_touches, is_in, next, Legal, Right, Effect, effects, PhasesMove, IsAsBefore, ProcessesMove}
use Rattle.kernel.proofs.Words.{SetsContender, contender_at, live_age, contender_of, moment, is_no_entry, Added, has_place, Fields, IsConsistent, Does, CanEnter, Unchanged}
use Rattle.kernel.proofs.Words.{part_at, shown, with_entry, Part, part_of, shown_by, changes_of, doomed_by, ◌==◌, None, map, true≢false, AllByRecursion}
use Rattle.kernel.proofs.Words.{BeginFlags, Cause, Contender, IsDoomedBy, Doomed, Dooms, IsIn, born, child_in, is_ended, Moves, cleared, Option, Some, Op, Do}
use Rattle.kernel.proofs.Words.{Answers, answer_in, idle, live, status, settled, own_next, run_by, after_list, has_free, Free, RightAt, Alone, needed}
use Rattle.kernel.proofs.Words.{CanEndTransaction, Stands, calling, plain, settled_as, calls_at, seen_by, tidy, all_done, view, is_live_status, is_live, zero}
use Rattle.kernel.proofs.Words.{subst₂, count_by, distinct, held_by, Process, or_new, is_some, get, unwrap_or, nobody, no_part, idle_slot, with_child, get_or, ◌⊎◌, take, count_below, add-one, nat_le, take-length}
use Rattle.commit.specs.Views.{SameViews, live_slot, doomed_slot, View, view_at, Shows, changes_in, is_live_slot, is_within, gone_slot, Shown as Transactions}
use Rattle.history_laws.proofs.Laws.{after_one_more, forks_and_exits_move, legal_push, legality_follows, lists_stay, phases_move, places_suffice}
use Rattle.history_laws.proofs.Laws.{right_entries_have_places, status_alive, what_stands, right_by, free_from, phase_is, alive_is, lists_are_their_effects}
use Rattle.history_laws.proofs.Laws.{views_may_be_loose, bounds_are_given}
use Rattle.call_laws.proofs.Laws.{the_bounds_stay}
use Rattle.model.specs.Limits.{largest_file, Bounds}
use Rattle.freeing_laws.specs.Sweep.{AllFit}
use Rattle.shadow.proofs.Laws.{calls_can_be_committed_lem}
use Rattle.history.specs.Log.{Log, all_forgotten, kept}
use Rattle.std.proofs.lemmas.List.Sums.{sum_by-append}
use Rattle.model.specs.Forgetting.{limit_at}
use Rattle.std.specs.Prelude.{sum, ◌-◌}
use Rattle.std.proofs.Common.{leb-true, leb-false}
use Rattle.std.proofs.lemmas.Bool.{lt-leb}
use Rattle.std.proofs.lemmas.List.{length-drop}
use Rattle.history_laws.proofs.Laws.{forgetting_is_legal}
use Rattle.kernel.proofs.Words.{limit_of, setup_of}
use Rattle.model.specs.Plan.{ENOTSUP}
use Rattle.model.specs.Calls.{Call}
use Rattle.model.specs.Entries.{Refuses}
use Rattle.model.specs.Legal.{unsupported}
use Rattle.kernel.proofs.Words.{Executed, Inside, is_inside}
use Rattle.commit.specs.Standings.{IsStandingOf}
use Rattle.commit.specs.declared.process_state.Standing.{Standing}
use Rattle.commit.specs.declared.process_state.Standing.TheVariants.{Gone, Idle, Live, Doomed as Is_doomed}
use Rattle.std.proofs.lemmas.List.Sums.{count_by_more_yes, count_by_more_no}

abbrev pub pids : List Doomed → List ℕ
pids ds = map (λ d. d.pid) ds

-- one that is not among them stays as it is
pub not_doomed : (ds : List Doomed) (q : ℕ) (p : Part) → is_in q (pids ds) ≡ false → doomed_by ds q p ≡ p
not_doomed [] q p h = refl
not_doomed (d ∷ ds) q p h = elim (cases_Bool (q == d.pid)) [
  | inl is ↦ absurd (true≢false (rw is at h))
  | inr is ↦ rw is (not_doomed ds q p (rw is at h))
]

-- the part of one that is doomed
abbrev pub gone_part : Cause → BeginFlags → ℕ → ℕ → Part
gone_part cause flags age priority = record { slot = doomed_slot cause flags age; held = record { priority = priority; age = None; touches = [] } }

stays_doomed : (ds : List Doomed) (q : ℕ) (cause : Cause) (flags : BeginFlags) (age priority : ℕ) → doomed_by ds q (gone_part cause flags age priority) ≡ gone_part cause flags age priority
stays_doomed [] q cause flags age priority = refl
stays_doomed (d ∷ ds) q cause flags age priority = elim (cases_Bool (q == d.pid)) [
  | inl is ↦ rw is (stays_doomed ds q cause flags age priority)
  | inr is ↦ rw is (stays_doomed ds q cause flags age priority)
]

-- a live one among them is doomed, with its cause
pub is_doomed : (m : Moment) (pid : ℕ) (ts : List Touch) (ds : List Doomed) (q : ℕ) (flags : BeginFlags) (age : ℕ) (changes : List Effect) (held : Contender)
    → is_in q (pids ds) ≡ true → AllByRecursion (IsDoomedBy m pid ts) ds
    → doomed_by ds q (record { slot = live_slot flags age changes; held = held }) ≡ gone_part (doom_cause m pid ts q) flags age held.priority
is_doomed m pid ts [] q flags age changes held h causes = absurd (false≢true h)
is_doomed m pid ts (d ∷ ds) q flags age changes held h causes = elim (cases_Bool (q == d.pid)) [
  | inl is ↦
      let same : q ≡ d.pid = eqb-true q d.pid is in
      rw is (stays_doomed ds q d.cause flags age held.priority
      ∙ ap (λ c. gone_part c flags age held.priority) (causes.0 ∙ ap (doom_cause m pid ts) (sym same)))
  | inr is ↦ rw is (is_doomed m pid ts ds q flags age changes held (rw is at h) causes.1)
]

pub still_in : (f g : Fields) {d : Doomed} (ds : List Doomed) → Dooms f g (d ∷ []) → AllByRecursion (λ d. IsIn f d.pid) ds → AllByRecursion (λ d. IsIn g d.pid) ds
still_in f g [] one all = tt
still_in f g (d ∷ ds) one all = (record { slot = rw one.slot_count all.0.slot; held = rw one.held_count all.0.held }, still_in f g ds one all.1)

-- one more, before the others
pub dooms_more : (f g h : Fields) (d : Doomed) (ds : List Doomed) → Dooms f g (d ∷ []) → Dooms g h ds → Dooms f h (d ∷ ds)
dooms_more f g h d ds one rest = record {
  log = rest.log ∙ one.log;
  state = rest.state ∙ one.state;
  slot_count = rest.slot_count ∙ one.slot_count;
  held_count = rest.held_count ∙ one.held_count;
  parts = λ q. rest.parts q ∙ ap (doomed_by ds q) (one.parts q);
}

-- the part of a child
abbrev pub born_part : ℕ → Part
born_part priority = record { slot = idle_slot; held = record nobody { priority = priority } }

pub no_priority : (o : Option Process) → is_some o ≡ false → (or_new o).priority ≡ 0
no_priority None h = refl
no_priority (Some process) h = absurd (false≢true (sym h))

is_or_not : (o : Option ℕ) (q : ℕ) → (o ≡ Some q) ⊎ (o ≢ Some q)
is_or_not None q = inr (λ h. absurd cc)
is_or_not (Some n) q = elim (cases_Bool (eqb n q)) [
  | inl same ↦ inl (ap Some (eqb-true n q same))
  | inr differs ↦ inr (λ h. eqb-false n q differs (ap (λ o. unwrap_or o n) h))
]

pub not_both : (o : Option ℕ) (n : ℕ) → o ≡ None → o ≡ Some n → ⊥
not_both o n none some = no (sym none ∙ some) where
  no : None ≡ Some n → ⊥
  no h = absurd cc

-- no fork and no exit
pub record IsSteady (e : Entry) : Type 0 where
  pub childless : child_in e.reply ≡ None
  pub unborn : born e.reply ≡ 0
  pub goes_on : is_ended e.op e.reply ≡ false

-- what is kept of a process, by all that it comes from
abbrev pub part_by : Bool → Status → List Effect → ℕ → List Touch → Part
part_by alive s ds p ts = record { slot = shown_by (if alive then s else gone) ds; held = record { priority = p; age = live_age s; touches = ts } }

pub parts_alike : (a b : Bool) (s t : Status) (ds es : List Effect) (p r : ℕ) (ts us : List Touch) → a ≡ b → s ≡ t → ds ≡ es → p ≡ r → ts ≡ us → part_by a s ds p ts ≡ part_by b t es r us
parts_alike a b s t ds es p r ts us alive phase changes priority touches = cc

-- a process that the entry neither makes nor ends
abbrev pub IsOther : Entry → ℕ → Type 0
IsOther e q = (child_in e.reply ≢ Some q) × ((is_ended e.op e.reply ≡ false) ⊎ (q ≢ e.pid))

pub other : (e : Entry) → IsSteady e → (q : ℕ) → IsOther e q
other e steady q = (λ some. absurd (cc steady.childless), inl steady.goes_on)

module _ (log : Log) (e : Entry) (legal : Legal 0 (setup_of log) (limit_of log) log.entries) (right : Right (limit_of log) (moment log) e) where
  abbrev m : Moment
  m = moment log

  pub processes : ProcessesMove m e
  processes = forks_and_exits_move 0 (setup_of log) (limit_of log) log.entries e legal right

  as_before : (q : ℕ) → IsOther e q → IsAsBefore m e q
  as_before q is = processes.others q is.0 is.1

  pub same_bound : born e.reply ≡ 0 → bound (next m e) ≡ bound m
  same_bound none = let made : (next m e).committed.made ≡ m.committed.made + 0 = processes.made ∙ ap (λ n. m.committed.made + n) none in ap suc (omega arith)

  pub moves : PhasesMove m e
  moves = phases_move (limit_of log) m e right

  -- one whose phase stays
  pub stays : (q : ℕ) → IsOther e q → (next m e).phase q ≡ m.phase q → part_of (next m e) q ≡ part_of m q
  stays q is phase =
      let list = lists_stay 0 (setup_of log) (limit_of log) log.entries e legal right q (ap calls_of phase) in
      parts_alike _ _ _ _ _ _ _ _ _ _ (as_before q is).alive phase list.effects (as_before q is).priority (ap distinct list.held)

  -- a living one, by its new phase
  pub comes_to : (q : ℕ) (s : Status) (ds : List Effect) (ts : List Touch) → IsOther e q → is_alive m.committed q ≡ true → (next m e).phase q ≡ s → changes_of (next m e) q ≡ ds → (contender_of (next m e) q).touches ≡ ts
      → part_of (next m e) q ≡ record { slot = shown_by s ds; held = record { priority = priority_of m q; age = live_age s; touches = ts } }
  comes_to q s ds ts is alive phase changes touches = parts_alike _ true _ _ _ _ _ _ _ _ ((as_before q is).alive ∙ alive) phase changes (as_before q is).priority touches

  -- one without calls, by its phase
  no_effects : (q : ℕ) (s : Status) → (next m e).phase q ≡ s → calls_of s ≡ [] → changes_of (next m e) q ≡ []
  no_effects q s phase none = ap (λ calls. effects q calls (next m e).committed) (ap calls_of phase ∙ none)

  no_touches : (q : ℕ) (s : Status) → (next m e).phase q ≡ s → calls_of s ≡ [] → distinct (held_by (next m e) q) ≡ []
  no_touches q s phase none = ap (λ calls. distinct (list_touches q calls (next m e).committed)) (ap calls_of phase ∙ none)

  -- a living one that has no calls then
  pub empties : (q : ℕ) (s : Status) → IsOther e q → is_alive m.committed q ≡ true → (next m e).phase q ≡ s → calls_of s ≡ []
      → part_of (next m e) q ≡ cleared (priority_of m q) s
  empties q s is alive phase none = comes_to q s [] [] is alive phase (no_effects q s phase none) (no_touches q s phase none)

  -- the child of an entry
  pub comes : (child : ℕ) → child_in e.reply ≡ Some child → part_of (next m e) child ≡ born_part (priority_of m e.pid)
  comes child is =
      let b = processes.born child is in
      parts_alike _ true _ idle _ [] _ _ _ [] b.alive b.phase (no_effects child idle b.phase refl) b.priority (no_touches child idle b.phase refl)

  -- one that has ended
  pub goes : is_ended e.op e.reply ≡ true → (next m e).phase e.pid ≡ idle → part_of (next m e) e.pid ≡ no_part
  goes is phase = parts_alike _ false _ idle _ [] _ 0 _ [] (processes.ended is) phase (no_effects e.pid idle phase refl)
      (no_priority (get (next m e).committed.processes e.pid) (processes.ended is)) (no_touches e.pid idle phase refl)

-- the entries, and with them the reserved places, are within the limit
pub entries_count : (log : Log) → (moment log).entries ≡ length log.entries
entries_count log = legality_follows.entries 0 (setup_of log) log.entries

pub places : (log : Log) → Legal 0 (setup_of log) (limit_of log) log.entries → (moment log).entries + reserved (moment log) ≤ limit_at (limit_of log) (moment log).entries
places log legal = (what_stands 0 (setup_of log) (limit_of log) log.entries legal).places

-- the entries are those that were forgotten and those that are kept
pub kept_count : (log : Log) → sum log.forgotten ≤ length log.entries → length (kept log) + sum log.forgotten ≡ length log.entries
kept_count log forgot = (let left : length (kept log) ≡ length log.entries - sum log.forgotten = length-drop (sum log.forgotten) log.entries in omega (arith, forgot))

-- where all that was ever forgotten is, the limit is that of those that are kept
limit_now : (log : Log) → sum log.forgotten ≤ length log.entries → limit_at (limit_of log) (length log.entries) ≡ log.limit + sum log.forgotten
limit_now log forgot = forgetting_is_legal.all (limit_of log) (length log.entries) forgot

is_answer : (r s : Reply) → is_no_entry r ≡ false → is_no_entry s ≡ true → r ≢ s
is_answer r s left right same = false≢true (sym left ∙ ap is_no_entry same ∙ right)

-- the fields with the child that an entry makes, if it makes one
pub record Grows (m : Moment) (e : Entry) (past grown : Fields) : Type 0 where
  pub log : grown.log ≡ past.log
  pub slot_count : length grown.slots ≡ bound (next m e)
  pub held_count : length grown.held ≡ bound (next m e)
  pub older : (q : ℕ) → child_in e.reply ≢ Some q → part_at grown q ≡ part_at past q
  pub born : (child : ℕ) → child_in e.reply ≡ Some child → part_at grown child ≡ born_part (priority_of m e.pid)

-- what an entry does, and whom it dooms, is done: it can be added
module _ (past grown now : Fields) (holds : IsConsistent past) (e : Entry) (right : Right (limit_of past.log) (moment past.log) e) (answers : is_no_entry e.reply ≡ false) (grows : Grows (moment past.log) e past grown)
    (ds : List Doomed) (dooms : pids ds ≡ e.doomed) (causes : AllByRecursion (IsDoomedBy (moment past.log) e.pid (dooming_touches (moment past.log) e.pid e.op)) ds)
    (moved : Moves grown now e.pid (part_of (next (moment past.log) e) e.pid) (next (moment past.log) e).committed ds) where
  abbrev was : Moment
  was = moment past.log

  others : (q : ℕ) → q ≢ e.pid → part_at now q ≡ part_of (next was e) q
  others q differs = elim (cases_Bool (is_in q e.doomed)) [
    | inl among ↦
        let d = (moves past.log e holds.legal right).dooms q among in
        let alive = (what_stands 0 (setup_of past.log) (limit_of past.log) past.log.entries holds.legal).phases.alive q (ap holds_place d.before) in
        let older : child_in e.reply ≢ Some q = λ some. false≢true (sym ((processes past.log e holds.legal right).born q some).unmade ∙ alive) in
        moved.others q differs
        ∙ ap (doomed_by ds q) (grows.older q older ∙ holds.parts q ∙ ap (λ s. record { slot = shown_by s (changes_of was q); held = contender_of was q }) (status_alive was q alive ∙ d.before))
        ∙ is_doomed was e.pid (dooming_touches was e.pid e.op) ds q d.flags d.age (changes_of was q) (contender_of was q) (ap (is_in q) dooms ∙ among) causes
        ∙ sym (empties past.log e holds.legal right q (doomed (doom_cause was e.pid (dooming_touches was e.pid e.op) q) d.flags d.age) (older, inr differs) alive d.later refl)
    | inr spared ↦ moved.others q differs ∙ not_doomed ds q _ (ap (is_in q) dooms ∙ spared) ∙ elim (is_or_not (child_in e.reply) q) [
      | inl child ↦ grows.born q child ∙ sym (comes past.log e holds.legal right q child)
      | inr older ↦ grows.older q older ∙ holds.parts q ∙ sym (stays past.log e holds.legal right q (older, inr differs) ((moves past.log e holds.legal right).others q differs spared))
    ]
  ]

  each : (q : ℕ) → part_at now q ≡ part_of (next was e) q
  each q = elim (cases_Bool (eqb q e.pid)) [
    | inl same ↦ subst (λ p. part_at now p ≡ part_of (next was e) p) (sym (eqb-true q e.pid same)) moved.own
    | inr differs ↦ others q (eqb-false q e.pid differs)
  ]

  pub enters_grown : CanEnter now e
  enters_grown =
      let is : moment (with_entry past.log e) ≡ next was e = after_one_more 0 (setup_of past.log) past.log.entries e in
      subst (λ l. CanEnter (record now { log = l }) e) (sym (moved.log ∙ grows.log)) (record {
        place = le-leb _ _ (right_entries_have_places (limit_of past.log) was e right (places past.log holds.legal));
        answers = answers;
        forgot = holds.forgot;
        holds = record {
          legal = legal_push 0 (setup_of past.log) (limit_of past.log) past.log.entries e holds.legal right;
          state = moved.state ∙ sym (ap (λ x. x.committed) is);
          slot_count = moved.slot_count ∙ grows.slot_count ∙ sym (ap bound is);
          held_count = moved.held_count ∙ grows.held_count ∙ sym (ap bound is);
          parts = λ q. each q ∙ sym (ap (λ x. part_of x q) is);
          few = holds.few;
          low = holds.low;
          forgot = (let more : length (past.log.entries ++ e ∷ []) ≡ length past.log.entries + 1 = length-append past.log.entries (e ∷ []) in omega (arith, holds.forgot));
        };
      })

-- an entry that makes no process
pub stay_as_many : (f : Fields) → IsConsistent f → (e : Entry) → Right (limit_of f.log) (moment f.log) e → child_in e.reply ≡ None → born e.reply ≡ 0 → Grows (moment f.log) e f f
stay_as_many f holds e right childless unborn =
    let same : bound (next (moment f.log) e) ≡ bound (moment f.log) = same_bound f.log e holds.legal right unborn in
    record {
      log = refl;
      slot_count = holds.slot_count ∙ sym same;
      held_count = holds.held_count ∙ sym same;
      older = λ q _. refl;
      born = λ child is. absurd (not_both (child_in e.reply) child childless is);
    }

-- the last of a list, and the others
at_last : {A : Type 0} (xs : List A) (y none : A) (q : ℕ) → q ≡ length xs → get_or (xs ++ y ∷ []) q none ≡ y
at_last [] y none zero is = refl
at_last [] y none (suc q) is = absurd (omega (arith, is))
at_last (x ∷ xs) y none zero is = absurd (omega (arith, is))
at_last (x ∷ xs) y none (suc q) is = at_last xs y none q (omega (arith, is))

at_other : {A : Type 0} (xs : List A) (y none : A) (q : ℕ) → q ≢ length xs → get_or (xs ++ y ∷ []) q none ≡ get_or xs q none
at_other [] y none zero differs = absurd (differs refl)
at_other [] y none (suc q) differs = refl
at_other (x ∷ xs) y none zero differs = refl
at_other (x ∷ xs) y none (suc q) differs = at_other xs y none q (λ is. differs (ap suc is))

pub child_is_last : (f : Fields) (priority q : ℕ) → q < length f.slots → q < length f.held → part_at (with_child priority f) q ≡ part_at f q
child_is_last f priority q slot held = ap₂ (λ v h. record { slot = v; held = h }) (at_other f.slots idle_slot gone_slot q (λ is. absurd (omega (arith, is, slot)))) (at_other f.held _ nobody q (λ is. absurd (omega (arith, is, held))))

-- an entry that makes a process
pub one_more : (f : Fields) → IsConsistent f → (e : Entry) → Right (limit_of f.log) (moment f.log) e → (child : ℕ) → child_in e.reply ≡ Some child → born e.reply ≡ 1
    → (priority : ℕ) → priority ≡ priority_of (moment f.log) e.pid → Grows (moment f.log) e f (with_child priority f)
one_more f holds e right child is one priority same =
    let move = processes f.log e holds.legal right in
    let made : (next (moment f.log) e).committed.made ≡ (moment f.log).committed.made + 1 = move.made ∙ ap (λ n. (moment f.log).committed.made + n) one in
    let slots : length (f.slots ++ idle_slot ∷ []) ≡ length f.slots + 1 = length-append f.slots (idle_slot ∷ []) in
    let held : length (with_child priority f).held ≡ length f.held + 1 = length-append f.held (record nobody { priority = priority } ∷ []) in
    let number : child ≡ suc (moment f.log).committed.made = (move.born child is).number in
    record {
      log = refl;
      slot_count = omega (arith, slots, made, holds.slot_count);
      held_count = omega (arith, held, made, holds.held_count);
      older = λ q differs.
          let far : q ≢ child = λ h. differs (is ∙ ap Some (sym h)) in
          ap₂ (λ v h. record { slot = v; held = h }) (at_other f.slots idle_slot gone_slot q (λ h. far (h ∙ holds.slot_count ∙ sym number))) (at_other f.held _ nobody q (λ h. far (h ∙ holds.held_count ∙ sym number)));
      born = λ q has.
          let here : q ≡ suc (moment f.log).committed.made = (move.born q has).number in
          ap₂ (λ v h. record { slot = v; held = h }) (at_last f.slots idle_slot gone_slot q (here ∙ sym holds.slot_count)) (at_last f.held _ nobody q (here ∙ sym holds.held_count))
          ∙ ap born_part same;
    }

pub enters : (past now : Fields) → (holds : IsConsistent past) → (e : Entry) (right : Right (limit_of past.log) (moment past.log) e) → is_no_entry e.reply ≡ false → IsSteady e
    → (ds : List Doomed) → pids ds ≡ e.doomed → AllByRecursion (IsDoomedBy (moment past.log) e.pid (dooming_touches (moment past.log) e.pid e.op)) ds
    → Moves past now e.pid (part_of (next (moment past.log) e) e.pid) (next (moment past.log) e).committed ds → CanEnter now e
enters past now holds e right answers steady = enters_grown past past now holds e right answers (stay_as_many past holds e right steady.childless steady.unborn)

-- a right entry has its place
pub room : (f : Fields) (e : Entry) → CanEnter f e → length (kept f.log) < f.log.limit
room f e can =
    let after : List Entry = f.log.entries ++ e ∷ [] in
    let placed = places_suffice 0 (setup_of f.log) (limit_of f.log) after can.holds.legal in
    let limit : limit_at (limit_of f.log) (length after) ≡ f.log.limit + sum f.log.forgotten = limit_now (with_entry f.log e) can.holds.forgot in
    let count = kept_count f.log can.forgot in
    let more : length (f.log.entries ++ e ∷ []) ≡ length f.log.entries + 1 = length-append f.log.entries (e ∷ []) in
    omega (arith, placed, limit, count)

-- the fields stay consistent where the entries that are kept are forgotten
pub forgets : (f : Fields) → IsConsistent f → IsConsistent (record f { log = all_forgotten f.log })
forgets f holds =
    let count = kept_count f.log holds.forgot in
    let more : sum (f.log.forgotten ++ length (kept f.log) ∷ []) ≡ sum f.log.forgotten + sum (length (kept f.log) ∷ []) = sum_by-append (λ n. n) f.log.forgotten (length (kept f.log) ∷ []) in
    record {
      legal = forgetting_is_legal.legal 0 (setup_of f.log) (limit_of f.log) f.log.entries (length (kept f.log)) (omega (arith, count)) holds.legal;
      state = holds.state;
      slot_count = holds.slot_count;
      held_count = holds.held_count;
      parts = holds.parts;
      few = holds.few;
      low = holds.low;
      forgot = omega (arith, count, more);
    }

pub forgets_or_not : (f : Fields) → IsConsistent f → (new : Log) (b : Bool) → (b ≡ true → new ≡ all_forgotten f.log) → (b ≡ false → new ≡ f.log) → IsConsistent (record f { log = new })
forgets_or_not f holds new true done not_done = subst (λ l. IsConsistent (record f { log = l })) (sym (done refl)) (forgets f holds)
forgets_or_not f holds new false done not_done = subst (λ l. IsConsistent (record f { log = l })) (sym (not_done refl)) holds

pub entered : (f : Fields) (e : Entry) → CanEnter f e → (new : Log) → new ≡ with_entry f.log e → (old : Fields) → old.log ≡ f.log → Does old (record f { log = new }) e.pid e.op e.reply
entered f e can new is old same = record {
  holds = subst (λ l. IsConsistent (record f { log = l })) (sym is) can.holds;
  step = record {
    entry = subst (λ b. MatchBool b (shown (record f { log = new }) ≡ shown old) (Added old.log new e.pid e.op e.reply)) (sym can.answers)
        (record { chosen = e.chosen; doomed = e.doomed; is = is ∙ ap (λ l. with_entry l e) (sym same) });
    full = (λ h. absurd (is_answer e.reply HistoryFull can.answers refl h), λ h. absurd (false≢true (sym h ∙ subst (λ l. has_place l e.pid e.op ≡ true) (sym same) can.place)));
    memory = λ none. is_answer e.reply NoMemory can.answers refl;
  };
}

-- nothing has changed
pub unchanged : (f : Fields) (pid : ℕ) (held : List Contender) (new : Transactions) → IsConsistent f → new.stable.state ≡ f.stable.state → SameViews f.slots new.slots
    → SetsContender f.held held pid (contender_at f.held pid) → Unchanged f (record f { held = held; transactions = new })
unchanged f pid held new holds state views kept = record {
  holds = record {
    legal = holds.legal;
    state = state ∙ holds.state;
    slot_count = views.count ∙ holds.slot_count;
    held_count = kept.count ∙ holds.held_count;
    parts = λ q. ap₂ (λ v h. record { slot = v; held = h }) (views.each q) (held_same q) ∙ holds.parts q;
    few = holds.few;
    low = holds.low;
    forgot = holds.forgot;
  };
  same = ap (λ k. record { log = f.log; state = k }) state;
} where
  held_same : (q : ℕ) → contender_at held q ≡ contender_at f.held q
  held_same q = elim (cases_Bool (eqb q pid)) [
    | inl same ↦ subst (λ p. contender_at held p ≡ contender_at f.held p) (sym (eqb-true q pid same)) kept.own
    | inr differs ↦ kept.others q (eqb-false q pid differs)
  ]

pub unchanged_lists : (f : Fields) (held : List Contender) (new : Transactions) → IsConsistent f → new.stable.state ≡ f.stable.state → new.slots ≡ f.slots → held ≡ f.held → Unchanged f (record f { held = held; transactions = new })
unchanged_lists f held new holds state slots same = unchanged f 0 held new holds state (record { count = ap length slots; each = λ q. ap (λ l. view_at l q) slots })
    (record { count = ap length same; own = ap (λ l. contender_at l 0) same; others = λ q differs. ap (λ l. contender_at l q) same })

-- a slot by its process's phase: one that is no process is idle by its phase
changes_shown : (alive : Bool) (s : Status) (ds : List Effect) → (alive ≡ false → s ≡ idle) → (calls_of s ≡ [] → ds ≡ []) → changes_in (shown_by (if alive then s else gone) ds) ≡ ds
changes_shown true (live flags age calls) ds dead none = refl
changes_shown true s ds dead none = sym (none refl)
changes_shown false s ds dead none = sym (none (ap calls_of (dead refl)))

live_shown : (alive : Bool) (s : Status) (ds : List Effect) → (alive ≡ false → s ≡ idle) → is_live_slot (shown_by (if alive then s else gone) ds) ≡ is_live_status s
live_shown true (live flags age calls) ds dead = refl
live_shown true s ds dead = refl
live_shown false s ds dead = sym (ap is_live_status (dead refl))

within_shown : (alive : Bool) (s : Status) (ds : List Effect) → (alive ≡ false → s ≡ idle) → is_within (shown_by (if alive then s else gone) ds) ≡ holds_place s
within_shown true (live flags age calls) ds dead = refl
within_shown true s ds dead = refl
within_shown false s ds dead = sym (ap holds_place (dead refl))

module _ (f : Fields) (holds : IsConsistent f) (q : ℕ) where
  dead_is_idle : is_alive (moment f.log).committed q ≡ false → (moment f.log).phase q ≡ idle
  dead_is_idle = (what_stands 0 (setup_of f.log) (limit_of f.log) f.log.entries holds.legal).phases.processes q

  -- a slot has the changes of its process's live list
  pub slot_changes : changes_in (view_at f.slots q) ≡ changes_of (moment f.log) q
  slot_changes = ap (λ p. changes_in p.slot) (holds.parts q)
      ∙ changes_shown (is_alive (moment f.log).committed q) ((moment f.log).phase q) (changes_of (moment f.log) q) dead_is_idle (λ none. ap (λ calls. effects q calls (moment f.log).committed) none)

  -- each change fits the state that it finds
  pub slot_fits : AllFit (changes_in (view_at f.slots q)) f.stable.state
  slot_fits =
      let m = moment f.log in
      let lists = (what_stands 0 (setup_of f.log) (limit_of f.log) f.log.entries holds.legal).lists q in
      subst (AllFit (changes_in (view_at f.slots q))) (sym holds.state)
      (subst (λ ds. AllFit ds m.committed) (sym slot_changes) (calls_can_be_committed_lem m.committed q (calls_at m q) lists.goes))

  -- with its changes on top of the committed state a process sees what the history says, not tidied
  pub slot_views : all_done (changes_in (view_at f.slots q)) f.stable.state ≡ view (moment f.log) q
  slot_views = ap (λ ds. all_done ds f.stable.state) slot_changes ∙ ap (all_done (changes_of (moment f.log) q)) holds.state ∙ sym (lists_are_their_effects q (calls_at (moment f.log) q) (moment f.log).committed)

  -- and tidied
  pub slot_sees : tidy (all_done (changes_in (view_at f.slots q)) f.stable.state) ≡ seen_by (moment f.log) q
  slot_sees = ap tidy slot_views ∙ sym (views_may_be_loose 0 (setup_of f.log) (limit_of f.log) f.log.entries holds.legal q).seen

  -- in what it sees, tidied or not, a file may have as many bytes as the log says
  pub seen_low : (seen_by (moment f.log) q).bounds.file_bytes ≤ largest_file
  seen_low = subst (λ (b : Bounds). b.file_bytes ≤ largest_file) (sym ((bounds_are_given 0 (setup_of f.log) f.log.entries).seen q)) holds.low

  pub slot_low : (all_done (changes_in (view_at f.slots q)) f.stable.state).bounds.file_bytes ≤ largest_file
  slot_low = subst (λ (b : Bounds). b.file_bytes ≤ largest_file) (sym (ap (λ k. k.bounds) slot_sees) ∙ the_bounds_stay.tidied (all_done (changes_in (view_at f.slots q)) f.stable.state)) seen_low

  pub slot_lives : is_live_slot (view_at f.slots q) ≡ is_live (moment f.log) q
  slot_lives = ap (λ p. is_live_slot p.slot) (holds.parts q) ∙ live_shown (is_alive (moment f.log).committed q) ((moment f.log).phase q) (changes_of (moment f.log) q) dead_is_idle

  slot_holds : is_within (view_at f.slots q) ≡ holds_place ((moment f.log).phase q)
  slot_holds = ap (λ p. is_within p.slot) (holds.parts q) ∙ within_shown (is_alive (moment f.log).committed q) ((moment f.log).phase q) (changes_of (moment f.log) q) dead_is_idle

count_slots : (test : ℕ → Bool) (slots : List View) → ((q : ℕ) → is_within (view_at slots q) ≡ test q) → (n : ℕ) → n ≤ length slots → count_below test n ≡ count_by is_within (take n slots)
count_slots test slots same zero h = refl
count_slots test slots same (suc n) h =
    let rest : count_below test n ≡ count_by is_within (take n slots) = count_slots test slots same n (omega arith) in
    elim (cases_Bool (test n)) [
      | inl is ↦ let more = rw (add-one n) at (count_by_more_yes is_within slots n gone_slot h (same n ∙ is)) in rw is (omega arith)
      | inr differs ↦ let more = rw (add-one n) at (count_by_more_no is_within slots n gone_slot h (same n ∙ differs)) in rw differs (omega arith)
    ]

-- the places that the slots hold are those that the history reserves
reserved_slots : (f : Fields) → IsConsistent f → reserved (moment f.log) ≡ count_by is_within f.slots
reserved_slots f holds = count_slots (λ q. holds_place ((moment f.log).phase q)) f.slots (slot_holds f holds) (bound (moment f.log)) (omega (arith, holds.slot_count))
    ∙ ap (λ n. count_by is_within (take n f.slots)) (sym holds.slot_count) ∙ ap (count_by is_within) (take-length f.slots)

pub used_places : (f : Fields) → IsConsistent f → length (kept f.log) + count_by is_within f.slots ≤ f.log.limit
used_places f holds =
    let all : length f.log.entries + count_by is_within f.slots ≤ limit_at (limit_of f.log) (length f.log.entries) =
    subst₂ (λ a b. a + b ≤ limit_at (limit_of f.log) a) (entries_count f.log) (reserved_slots f holds) (places f.log holds.legal) in
    let limit = limit_now f.log holds.forgot in
    let count = kept_count f.log holds.forgot in
    omega (arith, all, limit, count)

-- a comparison is the same where both sides have as much more
le_shift : (a b more : ℕ) → nat_le (a + more) (b + more) ≡ nat_le a b
le_shift a b more = elim (cases_Bool (nat_le a b)) [
  | inl is ↦ (let low : a ≤ b = leb-true a b is in le-leb (a + more) (b + more) (omega arith) ∙ sym is)
  | inr not ↦ (let high : b < a = leb-false a b not in lt-leb (a + more) (b + more) (omega arith) ∙ sym not)
]

pub free_places : (f : Fields) (n : ℕ) → IsConsistent f → has_free (limit_of f.log) (moment f.log) n ≡ nat_le (length (kept f.log) + count_by is_within f.slots + n) f.log.limit
free_places f n holds =
    let held : ℕ = count_by is_within f.slots in
    let gone : ℕ = sum f.log.forgotten in
    let limit = limit_now f.log holds.forgot in
    let count = kept_count f.log holds.forgot in
    let left : length f.log.entries + held + n ≡ (length (kept f.log) + held + n) + gone = omega (arith, count) in
    ap₂ (λ a b. nat_le (a + b + n) (limit_at (limit_of f.log) a)) (entries_count f.log) (reserved_slots f holds)
    ∙ ap₂ nat_le left limit
    ∙ le_shift (length (kept f.log) + held + n) f.log.limit gone

stands_by : (standing : Standing) (s : Status) (changes : List Effect) → IsStandingOf standing (shown_by s changes) → Stands standing s
stands_by Gone gone changes h = refl
stands_by Idle idle changes h = refl
stands_by (Live flags age) (live f a calls) changes h = (calls, cc)
stands_by (Is_doomed flags age) (doomed cause f a) changes h = (cause, cc)
stands_by standing s changes h = absurd cc

-- what a process is by its slot
pub stands : (f : Fields) → IsConsistent f → (pid : ℕ) (standing : Standing) → IsStandingOf standing (view_at f.slots pid) → Stands standing (status (moment f.log) pid)
stands f holds pid standing h = stands_by standing _ (changes_of (moment f.log) pid) (subst (IsStandingOf standing) (ap (λ p. p.slot) (holds.parts pid)) h)

-- a process that calls lives
pub caller_lives : (m : Moment) (pid : ℕ) (within : Option (BeginFlags × ℕ)) → Stands (calling within) (status m pid) → is_alive m.committed pid ≡ true
caller_lives m pid None is = alive_is m pid idle is (λ h. absurd cc)
caller_lives m pid (Some within) is = alive_is m pid (live within.0 within.1 is.0) is.1 (λ h. absurd cc)

-- the places that an operation found
pub free_at : (f : Fields) (pid : ℕ) (op : Op) (s : Status) → status (moment f.log) pid ≡ s → has_place f.log pid op ≡ true → Free (limit_of f.log) (moment f.log) (needed s op)
free_at f pid op s is place = free_from (limit_of f.log) (moment f.log) (needed s op) (subst (λ x. has_free (limit_of f.log) (moment f.log) (needed x op) ≡ true) is place)

pub calm : (pid : ℕ) (op : Op) (reply : Reply) → answer_in reply ≡ None → IsSteady (plain pid op reply)
calm pid op (Answers a) h = absurd cc
calm pid (Do call) reply h = record { childless = refl; unborn = refl; goes_on = refl }
calm pid op reply h = record { childless = refl; unborn = refl; goes_on = refl }

no_calls : (again : Bool) (flags : BeginFlags) (age : ℕ) → Rattle.model.specs.Moments.calls_of (settled_as again flags age) ≡ []
no_calls true flags age = refl
no_calls false flags age = refl

pub settles : (s : Status) (flags : BeginFlags) (age : ℕ) (again : Bool) → settled s true ≡ live flags age [] → settled s false ≡ idle → settled s again ≡ settled_as again flags age
settles s flags age true anew ends = anew
settles s flags age false anew ends = ends

pub none_else : (pid : ℕ) (op : Op) (reply : Reply) → Alone (plain pid op reply)
none_else pid op reply = record { chosen = refl; doomed = refl }

-- a call that transactions do not support, of a live one
pub denied : (f : Fields) (pid : ℕ) (call : Call) (reply : Reply) (s : Status) (flags : BeginFlags) → status (moment f.log) pid ≡ s → has_place f.log pid (Do call) ≡ true → is_inside call ≡ false
    → reply ≡ unsupported flags → (age : ℕ) (calls : List Executed) → s ≡ live flags age calls → RightAt (limit_of f.log) (moment f.log) (plain pid (Do call) reply) s (Do call)
denied f pid call reply s flags is place outside says age calls lives =
    let free = subst (λ x. Free (limit_of f.log) (moment f.log) (needed x (Do call))) lives (free_at f pid (Do call) s is place) in
    subst (λ x. RightAt (limit_of f.log) (moment f.log) (plain pid (Do call) reply) x (Do call)) (sym lives)
    (subst (λ b. Inside (limit_of f.log) (moment f.log) (plain pid (Do call) reply) (live flags age calls) flags call b) (sym outside) (says, none_else pid (Do call) reply, free))

-- it is not executed
pub not_executed : (call : Call) (n : ℕ) (s : Status) → own_next n s (Do call) (Refuses ENOTSUP) [] ≡ s
not_executed call n (live flags age calls) = refl
not_executed call n gone = refl
not_executed call n idle = refl
not_executed call n (doomed cause flags age) = refl

-- an entry that dooms nobody, of a process with this status
module _ (f : Fields) (holds : IsConsistent f) (pid : ℕ) (op : Op) (reply : Reply) (s : Status) (is : status (moment f.log) pid ≡ s)
    (right : RightAt (limit_of f.log) (moment f.log) (plain pid op reply) s op) (answers : is_no_entry reply ≡ false) (none : answer_in reply ≡ None) where
  abbrev found : Moment
  found = moment f.log

  abbrev e : Entry
  e = plain pid op reply

  steady : IsSteady e
  steady = calm pid op reply none

  pub is_right : Right (limit_of f.log) found e
  is_right = right_by (limit_of f.log) found e s op is refl right

  pub commits_nothing : run_by s op reply [] ≡ [] → f.stable.state ≡ (next found e).committed
  commits_nothing runs = holds.state ∙ sym (ap (λ calls. after_list pid calls found.committed) (ap (λ x. run_by x op reply []) is ∙ runs))

  -- one that leaves its process as it was
  pub leaves : run_by s op reply [] ≡ [] → ((n : ℕ) (t : Status) → own_next n t op reply [] ≡ t) → CanEnter f e
  leaves runs same = enters f f holds e is_right answers steady [] refl tt (record {
    log = refl;
    state = commits_nothing runs;
    slot_count = refl;
    held_count = refl;
    own = holds.parts pid ∙ sym (stays f.log e holds.legal is_right pid (other e steady pid) ((moves f.log e holds.legal is_right).own ∙ same _ _));
    others = λ q differs. refl;
  })

  -- one after which its process's transaction has begun, or begun anew, or is gone. Its slot may have been taken already, and its changes committed.
  pub closes : (new : Transactions) (v : View) (again : Bool) (flags : BeginFlags) (age : ℕ) → s ≢ gone → own_next (found.entries + 1) s op reply [] ≡ settled_as again flags age
      → Shows f.slots new.slots pid v → new.stable.state ≡ (next found e).committed → CanEndTransaction (record f { transactions = new }) pid op reply again flags age
  closes new v again flags age here own shows state =
      let alive = alive_is found pid s is here in
      let low = (what_stands 0 (setup_of f.log) (limit_of f.log) f.log.entries holds.legal).committed.well.counted pid alive in
      let phase = (phases_move (limit_of f.log) found e is_right).own ∙ ap (λ x. own_next (found.entries + 1) x op reply []) (phase_is found pid s is here) ∙ own in
      record {
        is_in = record { slot = omega (arith, low, shows.count, holds.slot_count); held = omega (arith, low, holds.held_count) };
        enters = λ g after. enters f g holds e is_right answers steady [] refl tt (record {
          log = after.log;
          state = after.state ∙ state;
          slot_count = after.slot_count ∙ shows.count;
          held_count = after.held_count;
          own = after.own ∙ ap (λ p. cleared p.held.priority (settled_as again flags age)) (holds.parts pid)
              ∙ sym (empties f.log e holds.legal is_right pid (settled_as again flags age) (other e steady pid) alive phase (no_calls again flags age));
          others = λ q differs. after.others q differs ∙ ap (λ v. record { slot = v; held = contender_at f.held q }) (shows.others q differs);
        });
      }

  pub ends : (again : Bool) (flags : BeginFlags) (age : ℕ) → s ≢ gone → run_by s op reply [] ≡ [] → own_next (found.entries + 1) s op reply [] ≡ settled_as again flags age → CanEndTransaction f pid op reply again flags age
  ends again flags age here runs own = closes f.transactions _ again flags age here own (record { count = refl; own = refl; others = λ q differs. refl }) (commits_nothing runs)
