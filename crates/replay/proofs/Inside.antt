-- The calls of a live list may be made inside a transaction, so that its process lives through them.
use Rattle.std.proofs.Common.{◌≡◌, ℕ, ◌+◌, Bool, true, false, not, ◌&&◌, ◌==◌, List, [], ◌∷◌, Some, None, Result, Ok, Err, inr, refl, sym, ap, subst, ◌∙◌, eqb-true}
use Rattle.std.specs.Prelude.{if◌then◌else◌}
use Rattle.std.specs.List.{AllByRecursion}
use Rattle.ids.specs.Flags.{is_aborting_unsupported}
use Rattle.model.specs.State.{Kernel}
use Rattle.model.specs.Plan.{Errno}
use Rattle.model.specs.Changes.{tidy}
use Rattle.model.specs.Calls.{Call, Answer}
use Rattle.model.specs.Steps.{Run}
use Rattle.model.specs.Entries.{BeginFlags, Op, Do, Begin, End, Abort, Cause, Reply, Answers, Refuses, Begun, Committed, GivenUp, Aborted, Busy, InTransaction, NotInTransaction, HistoryFull, NoMemory, NoProcess, Entry, Executed, answer_in, is_inside, is_unsupported}
use Rattle.model.specs.Moments.{Status, gone, idle, live, doomed, Moment, is_alive, status, calls_of, settled, with_call, begun, own_next, doom, doom_cause, dooming_touches, is_in, next_phase, next, after_from}
use Rattle.model.specs.Legal.{items}
use Rattle.model.proofs.Laws.{append-all}
use Rattle.call_laws.specs.WellFormed.{WellFormed}
use Rattle.call_laws.specs.CallLaws.{IsReady, changed}
use Rattle.call_laws.proofs.Laws.{calls_are_lawful_lem}
use Rattle.model.specs.Suits.{AllSuit, suits, is_refused_inside}

pub record IsInside (c : Executed) : Type 0 where
  pub is : is_inside c.call ≡ true

abbrev pub AreInside : List Executed → Type 0
AreInside cs = AllByRecursion IsInside cs

second_of_both : (a b : Bool) → (a && b) ≡ true → b ≡ true
second_of_both true b h = h
second_of_both false b h = absurd cc

-- a call that is executed in a transaction may be made there
answered_inside : (b c : Bool) → (if b then c else false) ≡ true → b ≡ true
answered_inside true c h = refl
answered_inside false c h = absurd cc

refused_inside : (b c : Bool) (flags : BeginFlags) (e : Errno) → is_unsupported e ≡ false → (if b then c else is_refused_inside flags (Refuses e)) ≡ true → b ≡ true
refused_inside true c flags e no_fault h = refl
refused_inside false c flags e no_fault h = absurd (let f : is_unsupported e ≡ true = second_of_both (not (is_aborting_unsupported flags)) (is_unsupported e) h in let g : true ≡ false = sym f ∙ no_fault in cc)

one_more_inside : (flags : BeginFlags) (age : ℕ) (calls : List Executed) (call : Call) (answer : Result Answer Errno) (chosen : List ℕ) → is_inside call ≡ true → AreInside calls → AreInside (calls_of (with_call (live flags age calls) (Do call) (Some answer) chosen))
one_more_inside flags age calls call answer chosen inside h = append-all IsInside calls _ h (record { is = inside }, tt)

refusal_inside : (flags : BeginFlags) (age : ℕ) (calls : List Executed) (call : Call) (e : Errno) (chosen : List ℕ) (b : Bool) → is_unsupported e ≡ b → suits (live flags age calls) (Do call) (Refuses e) ≡ true → AreInside calls
    → AreInside (calls_of (with_call (live flags age calls) (Do call) (if b then None else Some (Err e)) chosen))
refusal_inside flags age calls call e chosen true is h inside = inside
refusal_inside flags age calls call e chosen false is h inside = one_more_inside flags age calls call (Err e) chosen (refused_inside (is_inside call) _ flags e is h) inside

settled_inside : (s : Status) (again : Bool) → AreInside (calls_of (settled s again))
settled_inside gone again = tt
settled_inside idle again = tt
settled_inside (live flags age calls) true = tt
settled_inside (live flags age calls) false = tt
settled_inside (doomed cause flags age) true = tt
settled_inside (doomed cause flags age) false = tt

begun_inside : (s : Status) (op : Op) (position : ℕ) → AreInside (calls_of s) → AreInside (calls_of (begun s op position))
begun_inside idle (Begin flags) position h = tt
begun_inside idle (Do call) position h = tt
begun_inside idle End position h = tt
begun_inside idle (Abort no_restart) position h = tt
begun_inside gone op position h = tt
begun_inside (live flags age calls) op position h = h
begun_inside (doomed cause flags age) op position h = tt

-- what is executed in a live transaction
executed_inside : (s : Status) (op : Op) (a : Answer) (chosen : List ℕ) → suits s op (Answers a) ≡ true → AreInside (calls_of s) → AreInside (calls_of (with_call s op (Some (Ok a)) chosen))
executed_inside (live flags age calls) (Do call) a chosen h inside = one_more_inside flags age calls call (Ok a) chosen (answered_inside (is_inside call) true h) inside
executed_inside (live flags age calls) (Begin new) a chosen h inside = inside
executed_inside (live flags age calls) End a chosen h inside = inside
executed_inside (live flags age calls) (Abort no_restart) a chosen h inside = inside
executed_inside gone op a chosen h inside = tt
executed_inside idle op a chosen h inside = tt
executed_inside (doomed cause flags age) op a chosen h inside = tt

refusals_inside : (s : Status) (op : Op) (e : Errno) (chosen : List ℕ) → suits s op (Refuses e) ≡ true → AreInside (calls_of s) → AreInside (calls_of (with_call s op (answer_in (Refuses e)) chosen))
refusals_inside (live flags age calls) (Do call) e chosen h inside = refusal_inside flags age calls call e chosen (is_unsupported e) refl h inside
refusals_inside (live flags age calls) (Begin new) e chosen h inside = inside
refusals_inside (live flags age calls) End e chosen h inside = inside
refusals_inside (live flags age calls) (Abort no_restart) e chosen h inside = inside
refusals_inside gone op e chosen h inside = tt
refusals_inside idle op e chosen h inside = tt
refusals_inside (doomed cause flags age) op e chosen h inside = tt

own_inside : (position : ℕ) (s : Status) (op : Op) (reply : Reply) (chosen : List ℕ) → suits s op reply ≡ true → AreInside (calls_of s) → AreInside (calls_of (own_next position s op reply chosen))
own_inside position s op (Answers a) chosen h inside = executed_inside s op a chosen h inside
own_inside position s op (Refuses e) chosen h inside = refusals_inside s op e chosen h inside
own_inside position s op Begun chosen h inside = begun_inside s op position inside
own_inside position s op Committed chosen h inside = tt
own_inside position s op (GivenUp again) chosen h inside = settled_inside s again
own_inside position s op (Aborted why again) chosen h inside = settled_inside s again
own_inside position s op (Busy cause) chosen h inside = inside
own_inside position s op InTransaction chosen h inside = inside
own_inside position s op NotInTransaction chosen h inside = inside
own_inside position s op HistoryFull chosen h inside = inside
own_inside position s op NoMemory chosen h inside = inside
own_inside position s op NoProcess chosen h inside = inside

-- a process that does not live stays as it is
dead_inside : (position : ℕ) (s : Status) (op : Op) (reply : Reply) (chosen : List ℕ) → suits gone op reply ≡ true → AreInside (calls_of s) → AreInside (calls_of (own_next position s op reply chosen))
dead_inside position s op NoProcess chosen h inside = inside
dead_inside position s op (Answers a) chosen h inside = absurd cc
dead_inside position s op (Refuses e) chosen h inside = absurd cc
dead_inside position s op Begun chosen h inside = absurd cc
dead_inside position s op Committed chosen h inside = absurd cc
dead_inside position s op (GivenUp again) chosen h inside = absurd cc
dead_inside position s op (Aborted why again) chosen h inside = absurd cc
dead_inside position s op (Busy cause) chosen h inside = absurd cc
dead_inside position s op InTransaction chosen h inside = absurd cc
dead_inside position s op NotInTransaction chosen h inside = absurd cc
dead_inside position s op HistoryFull chosen h inside = absurd cc
dead_inside position s op NoMemory chosen h inside = absurd cc

doom_inside : (s : Status) (cause : Cause) → AreInside (calls_of s) → AreInside (calls_of (doom s cause))
doom_inside gone cause h = tt
doom_inside idle cause h = tt
doom_inside (live flags age calls) cause h = tt
doom_inside (doomed first flags age) cause h = tt

next_inside : (m : Moment) (e : Entry) → suits (status m e.pid) e.op e.reply ≡ true → ((q : ℕ) → AreInside (calls_of (m.phase q))) → (q : ℕ) → AreInside (calls_of (next_phase m e q))
next_inside m e fits h q = by_doom (is_in q e.doomed) _ (own (q == e.pid) refl) where
  living : (b : Bool) → suits (if b then m.phase q else gone) e.op e.reply ≡ true → AreInside (calls_of (own_next (m.entries + 1) (m.phase q) e.op e.reply e.chosen))
  living true fits = own_inside (m.entries + 1) (m.phase q) e.op e.reply e.chosen fits (h q)
  living false fits = dead_inside (m.entries + 1) (m.phase q) e.op e.reply e.chosen fits (h q)

  own : (b : Bool) → (q == e.pid) ≡ b → AreInside (calls_of (if b then own_next (m.entries + 1) (m.phase q) e.op e.reply e.chosen else m.phase q))
  own true is = living (is_alive m.committed q) (subst (λ x. suits (status m x) e.op e.reply ≡ true) (sym (eqb-true q e.pid is)) fits)
  own false is = h q

  by_doom : (d : Bool) (s : Status) → AreInside (calls_of s) → AreInside (calls_of (if d then doom s (doom_cause m e.pid (dooming_touches m e.pid e.op) q) else s))
  by_doom true s inside = doom_inside s _ inside
  by_doom false s inside = inside

pub after_inside : (m : Moment) (es : List Entry) → AllSuit m es → ((q : ℕ) → AreInside (calls_of (m.phase q))) → (q : ℕ) → AreInside (calls_of ((after_from m es).phase q))
after_inside m [] fits h q = h q
after_inside m (e ∷ es) fits h q = after_inside (next m e) es fits.1 (next_inside m e fits.0 h) q

alive_tidied : (k : Kernel) (pid : ℕ) → is_alive (tidy k) pid ≡ is_alive k pid
unfolding tidy
alive_tidied k pid = refl

-- a process lives through such calls
pub alive_through : (pid : ℕ) (cs : List Executed) (k l : Kernel) → WellFormed k → is_alive k pid ≡ true → AreInside cs → Run k (items pid cs) l → is_alive l pid ≡ true
alive_through pid [] k l well alive inside run = ap (λ x. is_alive x pid) run ∙ alive
alive_through pid (c ∷ cs) k l well alive inside run =
    let step = run.1 in
    let ready : IsReady WellFormed k pid c.call c.chosen = record { well = well; alive = alive; numbers = step.numbers } in
    let lives : is_alive (tidy (changed k pid c.call c.chosen)) pid ≡ true = alive_tidied (changed k pid c.call c.chosen) pid ∙ calls_are_lawful_lem.alive_after k pid c.call c.chosen ready pid (inr inside.0.is) alive in
    let still : WellFormed (tidy (changed k pid c.call c.chosen)) = calls_are_lawful_lem.well_tidy _ (calls_are_lawful_lem.well_after k pid c.call c.chosen ready) in
    alive_through pid cs run.0 l (subst WellFormed (sym step.changed) still) (ap (λ x. is_alive x pid) step.changed ∙ lives) inside.1 run.2
