-- What one right entry does to its own process: a call goes in, a transaction begins anew; and how
-- ages go on.
use Rattle.std.proofs.Common.{◌≡◌, ◌≢◌, ℕ, ◌+◌, ◌≤◌, List, [], ◌∷◌, ◌++◌, Option, Some, None, Result, refl, sym, ◌∙◌, ap, subst, true, false, Bool, ◌⊎◌, inl, inr, arith}
use Rattle.std.proofs.lemmas.Bool.{cases_Bool, cases_eq, false≢true}
use Rattle.model.specs.State.{Kernel}
use Rattle.model.specs.Plan.{Errno}
use Rattle.model.specs.Calls.{Call, Answer}
use Rattle.model.specs.Steps.{touches, edits, reply}
use Rattle.model.specs.Entries.{BeginFlags, Op, Do, Begin, End, Abort, Reply, GivenUp, Aborted, Entry, Executed, answer_in}
use Rattle.model.specs.Moments.{Status, gone, idle, live, doomed, Moment, after_one, calls_of, calls_at, seen_by, settled, is_in, next, holds_place}
use Rattle.call_laws.specs.CallLaws.{CallLaws}
use Rattle.model.specs.Effects.{effects}
use Rattle.history_laws.specs.Standing.{age_of, AgesStand}
use Rattle.history_laws.specs.Entered.{restarts_by, PhasesMove, IsBegunAnew, view, CallGoesIn}
use Rattle.history_laws.proofs.lists.UntidiedRuns.{loose, loose_touches}
use Rattle.history_laws.proofs.lists.LiveLists.{touches_more}
use Rattle.history_laws.proofs.entries.Moments.{Sound, phase_is, held_is}
use Rattle.history_laws.proofs.entries.ExecutedCalls.{executed, plain_phase, plain_idle, pushed_phase, pushed_same}
use Rattle.history_laws.proofs.entries.Kinds.{Kind, Changes, Pushes, Commits, Begins, Settles, Rests}
use Rattle.history_laws.proofs.entries.Phases.{begun_phase, ended_phase}

pub loose_more : (p : ℕ) (es : List Executed) (d : Executed) (k : Kernel) → loose p (es ++ d ∷ []) k ≡ after_one p d (loose p es k)
loose_more p [] d k = refl
loose_more p (e ∷ es) d k = loose_more p es d (after_one p e k)

pub effects_more : (p : ℕ) (es : List Executed) (d : Executed) (k : Kernel) → effects p (es ++ d ∷ []) k ≡ effects p es k ++ record { chosen = d.chosen; edits = edits (loose p es k) p d.call } ∷ []
effects_more p [] d k = refl
effects_more p (e ∷ es) d k = ap (λ ds. record { chosen = e.chosen; edits = edits k p e.call } ∷ ds) (effects_more p es d (after_one p e k))

abbrev call_or : Call → Op → Call
call_or other (Do call) = call
call_or other (Begin flags) = other
call_or other End = other
call_or other (Abort no_restart) = other

abbrev answer_or : Result Answer Errno → Option (Result Answer Errno) → Result Answer Errno
answer_or other (Some answer) = answer
answer_or other None = other

abbrev with_calls : List Executed → Status → Status
with_calls es (live flags age calls) = live flags age es
with_calls es s = gone

idle_live : (flags : BeginFlags) (age : ℕ) (calls : List Executed) → idle ≡ live flags age calls → ⊥
idle_live flags age calls h = absurd cc

some_none : (answer : Result Answer Errno) → None ≡ Some answer → ⊥
some_none answer h = absurd cc

module _ (Well : Kernel → Type 0) (laws : CallLaws Well) (m : Moment) (e : Entry) (sound : Sound Well m) (later : Sound Well (next m e)) (call : Call) (flags : BeginFlags) (age : ℕ) (calls : List Executed) (answer : Result Answer Errno)
    (is_phase : m.phase e.pid ≡ live flags age calls) (is_op : e.op ≡ Do call) (is_answer : answer_in e.reply ≡ Some answer) where
  abbrev done : Executed
  done = record { call = call; answer = answer; chosen = e.chosen }

  goes_in_by : (next m e).committed ≡ m.committed → (next m e).phase e.pid ≡ live flags age (calls_at m e.pid ++ done ∷ []) → CallGoesIn m e call flags age answer
  goes_in_by same phase =
      let grown : calls_at (next m e) e.pid ≡ calls_at m e.pid ++ done ∷ [] = ap calls_of phase in
      record {
        committed = same;
        phase = phase;
        held = held_is Well laws (next m e) later e.pid ∙ ap (loose_touches e.pid (calls_at (next m e) e.pid)) same ∙ ap (λ es. loose_touches e.pid es m.committed) grown
            ∙ touches_more m.committed e.pid (calls_at m e.pid) done ∙ ap (λ ts. ts ++ touches (view m e.pid) e.pid call) (sym (held_is Well laws m sound e.pid));
        does = ap (effects e.pid (calls_at (next m e) e.pid)) same ∙ ap (λ es. effects e.pid es m.committed) grown ∙ effects_more e.pid (calls_at m e.pid) done m.committed;
        sees = ap (loose e.pid (calls_at (next m e) e.pid)) same ∙ ap (λ es. loose e.pid es m.committed) grown ∙ loose_more e.pid (calls_at m e.pid) done m.committed;
      }

  pub goes_in : Kind m e → CallGoesIn m e call flags age answer
  goes_in (Changes c is_s op taken) = absurd (idle_live flags age calls (sym (plain_phase m e c taken is_s) ∙ is_phase))
  goes_in (Pushes f a cs c is_s op inside taken) =
      let before : m.phase e.pid ≡ live f a cs = phase_is m e.pid (live f a cs) is_s (λ h. absurd cc) in
      let same_call : c ≡ call = ap (call_or call) (sym op ∙ is_op) in
      let same_answer : reply (seen_by m e.pid) e.pid c ≡ answer = ap (answer_or answer) (sym taken.answer ∙ is_answer) in
      let same_done : executed m e c taken ≡ done = ap (λ x. record { call = x; answer = reply (seen_by m e.pid) e.pid c; chosen = e.chosen }) same_call ∙ ap (λ x. record { call = call; answer = x; chosen = e.chosen }) same_answer in
      goes_in_by (pushed_same m e c taken f a cs is_s op)
      (pushed_phase m e c taken f a cs is_s op ∙ ap (λ d. live f a (calls_at m e.pid ++ d ∷ [])) same_done ∙ ap (with_calls (calls_at m e.pid ++ done ∷ [])) (sym before ∙ is_phase))
  goes_in (Commits f a cs is_s op is_reply alone) = absurd (some_none answer (sym (ap answer_in is_reply) ∙ is_answer))
  goes_in (Begins f is_s op is_reply alone) = absurd (some_none answer (sym (ap answer_in is_reply) ∙ is_answer))
  goes_in (Settles s again phase holds some left) = absurd (some_none answer (sym left.unanswered ∙ is_answer))
  goes_in (Rests some left) = absurd (some_none answer (sym left.unanswered ∙ is_answer))

answer_begins : (said : Reply) (answer : Result Answer Errno) → answer_in said ≡ Some answer → restarts_by said ≡ false
answer_begins (GivenUp again) answer h = absurd cc
answer_begins (Aborted why again) answer h = absurd cc
answer_begins said answer h = refl

no_restart_by : (b : Bool) {A : Type 0} → b ≡ false → b ≡ true → A
no_restart_by b f t = absurd (false≢true (sym f ∙ t))

anew_from : (s later : Status) (again : Bool) → holds_place s ≡ true → again ≡ true → later ≡ settled s again → IsBegunAnew s later
anew_from (live flags age calls) later true holds t is = record { flags = flags; age = age; is = is; same_flags = refl; same_age = refl }
anew_from (doomed cause flags age) later true holds t is = record { flags = flags; age = age; is = is; same_flags = refl; same_age = refl }
anew_from gone later again holds t is = absurd (false≢true holds)
anew_from idle later again holds t is = absurd (false≢true holds)
anew_from s later false holds t is = absurd (false≢true t)

-- a restarted transaction keeps its flags and its age alone
pub begun_anew : (m : Moment) (e : Entry) → Kind m e → restarts_by e.reply ≡ true → IsBegunAnew (m.phase e.pid) ((next m e).phase e.pid)
begun_anew m e (Changes call is_s is_op taken) again = no_restart_by (restarts_by e.reply) (answer_begins e.reply _ taken.answer) again
begun_anew m e (Pushes flags age calls call is_s is_op inside taken) again = no_restart_by (restarts_by e.reply) (answer_begins e.reply _ taken.answer) again
begun_anew m e (Commits flags age calls is_s is_op is_reply alone) again = no_restart_by (restarts_by e.reply) (ap restarts_by is_reply) again
begun_anew m e (Begins flags is_s is_op is_reply alone) again = no_restart_by (restarts_by e.reply) (ap restarts_by is_reply) again
begun_anew m e (Settles s true is_phase holds some left) again = subst (λ x. IsBegunAnew x ((next m e).phase e.pid)) (sym is_phase) (anew_from s ((next m e).phase e.pid) true holds refl left.phase)
begun_anew m e (Settles s false is_phase holds some left) again = no_restart_by (restarts_by e.reply) some.1 again
begun_anew m e (Rests some left) again = no_restart_by (restarts_by e.reply) some.1 again

-- how a process's age goes on
abbrev pub AgesOn : Moment → Entry → ℕ → Type 0
AgesOn m e q = (age_of ((next m e).phase q) ≡ age_of (m.phase q)) ⊎ ((age_of ((next m e).phase q) ≡ None) ⊎ ((q ≡ e.pid) × (age_of ((next m e).phase q) ≡ Some (m.entries + 1))))

settled_age : (s : Status) (again : Bool) → (age_of (settled s again) ≡ age_of s) ⊎ (age_of (settled s again) ≡ None)
settled_age (live flags age calls) true = inl refl
settled_age (live flags age calls) false = inr refl
settled_age (doomed cause flags age) true = inl refl
settled_age (doomed cause flags age) false = inr refl
settled_age gone again = inl refl
settled_age idle again = inl refl

own_ages_on : (m : Moment) (e : Entry) → Kind m e → AgesOn m e e.pid
own_ages_on m e (Changes call is_s is_op taken) = inr (inl (ap age_of (plain_idle m e call taken is_s)))
own_ages_on m e (Pushes flags age calls call is_s is_op inside taken) = inl (ap age_of (pushed_phase m e call taken flags age calls is_s is_op) ∙ sym (ap age_of (phase_is m e.pid (live flags age calls) is_s (λ h. absurd cc))))
own_ages_on m e (Commits flags age calls is_s is_op is_reply alone) = inr (inl (ap age_of (ended_phase m e is_reply alone)))
own_ages_on m e (Begins flags is_s is_op is_reply alone) = inr (inr (refl, ap age_of (begun_phase m e flags is_s is_op is_reply alone)))
own_ages_on m e (Settles s again is_phase holds some left) = elim (settled_age s again) [
  | inl same ↦ inl (ap age_of left.phase ∙ same ∙ sym (ap age_of is_phase))
  | inr none ↦ inr (inl (ap age_of left.phase ∙ none))
]
own_ages_on m e (Rests some left) = inl (ap age_of left.phase)

pub ages_on : (m : Moment) (e : Entry) → Kind m e → PhasesMove m e → (q : ℕ) → AgesOn m e q
ages_on m e is moves q = elim (cases_eq q e.pid) [
  | inl same ↦ subst (AgesOn m e) (sym same) (own_ages_on m e is)
  | inr ne ↦ elim (cases_Bool (is_in q e.doomed)) [
    | inl is_doomed ↦ (let hit = moves.dooms q is_doomed in inl (ap age_of hit.later ∙ sym (ap age_of hit.before)))
    | inr free ↦ inl (ap age_of (moves.others q ne free))
  ]
]

abbrev age_or : Option ℕ → ℕ
age_or (Some a) = a
age_or None = 0

same_age : (a b : ℕ) (o : Option ℕ) → o ≡ Some a → o ≡ Some b → a ≡ b
same_age a b o h g = ap age_or (sym h ∙ g)

no_age : (a : ℕ) (o : Option ℕ) → o ≡ None → o ≡ Some a → ⊥
no_age a o none some = nothing (sym none ∙ some) where
  nothing : None ≡ Some a → ⊥
  nothing h = absurd cc

pub ages_next : (m : Moment) (e : Entry) → Kind m e → PhasesMove m e → AgesStand m → AgesStand (next m e)
ages_next m e is moves ages = record { placed = placed; differ = differ } where
  placed : (q a : ℕ) → age_of ((next m e).phase q) ≡ Some a → a ≤ m.entries + 1
  placed q a some = elim (ages_on m e is moves q) [
    | inl same ↦ (let low : a ≤ m.entries = ages.placed q a (sym same ∙ some) in omega arith)
    | inr other ↦ elim other [
      | inl none ↦ absurd (no_age a _ none some)
      | inr new ↦ (let here : a ≡ m.entries + 1 = same_age a (m.entries + 1) _ some new.1 in omega arith)
    ]
  ]

  differ : (p q a : ℕ) → p ≢ q → age_of ((next m e).phase p) ≡ Some a → age_of ((next m e).phase q) ≢ Some a
  differ p q a ne first second = elim (ages_on m e is moves p) [
    | inl kept ↦ elim (ages_on m e is moves q) [
      | inl same ↦ ages.differ p q a ne (sym kept ∙ first) (sym same ∙ second)
      | inr other ↦ elim other [
        | inl none ↦ no_age a _ none second
        | inr new ↦ (let low : a ≤ m.entries = ages.placed p a (sym kept ∙ first) in let here : a ≡ m.entries + 1 = same_age a (m.entries + 1) _ second new.1 in absurd (omega arith))
      ]
    ]
    | inr left ↦ elim left [
      | inl none ↦ no_age a _ none first
      | inr mine ↦ elim (ages_on m e is moves q) [
        | inl same ↦ (let low : a ≤ m.entries = ages.placed q a (sym same ∙ second) in let here : a ≡ m.entries + 1 = same_age a (m.entries + 1) _ first mine.1 in absurd (omega arith))
        | inr other ↦ elim other [
          | inl none ↦ no_age a _ none second
          | inr new ↦ ne (mine.0 ∙ sym new.0)
        ]
      ]
    ]
  ]

-- no phase becomes `gone`
abbrev pub Here : Moment → Type 0
Here m = (q : ℕ) → m.phase q ≢ gone

settled_here : (s : Status) (again : Bool) → holds_place s ≡ true → settled s again ≢ gone
settled_here (live flags age calls) true h = λ g. absurd cc
settled_here (live flags age calls) false h = λ g. absurd cc
settled_here (doomed cause flags age) true h = λ g. absurd cc
settled_here (doomed cause flags age) false h = λ g. absurd cc
settled_here gone again h = absurd (false≢true h)
settled_here idle again h = absurd (false≢true h)

live_here : (flags : BeginFlags) (age : ℕ) (calls : List Executed) → live flags age calls ≢ gone
live_here flags age calls h = absurd cc

idle_here : idle ≢ gone
idle_here h = absurd cc

doomed_here : (cause : Rattle.model.specs.Entries.Cause) (flags : BeginFlags) (age : ℕ) → doomed cause flags age ≢ gone
doomed_here cause flags age h = absurd cc

own_here : (m : Moment) (e : Entry) → Here m → Kind m e → (next m e).phase e.pid ≢ gone
own_here m e here (Changes call is_s is_op taken) h = idle_here (sym (plain_idle m e call taken is_s) ∙ h)
own_here m e here (Pushes flags age calls call is_s is_op inside taken) h = live_here _ _ _ (sym (pushed_phase m e call taken flags age calls is_s is_op) ∙ h)
own_here m e here (Commits flags age calls is_s is_op is_reply alone) h = idle_here (sym (ended_phase m e is_reply alone) ∙ h)
own_here m e here (Begins flags is_s is_op is_reply alone) h = live_here _ _ _ (sym (begun_phase m e flags is_s is_op is_reply alone) ∙ h)
own_here m e here (Settles s again is_phase holds some left) h = settled_here s again holds (sym left.phase ∙ h)
own_here m e here (Rests some left) h = here e.pid (sym left.phase ∙ h)

pub here_next : (m : Moment) (e : Entry) → Kind m e → PhasesMove m e → Here m → Here (next m e)
here_next m e is moves here q h = elim (cases_eq q e.pid) [
  | inl same ↦ own_here m e here is (ap (next m e).phase (sym same) ∙ h)
  | inr ne ↦ elim (cases_Bool (is_in q e.doomed)) [
    | inl is_doomed ↦ doomed_here _ _ _ (sym (moves.dooms q is_doomed).later ∙ h)
    | inr free ↦ here q (sym (moves.others q ne free) ∙ h)
  ]
]
