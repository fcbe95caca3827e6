-- What one right entry changes.
use Rattle.std.specs.Prelude.{◌≡◌, ◌≢◌, ℕ, ◌+◌, List, [], ◌∷◌, ◌++◌, Bool, true, false, Some}
use Rattle.std.specs.Prelude.{Result, if◌then◌else◌}
use Rattle.model.specs.State.{Kernel}
use Rattle.model.specs.Plan.{Errno}
use Rattle.model.specs.Changes.{all_applied, tidy}
use Rattle.model.specs.Calls.{Call, Answer}
use Rattle.model.specs.Steps.{touches, edits}
use Rattle.model.specs.Entries.{BeginFlags, Do, Reply, Begun, Committed, GivenUp, Aborted, Entry}
use Rattle.model.specs.Entries.{Executed, answer_in}
use Rattle.model.specs.Moments.{Status, idle, live, doomed, Moment, status, doom_cause}
use Rattle.model.specs.Moments.{dooming_touches, is_in, own_next, next, reserved, calls_at, held_by}
use Rattle.model.specs.Moments.{loose}
use Rattle.history_laws.specs.Each.{AtEach}
use Rattle.model.specs.Effects.{effects}
use Rattle.history_laws.specs.Standing.{flags_of, age_of}

-- q's live transaction is doomed by the entry, and keeps its flags and its age
pub record IsDoomed (m : Moment) (e : Entry) (q : ℕ) : Type 0 where
  pub other : q ≢ e.pid
  pub flags : BeginFlags
  pub age : ℕ
  pub calls : List Executed
  pub before : m.phase q ≡ live flags age calls
  pub later : (next m e).phase q
      ≡ doomed (doom_cause m e.pid (dooming_touches m e.pid e.op) q) flags age

-- An entry moves its own process and dooms live transactions; all others stay as they were.
pub record PhasesMove (m : Moment) (e : Entry) : Type 0 where
  pub own : (next m e).phase e.pid ≡ own_next (m.entries + 1) (m.phase e.pid) e.op e.reply e.chosen
  pub dooms : (q : ℕ) → is_in q e.doomed ≡ true → IsDoomed m e q
  pub others : (q : ℕ) → q ≢ e.pid → is_in q e.doomed ≡ false → (next m e).phase q ≡ m.phase q

abbrev pub OwnAndDoomedMove : Type 0
OwnAndDoomedMove = AtEach PhasesMove

-- the reserved places that an entry adds, and those that it gives back
abbrev pub starts : Reply → ℕ
starts Begun = 1
starts _ = 0

abbrev pub stops : Reply → ℕ
stops Committed = 1
stops (GivenUp again) = if again then 0 else 1
stops (Aborted why again) = if again then 0 else 1
stops _ = 0

-- A begin reserves a place, and a commit or an abort without a restart gives it back.
abbrev pub ReservedPlacesMove : Type 0
ReservedPlacesMove =
    AtEach (λ m e. reserved (next m e) + stops e.reply ≡ reserved m + starts e.reply)

abbrev pub restarts_by : Reply → Bool
restarts_by (GivenUp again) = again
restarts_by (Aborted why again) = again
restarts_by _ = false

-- live, with these flags and this age, and no calls
pub record IsBegunAnew (before later : Status) : Type 0 where
  pub flags : BeginFlags
  pub age : ℕ
  pub is : later ≡ live flags age []
  pub same_flags : flags_of before ≡ Some flags
  pub same_age : age_of before ≡ Some age

-- A restart keeps flags and age, and forgets the calls.
abbrev pub RestartsBeginAnew : Type 0
RestartsBeginAnew = AtEach (λ m e. restarts_by e.reply ≡ true
    → IsBegunAnew (m.phase e.pid) ((next m e).phase e.pid))

-- A committed end runs its process's list on the committed state, and tidies once at the end.
abbrev pub CommitsRunTheList : Type 0
CommitsRunTheList = AtEach (λ m e. e.reply ≡ Committed
    → (next m e).committed ≡ tidy (loose e.pid (calls_at m e.pid) m.committed))

-- An executed plain call does its edits on the committed state, and tidies.
abbrev pub PlainCallsRun : Type 0
PlainCallsRun = (m : Moment) (e : Entry) (call : Call) (answer : Result Answer Errno)
    → status m e.pid ≡ idle → e.op ≡ Do call → answer_in e.reply ≡ Some answer
    → (next m e).committed ≡ tidy (all_applied e.chosen (edits m.committed e.pid call) m.committed)

-- what a process sees in its transaction, not tidied
abbrev pub view : Moment → ℕ → Kernel
view m q = loose q (calls_at m q) m.committed

-- An executed call of a transaction commits nothing, and goes into the list: its touches are held,
-- its edits done on what the process sees.
pub record CallGoesIn
    (m : Moment) (e : Entry) (call : Call) (flags : BeginFlags) (age : ℕ)
    (answer : Result Answer Errno)
    : Type 0 where
  pub committed : (next m e).committed ≡ m.committed
  pub phase : (next m e).phase e.pid
      ≡ live flags age
      (calls_at m e.pid ++ record { call = call; answer = answer; chosen = e.chosen } ∷ [])
  pub held : held_by (next m e) e.pid ≡ held_by m e.pid ++ touches (view m e.pid) e.pid call
  pub does : effects e.pid (calls_at (next m e) e.pid) (next m e).committed
      ≡ effects e.pid (calls_at m e.pid) m.committed
      ++ record { chosen = e.chosen; edits = edits (view m e.pid) e.pid call } ∷ []
  pub sees : view (next m e) e.pid
      ≡ all_applied e.chosen (edits (view m e.pid) e.pid call) (view m e.pid)

abbrev pub CallsGoIn : Type 0
CallsGoIn = AtEach (λ m e.
    (call : Call) (flags : BeginFlags) (age : ℕ) (calls : List Executed)
    (answer : Result Answer Errno)
    → m.phase e.pid ≡ live flags age calls → e.op ≡ Do call → answer_in e.reply ≡ Some answer
    → CallGoesIn m e call flags age answer)

-- A list that an entry leaves as it was holds the same touches and does the same edits, whatever
-- the entry committed.
pub record ListStays (m : Moment) (e : Entry) (q : ℕ) : Type 0 where
  pub held : held_by (next m e) q ≡ held_by m q
  pub effects : effects q (calls_at (next m e) q) (next m e).committed
      ≡ effects q (calls_at m q) m.committed

abbrev pub ListsStay : Type 0
ListsStay = AtEach (λ m e. (q : ℕ) → calls_at (next m e) q ≡ calls_at m q → ListStays m e q)
