-- The rule of the table of one word and one slot.
-- The word is 0 where the kernel is at home, and not 0 where one seat has it. `history` gives a
-- kernel's history, and `IsLawful` says which histories are legal.
--
-- The states of a seat, and the moves between them. A move with + takes in a second seat, which
-- becomes Nobody; a move with `and` makes a second one.
--
--   Deals 0, first of all
--   Deals p            --Deal-->     Deals (p + 1)  and  Process of p
--   Process            --Take-->     Takes, where the word is 0; else Process
--   Takes              --Give-->     Process, which has seen the history of the kernel given back
--   Takes              --GiveBorn--> Bears, the same after a step that made a process
--   Bears              --Born-->     Process  and  Process of the one that was made
--   Process            --Copied-->   Process  and  Knows
--   Process + Knows    --Inform-->   Meets
--   Meets              --Compare-->  Process
--   a new seat         --Close-->    Closes, where the word is 0; else nothing is said of it
--   Closes + Process   --Collect-->  Checks
--   Checks             --Check-->    Closes
use Rattle.std.specs.Prelude.{◌≡◌, ◌≢◌, ℕ, ◌+◌, ◌<◌, ◌≤◌, ◌==◌, ◌⊎◌, MatchBool, Option, Some}
use Rattle.std.specs.Prelude.{List, [], ◌∷◌, length, slice_index}
use mathlib.Core.Option.{some}
use mathlib.Core.Option as maybe
use lib.ListN.{get_elem?}
use Rattle.atomic_table.specs.Table.{State, Me, Step}
use Rattle.history.specs.Log.{Log}
use Rattle.turnstile.specs.Histories.{Begins, own, made_of}
use Rattle.turnstile.specs.declared.rule.PassState.{PassState}
use Rattle.turnstile.specs.declared.rule.Role.{Role}
use Rattle.turnstile.specs.declared.rule.Role.TheVariants.{Nobody, Deals, Process, Takes, Knows}
use Rattle.turnstile.specs.declared.rule.Role.TheVariants.{Bears, Meets, Closes, Checks}

abbrev pub pass_state : ℕ → Log → Log → PassState
pass_state pid seen start = record { pid = pid; seen = seen; start = start }

-- the same pass once it has seen more
abbrev pub having_seen : PassState → Log → PassState
having_seen o log = pass_state o.pid log o.start

-- the seat j is the one of the process, and has seen a beginning of the history with all of the
-- process's entries
pub record IsPass (key log : Log) (owner : ℕ → ℕ) (j : ℕ) (o : PassState) : Type 0 where
  pub mine : owner o.pid ≡ j
  pub was_made : o.pid ≤ made_of log
  pub begun : o.start ≡ key
  pub has_seen : Begins o.seen log
  pub entries : own o.pid log ≡ own o.pid o.seen

-- the seat j has the kernel, of the history h
pub record HasKernel (log : Log) (word holder j : ℕ) (h : Log) : Type 0 where
  pub taken : word ≢ 0
  pub holds : holder ≡ j
  pub whole : h ≡ log

-- the number of the process that was made last in h is kept for the seat j
pub record IsBearing (log : Log) (owner : ℕ → ℕ) (j : ℕ) (h : Log) : Type 0 where
  pub mine : owner (made_of h) ≡ j
  pub was_made : made_of h ≤ made_of log
  pub entries : own (made_of h) log ≡ own (made_of h) h

-- of the processes that were made at the start those from `next` on have no pass yet
pub record IsDealer (key log : Log) (owner : ℕ → ℕ) (j next : ℕ) (h : Log) : Type 0 where
  pub begun : h ≡ key
  pub mine : (p : ℕ) → next ≤ p → p ≤ made_of key → owner p ≡ j
  pub entries : (p : ℕ) → next ≤ p → p ≤ made_of key → own p log ≡ own p key

abbrev pub Fits : Log → Log → ℕ → ℕ → (ℕ → ℕ) → ℕ → Role → Type 0
Fits key log word holder owner j Nobody = Unit {0}
Fits key log word holder owner j (Deals next h) = IsDealer key log owner j next h
Fits key log word holder owner j (Process o) = IsPass key log owner j o
Fits key log word holder owner j (Takes o) =
    IsPass key log owner j o × HasKernel log word holder j o.seen
Fits key log word holder owner j (Bears o) =
    IsPass key log owner j o × IsBearing log owner j o.seen × (o.pid ≢ made_of o.seen)
Fits key log word holder owner j (Knows h) = Begins h log
Fits key log word holder owner j (Meets o h) = IsPass key log owner j o × Begins h log
Fits key log word holder owner j (Closes h) = HasKernel log word holder j h
Fits key log word holder owner j (Checks h o) = HasKernel log word holder j h
    × Begins o.seen h × (own o.pid h ≡ own o.pid o.seen)

-- what a seat learns of the history that it finds
pub record Learns (IsLawful : Log → Type 0) (o : PassState) (log : Log) : Type 0 where
  pub lawful : IsLawful log
  pub before : Begins o.seen log
  pub entries : own o.pid log ≡ own o.pid o.seen
  pub was_made : o.pid ≤ made_of log
  pub not_made : (p : ℕ) → made_of log < p → own p log ≡ own p o.start

module _ {K : Type 0} (history : K → Log) (IsLawful : Log → Type 0) where
  -- the kernel is in the slot
  abbrev pub IsHome : Log → List (maybe.Option (Option K)) → Type 0
  IsHome log homes = (k : K) × (get_elem? homes 0 ≡ some (some (Some k))) × (history k ≡ log)

  pub record Kept (key : Log) (s : State (Option K) Role) : Type 0 where
    pub log : Log
    pub holder : ℕ
    pub owner : ℕ → ℕ
    pub one_word : length s.words ≡ 1
    pub lawful : IsLawful log
    pub started : Begins key log
    pub more_made : made_of key ≤ made_of log
    pub at_home : slice_index s.words 0 ≡ 0 → IsHome log s.homes
    pub each_seat : (j : ℕ) (v : Role) → get_elem? s.views j ≡ some v
        → Fits key log (slice_index s.words 0) holder owner j v
    -- what the history has of a process that was not made it had at the start
    pub not_made : (p : ℕ) → made_of log < p → own p log ≡ own p key

  abbrev pub Got : Me (Option K) Role → Me (Option K) Role → Type 0
  Got (Process o, c) m' = (k : K)
      × (m' ≡ (Takes (having_seen o (history k)), (0, Some k) ∷ c)) × Learns IsLawful o (history k)
  Got m m' = Unit {0}

  abbrev pub took : Step (Option K) → Me (Option K) Role → ℕ → Me (Option K) Role → Type 0
  took st m n m' = MatchBool (n == 0) (Got m m') (m' ≡ m)

  abbrev pub closed : Step (Option K) → Me (Option K) Role → ℕ → Me (Option K) Role → Type 0
  closed st m n m' = MatchBool (n == 0)
      ((k : K) × (m' ≡ (Closes (history k), (0, Some k) ∷ [])) × IsLawful (history k)) (Unit {0})

module _ {K : Type 0} (history : K → Log) where
  -- the pass after the kernel was given back
  abbrev pub given : Role → List (ℕ × Option K) → Role
  given (Takes o) ((i, Some k) ∷ c) = Process (having_seen o (history k))
  given v c = v

  abbrev pub gave : Step (Option K) → Me (Option K) Role → ℕ → Me (Option K) Role → Type 0
  gave st m n m' = m' ≡ (given m.0 m.1, [])

  -- the same after a step that made a process
  abbrev pub given_born : Role → List (ℕ × Option K) → Role
  given_born (Takes o) ((i, Some k) ∷ c) = Bears (having_seen o (history k))
  given_born v c = v

  abbrev pub gave_born : Step (Option K) → Me (Option K) Role → ℕ → Me (Option K) Role → Type 0
  gave_born st m n m' = m' ≡ (given_born m.0 m.1, [])

abbrev pub Checked : Role → Type 0
Checked (Checks h o) = Begins o.seen h × (own o.pid h ≡ own o.pid o.seen)
Checked v = Unit {0}

abbrev pub closing_on : Role → Role
closing_on (Checks h o) = Closes h
closing_on v = v

abbrev pub checked : {S : Type 0} → Step S → Me S Role → ℕ → Me S Role → Type 0
checked st m n m' = (m' ≡ (closing_on m.0, m.1)) × Checked m.0

abbrev pub dealt_on : Role → Role
dealt_on (Deals next h) = Deals (next + 1) h
dealt_on v = v

abbrev pub dealt : Role → Role
dealt (Deals next h) = Process (pass_state next h h)
dealt v = Nobody

abbrev pub collected : Role → Role → Role
collected (Closes h) (Process o) = Checks h o
collected v w = v

-- what one step of the process p makes of a history
pub record Follows (p : ℕ) (x y : Log) : Type 0 where
  pub longer : Begins x y
  pub more_made : made_of x ≤ made_of y
  pub others : (q : ℕ) → q ≢ p → own q y ≡ own q x

abbrev pub bore : Role → Role
bore (Bears o) = Process o
bore v = v

abbrev pub born : Role → Role
born (Bears o) = Process (pass_state (made_of o.seen) o.seen o.start)
born v = Nobody

abbrev pub copied : Role → Role
copied (Process o) = Knows o.seen
copied v = Nobody

abbrev pub informed : Role → Role → Role
informed (Process o) (Knows h) = Meets o h
informed v w = v

-- of two beginnings of one history one begins the other, and a pass's own entries are the same in a
-- longer one
abbrev pub Compares : PassState → Log → Type 0
Compares o h =
    (Begins o.seen h → own o.pid h ≡ own o.pid o.seen) × (Begins o.seen h ⊎ Begins h o.seen)

abbrev pub Compared : Role → Type 0
Compared (Meets o h) = Compares o h
Compared v = Unit {0}

abbrev pub met : Role → Role
met (Meets o h) = Process o
met v = v

abbrev pub compared : {S : Type 0} → Step S → Me S Role → ℕ → Me S Role → Type 0
compared st m n m' = (m' ≡ (met m.0, m.1)) × Compared m.0
