-- What one right entry does to the table of processes.
use Rattle.std.specs.Prelude.{◌≡◌, ◌≢◌, ℕ, suc, ◌+◌, ◌<◌, ◌≤◌, Bool, true, false, ◌⊎◌, List, ◌∷◌}
use Rattle.std.specs.Prelude.{◌++◌, length, Option, Some, None}
use Rattle.std.specs.List.{AllByRecursion}
use Rattle.model.specs.Calls.{Call, Exit, Fork, Child}
use Rattle.model.specs.Entries.{Op, Do, Reply, Answers, NoProcess, Entry}
use Rattle.model.specs.Forgetting.{Limit}
use Rattle.model.specs.Moments.{Setup, idle, Moment, is_alive, next, after, priority_of}
use Rattle.model.specs.Legal.{Legal, mine}
use Rattle.history_laws.specs.Each.{AtEach}

-- the process that an entry makes
abbrev pub child_in : Reply → Option ℕ
child_in (Answers (Child pid)) = Some pid
child_in _ = None

abbrev pub born : Reply → ℕ
born (Answers (Child pid)) = 1
born _ = 0

abbrev pub is_exit : Call → Bool
is_exit Exit = true
is_exit _ = false

-- whether the operation with its reply is an exit that was executed
abbrev pub is_ended : Op → Reply → Bool
is_ended (Do call) (Answers answer) = is_exit call
is_ended _ _ = false

-- A child has the number that comes next, lives, is idle, and has its parent's priority.
pub record IsBorn (m : Moment) (e : Entry) (child : ℕ) : Type 0 where
  pub number : child ≡ suc m.committed.made
  pub unmade : is_alive m.committed child ≡ false
  pub alive : is_alive (next m e).committed child ≡ true
  pub phase : (next m e).phase child ≡ idle
  pub priority : priority_of (next m e) child ≡ priority_of m e.pid

pub record IsAsBefore (m : Moment) (e : Entry) (q : ℕ) : Type 0 where
  pub alive : is_alive (next m e).committed q ≡ is_alive m.committed q
  pub priority : priority_of (next m e) q ≡ priority_of m q

-- Processes are made by forks and ended by exits alone, and each priority stays.
pub record ProcessesMove (m : Moment) (e : Entry) : Type 0 where
  pub made : (next m e).committed.made ≡ m.committed.made + born e.reply
  pub born : (child : ℕ) → child_in e.reply ≡ Some child → IsBorn m e child
  pub ended : is_ended e.op e.reply ≡ true → is_alive (next m e).committed e.pid ≡ false
  pub others : (q : ℕ) → child_in e.reply ≢ Some q
      → (is_ended e.op e.reply ≡ false) ⊎ (q ≢ e.pid) → IsAsBefore m e q

abbrev pub ForksAndExitsMove : Type 0
ForksAndExitsMove = AtEach ProcessesMove

-- The entries of a process that was never made are refused.
abbrev pub UnmadeAreRefused : Type 0
UnmadeAreRefused = (root : ℕ) (setup : Setup) (limit : Limit) (es : List Entry)
    → Legal root setup limit es → (q : ℕ) → (after root setup es).committed.made < q
    → AllByRecursion (λ e. e.reply ≡ NoProcess) (mine q es)

-- Among the entries is that of a fork that made the process q. The one who forked was made before;
-- the first process is number 1.
pub record IsForked (es : List Entry) (q : ℕ) : Type 0 where
  pub before : List Entry
  pub fork : Entry
  pub later : List Entry
  pub among : es ≡ before ++ fork ∷ later
  pub asked : fork.op ≡ Do Fork
  pub answered : fork.reply ≡ Answers (Child q)
  pub number : 0 < fork.pid
  pub earlier : fork.pid < q

-- Each process that was not there at the start was made by a fork of an earlier one.
abbrev pub ChildrenAreForked : Type 0
ChildrenAreForked = (root : ℕ) (setup : Setup) (limit : Limit) (es : List Entry)
    → Legal root setup limit es → (q : ℕ) → length setup.priorities < q
    → q ≤ (after root setup es).committed.made → IsForked es q
