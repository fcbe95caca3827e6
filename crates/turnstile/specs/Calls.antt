-- What the calls of a turnstile promise.
use Rattle.std.specs.Prelude.{◌≡◌, ℕ, suc, Bool, ◌&&◌, nat_lt, false, ◌⊎◌, MatchBool}
use Rattle.std.specs.Prelude.{List, [], ◌∷◌, ◌++◌, map}
use Rattle.history.specs.Log.{Log}
use Rattle.model.specs.Calls.{Fork, Child}
use Rattle.model.specs.Entries.{Op, Do, Reply, Answers, HistoryFull, Entry}
use Rattle.model.specs.State.{Kernel as State}
use Rattle.model.specs.Moments.{is_alive, all_below}
use Rattle.machine.specs.Steps.{is_no_entry, has_place, IsStep}
use Rattle.turnstile.specs.Histories.{IsLegal, Begins, own, shown}
use Rattle.turnstile.specs.Passes.{Gate, PassView}

-- the numbers of the living processes, rising. A number is below 2^32.
abbrev pub has_pass : State → ℕ → Bool
has_pass k pid = nat_lt pid 4294967296 && is_alive k pid

abbrev pub living_numbers : State → List ℕ
living_numbers k = all_below (has_pass k) (suc k.made)

-- a pass that has seen the history with which the turnstile was made
abbrev pub first_pass : Gate → ℕ → PassView
first_pass gate pid = record { gate = gate; pid = pid; seen = gate.start }

-- one for each living process, rising
abbrev pub first_passes : Gate → State → List PassView
first_passes gate k = map (first_pass gate) (living_numbers k)

-- the pass is of the same turnstile and process, and has seen a legal history that begins with what
-- it had seen
pub record IsSamePass (p q : PassView) : Type 0 where
  pub gate : q.gate ≡ p.gate
  pub pid : q.pid ≡ p.pid
  pub legal : IsLegal q.seen
  pub longer : Begins p.seen q.seen

-- the history that the pass has seen ends with the entry of this operation and reply, by which the
-- process's own entries grew
pub record Ends (p : PassView) (op : Op) (reply : Reply) (q : PassView) : Type 0 where
  pub entry : Entry
  pub of_pid : entry.pid ≡ p.pid
  pub of_op : entry.op ≡ op
  pub of_reply : entry.reply ≡ reply
  pub before : List Entry
  pub last : q.seen.entries ≡ before ++ entry ∷ []
  pub own_grew : own p.pid q.seen ≡ own p.pid p.seen ++ entry ∷ []

-- An operation was answered by one step of the kernel, from a history that begins with what the
-- pass had seen and has just its own entries of its process, to what it has seen now.
pub record Called (p : PassView) (op : Op) (reply : Reply) (q : PassView) : Type 0 where
  pub found : Log
  pub longer : Begins p.seen found
  pub own_found : own p.pid found ≡ own p.pid p.seen
  pub step : IsStep (shown found) (shown q.seen) p.pid op reply
  pub own_after : MatchBool (is_no_entry reply) (own p.pid q.seen ≡ own p.pid p.seen)
      (Ends p op reply q)
  pub full : reply ≡ HistoryFull → has_place q.seen p.pid op ≡ false

-- A child was made by a call of the pass. Its pass has seen as much as that of its parent then, and
-- of its own entries just those that were there when the turnstile was made.
pub record Forked (p : PassView) (child : ℕ) (q made : PassView) : Type 0 where
  pub called : Called p (Do Fork) (Answers (Child child)) q
  pub pass : made ≡ record { gate = q.gate; pid = child; seen = q.seen }
  pub own_before : own child q.seen ≡ own child p.gate.start

-- the history begins with what the pass had seen, and has just its own entries of its process
pub record KeepsPass (log : Log) (p : PassView) : Type 0 where
  pub longer : Begins p.seen log
  pub own_kept : own p.pid log ≡ own p.pid p.seen

-- what one pass has seen begins what the other has, and the longer one has just their own entries
-- of both processes
abbrev pub Met : PassView → PassView → Type 0
Met p q = KeepsPass q.seen p ⊎ KeepsPass p.seen q
