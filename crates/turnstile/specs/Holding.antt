-- A seat at rest, and one that has the kernel; and the marks of living processes.
use Rattle.std.specs.Prelude.{◌≡◌, ℕ, suc, ◌<◌, Bool, false, Option, None}
use Rattle.std.specs.Prelude.{List, [], ◌∷◌, length, get_or}
use Rattle.atomic_table.specs.Table.{Me}
use Rattle.atomic_table.specs.declared.shared.Seat.{Seat}
use Rattle.history.specs.Log.{Log}
use Rattle.machine.specs.Steps.{IsStep}
use Rattle.model.specs.Entries.{Op, Reply}
use Rattle.model.specs.State.{Kernel as State}
use Rattle.turnstile.specs.Histories.{IsLegal, made_of, shown}
use Rattle.turnstile.specs.Calls.{has_pass}
use Rattle.turnstile.specs.Rule.{having_seen, pass_state, Learns}
use Rattle.turnstile.specs.Passes.{pass_of, no_pass, no_log}
use Rattle.turnstile.specs.declared.rule.PassState.{PassState}
use Rattle.turnstile.specs.declared.rule.Role.{Role}
use Rattle.turnstile.specs.declared.rule.Role.TheVariants.{Process, Takes, Closes}

abbrev pub KernelSeat : Type 0 → Type 0
KernelSeat K = Seat (Option K) Role

abbrev pub taker_of : Role → PassState
taker_of (Takes o) = o
taker_of _ = no_pass

abbrev pub IsAtRest : {K : Type 0} → Me (Option K) Role → Type 0
IsAtRest m = m ≡ (Process (pass_of m.0), [])

-- it has the kernel in hand, and the slot is empty
abbrev pub IsTaking : {K : Type 0} → Me (Option K) Role → Type 0
IsTaking m = m ≡ (Takes (taker_of m.0), (0, None) ∷ [])

-- the pass of the process that was made last
abbrev pub child_of : PassState → Log → PassState
child_of o log = pass_state (made_of log) log o.start

abbrev pub IsSameSeat : {K : Type 0} → KernelSeat K → KernelSeat K → Type 0
IsSameSeat p q = (q.table_id ≡ p.table_id) × (q.id ≡ p.id)

abbrev pub closer_of : Role → Log
closer_of (Closes h) = h
closer_of _ = no_log

-- it has the kernel for ever
abbrev pub IsClosing : {K : Type 0} → Me (Option K) Role → Type 0
IsClosing m = m.0 ≡ Closes (closer_of m.0)

-- the seat took the kernel, and has seen its history
pub record HasTaken {K : Type 0} (p : KernelSeat K) (log : Log) (q : KernelSeat K) : Type 0 where
  pub same : IsSameSeat p q
  pub me : q.me ≡ (Takes (having_seen (pass_of p.me.0) log), (0, None) ∷ [])
  pub learns : Learns IsLegal (pass_of p.me.0) log

-- the seat gave the kernel back after a step of its process
pub record Stepped {K : Type 0} (p : KernelSeat K) (op : Op) (reply : Reply) (q : KernelSeat K)
    : Type 0 where
  pub log : Log
  pub same : IsSameSeat p q
  pub me : q.me ≡ (Process (having_seen (taker_of p.me.0) log), [])
  pub legal : IsLegal log
  pub step : IsStep (shown (taker_of p.me.0).seen) (shown log) (taker_of p.me.0).pid op reply

-- whether the number i is marked in a list
abbrev pub is_set : List Bool → ℕ → Bool
is_set marks i = get_or marks i false

-- the list marks the numbers of the living processes
pub record Lives (k : State) (marks : List Bool) : Type 0 where
  pub whole : length marks ≡ suc k.made
  pub each : (i : ℕ) → i < suc k.made → is_set marks i ≡ has_pass k i
