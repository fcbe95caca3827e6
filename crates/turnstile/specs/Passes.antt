-- What contracts see of a turnstile and of a pass.
use Rattle.std.specs.Prelude.{ℕ, []}
use Rattle.atomic_table.specs.Seated.{TableId}
use Rattle.history.specs.Log.{Log}
use Rattle.turnstile.specs.declared.rule.PassState.{PassState}
use Rattle.turnstile.specs.declared.rule.Role.{Role}
use Rattle.turnstile.specs.declared.rule.Role.TheVariants.{Process}
use Rattle.ids.specs.Bounds.{given_by_default}

-- which turnstile it is, and the history with which it was made
pub record Gate : Type 0 where
  pub table : TableId
  pub start : Log

-- a pass of a turnstile: its process, and what it has seen
pub record PassView : Type 0 where
  pub gate : Gate
  pub pid : ℕ
  pub seen : Log

abbrev pub gate_of : TableId → Log → Gate
gate_of z start = record { table = z; start = start }

abbrev pub no_log : Log
no_log = record { entries = []; priorities = []; limit = 0; forgotten = []; bounds = given_by_default }

abbrev pub no_pass : PassState
no_pass = record { pid = 0; seen = no_log; start = no_log }

abbrev pub pass_of : Role → PassState
pass_of (Process o) = o
pass_of _ = no_pass

abbrev pub pass_view : TableId → PassState → PassView
pass_view z o = record { gate = gate_of z o.start; pid = o.pid; seen = o.seen }
