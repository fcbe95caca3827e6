-- What a run by threads comes to.
use Rattle.std.specs.Prelude.{◌≡◌, ℕ, ◌<◌, ◌≤◌, []}
use Rattle.history.specs.Log.{Log}
use Rattle.ids.specs.declared.limits.Limits.{Limits}
use Rattle.machine.specs.Shown.{limit_of, setup_of, moment}
use Rattle.model.specs.Legal.{Legal}
use Rattle.ports.specs.Ports.{work_in}
use Rattle.script.specs.Contents.{ScriptContents}
use Rattle.script.specs.Steps.{ops_for}
use Rattle.workers.specs.Work.{IsWork}
use Rattle.ids.specs.Bounds.{bounds_of}

-- The history is legal and whole, with the script's priorities and these limits. What each process
-- did, whether it was there at the start or was made by a fork, is work of its lines.
pub record IsRunByThreads (script : ScriptContents) (limits : Limits) (log : Log) : Type 0 where
  pub legal : Legal 0 (setup_of log) (limit_of log) log.entries
  pub same_priorities : log.priorities ≡ script.priorities
  pub same_limit : log.limit ≡ limits.entries
  pub same_bounds : log.bounds ≡ bounds_of limits
  pub whole : log.forgotten ≡ []
  pub works : (q : ℕ) → 0 < q → q ≤ (moment log).committed.made
      → IsWork (ops_for q script.lines) (work_in log q)
