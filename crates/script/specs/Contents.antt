-- What a script contains.
use Rattle.std.specs.Prelude.{ℕ, ◌<◌, ◌≤◌, List, length, All}
use Rattle.ids.specs.declared.limits.TheConstants.{MAX_PROCESSES}
use Rattle.script.specs.declared.limits.TheConstants.{TOP_PRIORITY}
use Rattle.script.specs.declared.read.Line.{Line}

-- the priorities of the processes that are made at the start, and the lines
pub record ScriptContents : Type 0 where
  pub priorities : List ℕ
  pub lines : List Line

-- one priority or more, of no more processes than there may be, and none above the highest
pub record AreValidPriorities (priorities : List ℕ) : Type 0 where
  pub some : 0 < length priorities
  pub few : length priorities ≤ MAX_PROCESSES
  pub each : All (λ n. n ≤ TOP_PRIORITY) priorities
