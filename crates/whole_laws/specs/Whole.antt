-- What is simpler of a kernel that has forgotten nothing.
use Rattle.std.specs.Prelude.{◌≡◌, ◌↔◌, ℕ, ◌+◌, false, [], nat_le}
use Rattle.history.specs.Log.{Log, kept}
use Rattle.machine.specs.Shown.{Shown, limit_of, moment}
use Rattle.machine.specs.Steps.{IsStep}
use Rattle.model.specs.Entries.{Op, Reply, HistoryFull}
use Rattle.model.specs.Forgetting.{limit_at}
use Rattle.model.specs.Moments.{Moment, has_free, reserved, status}
use Rattle.model.specs.Replies.{needed}

-- the limit is one number, however many entries there are; free places are those below it; all
-- entries are kept; a step finds the history full exactly where its places are not below the limit;
-- and it forgets nothing
pub record WholeHistoriesHaveOneLimit : Type 0 where
  pub limit : (log : Log) → log.forgotten ≡ [] → (n : ℕ) → limit_at (limit_of log) n ≡ log.limit
  pub free : (log : Log) → log.forgotten ≡ [] → (m : Moment) (needed : ℕ)
      → has_free (limit_of log) m needed ≡ nat_le (m.entries + reserved m + needed) log.limit
  pub kept : (log : Log) → log.forgotten ≡ [] → kept log ≡ log.entries
  pub full : (old new : Shown) (pid : ℕ) (op : Op) (reply : Reply) → old.log.forgotten ≡ []
      → IsStep old new pid op reply
      → (reply ≡ HistoryFull) ↔ (nat_le
      ((moment old.log).entries + reserved (moment old.log)
      + needed (status (moment old.log) pid) op) old.log.limit ≡ false)
  pub whole : (old new : Shown) (pid : ℕ) (op : Op) (reply : Reply) → IsStep old new pid op reply
      → new.log.forgotten ≡ old.log.forgotten
