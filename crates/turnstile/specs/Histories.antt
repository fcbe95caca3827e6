-- Histories: which are legal, which begins which, and what is a process's own.
use Rattle.std.specs.Prelude.{◌≡◌, ℕ, List}
use Rattle.history.specs.Log.{Log}
use Rattle.model.specs.Entries.{Entry}
use Rattle.model.specs.Legal.{Legal, IsBefore, mine}
use Rattle.machine.specs.Shown.{limit_of, setup_of, Shown, moment}

-- the root is number 0
pub record IsLegal (log : Log) : Type 0 where
  pub legal : Legal 0 (setup_of log) (limit_of log) log.entries

-- the second history begins with the first
pub record Begins (first whole : Log) : Type 0 where
  pub priorities : whole.priorities ≡ first.priorities
  pub limit : whole.limit ≡ first.limit
  pub forgotten : whole.forgotten ≡ first.forgotten
  pub bounds : whole.bounds ≡ first.bounds
  pub entries : IsBefore first.entries whole.entries

-- the entries of one process, in order
abbrev pub own : ℕ → Log → List Entry
own pid log = mine pid log.entries

-- how many processes were ever made
unfoldable pub made_of : Log → ℕ
made_of log = (moment log).committed.made

-- what contracts see of a kernel with a legal history
abbrev pub shown : Log → Shown
shown log = record { log = log; state = (moment log).committed }
