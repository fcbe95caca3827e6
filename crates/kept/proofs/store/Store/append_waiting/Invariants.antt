use Rattle.std.proofs.Common.{◌≡◌, ℕ, List, length}
use Rattle.history.specs.Log.{Log}
use Rattle.kept.proofs.Holding.{Appends}
use Rattle.kept.proofs.store.Store.append_waiting.Given as goal

-- it has what it had, and more was appended
abbrev pub invariant-loop-self : goal.invariant-loop-self
invariant-loop-self g l = record {
  goes : (log : Log) (kept appended : List (List ℕ)) → Appends l.fn.self l.self log kept appended;
  taken : l.self.taken ≡ l.fn.self.taken;
}

abbrev pub decreases-loop-self : goal.decreases-loop-self
decreases-loop-self g l = length l.self.waiting.items
