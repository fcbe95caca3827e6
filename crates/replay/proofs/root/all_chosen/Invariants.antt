use Rattle.std.proofs.Common.{◌≡◌, ◌≢◌, ◌++◌, ℕ, take}
use Rattle.std.specs.List.{AllByRecursion}
use Rattle.replay.specs.Failing.{IsUnchosen}
use Rattle.replay.proofs.root.all_chosen.Given as goal

abbrev pub invariant-loop-entry : goal.invariant-loop-entry
invariant-loop-entry l = (n : ℕ) → AllByRecursion (λ m. m ≢ n) l.all.items → IsUnchosen n (take l.entry-index l.entries)

abbrev pub invariant-loop-num : goal.invariant-loop-num
invariant-loop-num l = l.all.items ≡ l.initial.all.items ++ take l.num-index l.chosen
