use Rattle.std.proofs.Common.{◌≢◌, ℕ, ◌<◌, ◌≤◌, get_or}
use Rattle.replay.proofs.root.first_missing.Given as goal

abbrev pub invariant-loop-num : goal.invariant-loop-num
invariant-loop-num l = (l.missing ≤ l.num-index) × ((k : ℕ) → k < l.num-index → get_or l.rising k 0 ≢ l.missing)
