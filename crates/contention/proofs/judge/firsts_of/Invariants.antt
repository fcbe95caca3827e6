use Rattle.std.proofs.Common.{◌≡◌, ℕ, take}
use Rattle.std.specs.BTreeMap.{get}
use Rattle.std.specs.Ordering.{nat_cmp}
use Rattle.contention.specs.Losses.{first_touch}
use Rattle.contention.proofs.judge.firsts_of.Given as goal

abbrev pub invariant-loop-clash : goal.invariant-loop-clash
invariant-loop-clash l = (q : ℕ) → get nat_cmp l.firsts q ≡ first_touch q (take l.clash-index l.clashes)
