use Rattle.std.proofs.Common.{◌≡◌, ◌≢◌, ℕ}
use Rattle.std.specs.BTreeMap as tree
use Rattle.list_modes.specs.Holding.{held_of}
use Rattle.list_modes.specs.Counted.{IsCounted}
use Rattle.list_modes.proofs.Holders.let_go.Given as goal

abbrev pub invariant-loop-dir : goal.invariant-loop-dir
invariant-loop-dir l = record {
  others : (p d : ℕ) → p ≢ l.pid → held_of l.self-inside.marks.entries p d ≡ held_of l.initial.self-inside.marks.entries p d;
  counted : IsCounted l.self-inside.marks.entries l.self-inside.counts;
}

abbrev pub decreases-loop-dir : goal.decreases-loop-dir
decreases-loop-dir l = tree.btree_map_len l.self-inside.marks
