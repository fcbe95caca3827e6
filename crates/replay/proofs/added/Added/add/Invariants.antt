use Rattle.std.proofs.Common.{◌≡◌, ◌++◌, take}
use Rattle.replay.specs.Added.{entries_in, setup_in}
use Rattle.replay.proofs.added.Added.add.Given as goal

abbrev pub invariant-loop-entry : goal.invariant-loop-entry
invariant-loop-entry l = (entries_in l.self ≡ entries_in l.fn.self ++ take l.entry-index l.entries) × (setup_in l.self ≡ setup_in l.fn.self)
