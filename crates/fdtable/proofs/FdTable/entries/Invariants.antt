use Rattle.std.proofs.Common.{◌≡◌, ◌-◌, ◌++◌}
use Rattle.model.specs.FiniteMap as map
use Rattle.fdtable.proofs.Opened.{open_from}
use Rattle.fdtable.proofs.FdTable.entries.Given as goal

abbrev pub invariant-loop-number : goal.invariant-loop-number
invariant-loop-number l =
    l.entries.items ++ open_from l.self l.number (l.number-end - l.number) ≡ map.entries l.self
