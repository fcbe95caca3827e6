use Rattle.std.proofs.Common.{◌≡◌, ◌+◌, ◌-◌, ◌≤◌}
use Rattle.model.specs.FiniteMap as map
use Rattle.fdtable.proofs.Opened.{among, open_from}
use Rattle.fdtable.proofs.FdTable.count.Given as goal

abbrev pub invariant-loop-number : goal.invariant-loop-number
invariant-loop-number l =
    (l.count ≤ l.number) × (l.count + among l.description (open_from l.self l.number (l.number-end - l.number)) ≡ among l.description (map.entries l.self))
