-- So many descriptors came and went with the processes so far.
use Rattle.std.proofs.Common.{◌*◌, ◌≤◌}
use Rattle.shadow.proofs.viewing.SlotTurnover.{Turned}
use Rattle.shadow.proofs.counting.turnover.Given as goal

abbrev pub invariant-loop-i : goal.invariant-loop-i
invariant-loop-i l = record {
  turned : Turned l.stable.state l.description l.i l.slots l.added l.taken;
  few : l.added ≤ l.i * 18446744073709551616;
  gone : l.taken ≤ l.i * 18446744073709551616;
}
