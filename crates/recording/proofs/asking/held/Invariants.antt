use Rattle.std.proofs.Common.{◌≡◌, ◌≤◌}
use Rattle.machine.specs.Shown.{moment}
use Rattle.recording.proofs.Places.{held_below}
use Rattle.recording.proofs.asking.held.Given as goal

abbrev pub invariant-loop-pid : goal.invariant-loop-pid
invariant-loop-pid g l = record {
  count : l.held ≡ held_below (moment (g.M.Machine.shown l.machine).log) l.pid;
  low : l.held ≤ l.pid;
}
