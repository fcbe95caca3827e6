use Rattle.std.proofs.Common.{◌≡◌, ◌-◌}
use Rattle.commit_log.specs.File.{Reaches}
use Rattle.commit_log.specs.Reads.{IsClean, OnlyReads}
use Rattle.commit_log.proofs.recovery.find_end.Given as goal

abbrev pub invariant-loop-end : goal.invariant-loop-end
invariant-loop-end g l =
    OnlyReads g.D.Disk l.fn.disk l.disk
    × (g.D.Disk.faults l.disk ≡ g.D.Disk.faults l.fn.disk)
    × (IsClean g.D.Disk l.disk → Reaches l.key (g.D.Disk.seen l.fn.disk) l.from l.end)

abbrev pub decreases-loop-end : goal.decreases-loop-end
decreases-loop-end g l = l.size - l.end
