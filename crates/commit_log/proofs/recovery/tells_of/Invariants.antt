use Rattle.std.proofs.Common.{◌≡◌, ◌<◌, ◌≤◌, ℕ, List}
use Rattle.commit_log.specs.Frame.{HasFrame}
use Rattle.commit_log.specs.Reads.{IsClean, OnlyReads}
use Rattle.commit_log.proofs.recovery.tells_of.Given as goal

abbrev pub invariant-loop-before : goal.invariant-loop-before
invariant-loop-before g l =
    OnlyReads g.D.Disk l.fn.disk l.disk
    × (g.D.Disk.faults l.disk ≡ g.D.Disk.faults l.fn.disk)
    × (IsClean g.D.Disk l.disk → (later kept : ℕ) (payload : List ℕ) → l.place < later → later ≤ l.before → HasFrame l.key (g.D.Disk.seen l.fn.disk) later kept payload → kept ≤ l.place)
