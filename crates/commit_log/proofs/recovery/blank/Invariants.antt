use Rattle.std.proofs.Common.{◌≡◌, ◌-◌, ◌<◌, ◌≤◌, ℕ, length, slice_index}
use Rattle.std.specs.Prelude.{IsTrue}
use Rattle.commit_log.specs.Reads.{ChangesFrom, IsClean, KeepsBelow}
use Rattle.commit_log.proofs.recovery.blank.Given as goal

abbrev pub invariant-loop-at : goal.invariant-loop-at
invariant-loop-at g l =
    IsTrue (g.D.Disk.is_usable l.disk)
    × (g.D.Disk.faults l.disk ≡ g.D.Disk.faults l.fn.disk)
    × (IsClean g.D.Disk l.disk → IsClean g.D.Disk l.fn.disk)
    × (l.from ≤ l.at)
    × KeepsBelow l.from (g.D.Disk.seen l.fn.disk) (g.D.Disk.seen l.disk)
    × ChangesFrom l.from (g.D.Disk.may_leave l.fn.disk) (g.D.Disk.may_leave l.disk)
    × (l.size ≡ length (g.D.Disk.seen l.fn.disk) → (length (g.D.Disk.seen l.disk) ≡ l.size) × ((i : ℕ) → l.from ≤ i → i < l.at → slice_index (g.D.Disk.seen l.disk) i ≡ 0))

abbrev pub decreases-loop-at : goal.decreases-loop-at
decreases-loop-at g l = l.size - l.at
