-- What is left of the notes is still to be merged.
use Rattle.std.proofs.Common.{◌≡◌}
use Rattle.view_times.proofs.Merging.{Merges}
use Rattle.view_times.proofs.everybody.ByNumber+Times.merge_all.Given as goal

abbrev pub invariant-loop-inode : goal.invariant-loop-inode
invariant-loop-inode l =
    Merges l.initial.self.rows l.self.rows l.initial.inode-iterator l.inode-iterator
    × (l.self.room ≡ l.initial.self.room)
