use Rattle.std.proofs.Common.{◌≢◌}
use Rattle.std.specs.List.{All}
use Rattle.mount_tables.proofs.open_files.ByNumber+OpenFile.some_in.Given as goal

abbrev pub invariant-loop-handle : goal.invariant-loop-handle
invariant-loop-handle l =
    (goal.iterator-loop-handle).can_next l.handle-iterator
    × (goal.iterator-loop-handle).is_finite l.handle-iterator
    × All (λ p. p.1.now.view ≢ l.view) l.yielded
