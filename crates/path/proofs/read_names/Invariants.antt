-- The names so far stand before what the rest comes to.
use Rattle.std.proofs.Common.{◌≡◌}
use Rattle.model.specs.Paths.{names_in, pieces}
use Rattle.path.specs.Parsing.{after, pieces_left, bytes_left}
use Rattle.path.proofs.read_names.Given as goal

abbrev pub invariant-loop-left : goal.invariant-loop-left
invariant-loop-left l = names_in (pieces l.fn.bytes) ≡ after l.names.items (names_in (pieces_left l.left))

abbrev pub decreases-loop-left : goal.decreases-loop-left
decreases-loop-left l = bytes_left l.left
