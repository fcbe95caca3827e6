-- What was told so far, and what fits of the names behind it, is what is to be told.
use Rattle.std.proofs.Common.{◌≡◌, min}
use Rattle.mount_requests.specs.Listed.{given, listed, with_dots}
use Rattle.mount_requests.proofs.Telling.{IsSoFar}
use Rattle.mount_requests.proofs.lists.list_from.Given as goal

abbrev pub invariant-loop-index : goal.invariant-loop-index
invariant-loop-index l =
    (l.list.size ≡ min l.fn.size 1_048_576)
    × IsSoFar (with_dots l.fn.names) l.index l.list (listed l.fn.offset (given l.fn.offset l.fn.size l.fn.names))
