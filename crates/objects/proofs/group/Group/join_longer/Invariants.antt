use Rattle.std.proofs.Common.{◌≡◌, ◌++◌, List, length}
use Rattle.objects.specs.Contents.{Content}
use Rattle.objects.specs.Pieces.{JoinedFrom, piece_in}
use Rattle.objects.proofs.group.Group.join_longer.Given as goal

abbrev pub invariant-loop-piece : goal.invariant-loop-piece
invariant-loop-piece l = record {
  rest : List Content;
  left : l.fn.self ≡ l.pieces.items ++ rest;
  count : length l.long-inside.pieces.items ≡ length l.fn.long;
  joined : JoinedFrom piece_in (length l.pieces.items) l.fn.self l.fn.long l.long-inside.pieces.items;
}

abbrev pub decreases-loop-piece : goal.decreases-loop-piece
decreases-loop-piece l = goal.left-loop-piece l
