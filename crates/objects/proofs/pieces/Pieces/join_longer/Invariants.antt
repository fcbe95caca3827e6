use Rattle.std.proofs.Common.{◌≡◌, ◌++◌, ◌*◌, List, length}
use Rattle.objects.specs.Contents.{Content}
use Rattle.objects.specs.Pieces.{JoinedFrom, piece_of}
use Rattle.objects.specs.declared.group.TheConstants.{GROUP_LEN}
use Rattle.objects.proofs.pieces.Pieces.join_longer.Given as goal

abbrev pub invariant-loop-group : goal.invariant-loop-group
invariant-loop-group l = record {
  rest : List (List Content);
  left : l.fn.self ≡ l.groups.items ++ rest;
  count : length l.long-inside.groups.items ≡ length l.fn.long;
  joined : JoinedFrom piece_of (length l.groups.items * GROUP_LEN) l.fn.self l.fn.long l.long-inside.groups.items;
}

abbrev pub decreases-loop-group : goal.decreases-loop-group
decreases-loop-group l = goal.left-loop-group l
