use Rattle.std.proofs.Common.{◌≡◌, ◌*◌, replicate}
use Rattle.objects.specs.Pieces.{EndsBy}
use Rattle.objects.specs.declared.group.TheConstants.{PIECE_LEN}
use Rattle.objects.proofs.Writes.{WrittenBelow}
use Rattle.objects.proofs.file.FileData.wipe.Given as goal

-- the pieces so far are as after a write of zeros
abbrev pub invariant-loop-number : goal.invariant-loop-number
invariant-loop-number l = record {
  len : l.self-inside.len ≡ l.initial.self-inside.len;
  ends : EndsBy l.initial.self-inside.len l.self-inside.pieces;
  written : WrittenBelow (l.number * PIECE_LEN) l.offset (replicate l.count 0) l.initial.self-inside.pieces l.self-inside.pieces;
}
