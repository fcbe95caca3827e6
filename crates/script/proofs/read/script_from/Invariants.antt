use Rattle.std.proofs.Common.{◌≡◌, ◌+◌, length}
use Rattle.script.specs.Scripts.{from_head}
use Rattle.script.proofs.read.script_from.Given as goal

abbrev pub invariant-loop-line : goal.invariant-loop-line
invariant-loop-line l =
    (from_head 1 l.initial.pieces ≡ from_head l.number l.pieces) × (l.number + length l.pieces ≡ 1 + length l.initial.pieces)

abbrev pub decreases-loop-line : goal.decreases-loop-line
decreases-loop-line l = length l.pieces
