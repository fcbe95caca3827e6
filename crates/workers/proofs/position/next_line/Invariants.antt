use Rattle.std.proofs.Common.{◌≡◌, ◌≤◌, length}
use Rattle.script.specs.Steps.{ops_for}
use Rattle.workers.proofs.position.next_line.Given as goal

-- the lines that were passed over are those of other processes
abbrev pub invariant-loop-line : goal.invariant-loop-line
invariant-loop-line l =
    (ops_for l.process l.lines ≡ ops_for l.process l.rest) × (length l.rest ≤ length l.lines)

abbrev pub decreases-loop-line : goal.decreases-loop-line
decreases-loop-line l = length l.rest
