use Rattle.std.proofs.Common.{◌≡◌, ◌+◌, length}
use Rattle.std.specs.Fmt.{decimal}
use Rattle.transcript.proofs.digits.count_digits.Given as goal

-- The digits that were counted and those that are left are all.
abbrev pub invariant-loop-left : goal.invariant-loop-left
invariant-loop-left l = l.count + length (decimal l.left) ≡ length (decimal l.n)

abbrev pub decreases-loop-left : goal.decreases-loop-left
decreases-loop-left l = l.left
