use Rattle.std.proofs.Common.{◌≡◌, ◌≤◌, length, All}
use Rattle.script.specs.Scripts.{priorities_after}
use Rattle.script.specs.declared.limits.TheConstants.{TOP_PRIORITY}
use Rattle.script.proofs.read.read_priorities.Given as goal

abbrev pub invariant-loop-word : goal.invariant-loop-word
invariant-loop-word l =
    (priorities_after l.initial.priorities.items l.initial.words ≡ priorities_after l.priorities.items l.words) × All (λ n. n ≤ TOP_PRIORITY) l.priorities.items

abbrev pub decreases-loop-word : goal.decreases-loop-word
decreases-loop-word l = length l.words
