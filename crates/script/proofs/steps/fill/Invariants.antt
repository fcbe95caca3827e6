use Rattle.std.proofs.Common.{◌≡◌, ◌<◌, ℕ, [], length, get_or}
use Rattle.script.specs.Steps.{ops_for}
use Rattle.script.specs.declared.steps.TheConstants.{QUEUES}
use Rattle.script.specs.declared.limits.TheConstants.{PROCESS_NUMBERS_END}
use Rattle.script.proofs.steps.fill.Given as goal

-- the queues hold the operations of the lines so far
abbrev pub invariant-loop-line : goal.invariant-loop-line
invariant-loop-line l =
    (goal.iterator-loop-line).can_next l.line-iterator
    × (goal.iterator-loop-line).is_finite l.line-iterator
    × (length l.queues.items ≡ QUEUES)
    × ((p : ℕ) → p < PROCESS_NUMBERS_END → get_or l.queues.items p [] ≡ ops_for p l.yielded)
