use Rattle.std.proofs.Common.{◌≡◌, ◌<◌, ◌++◌, ℕ, List, [], length, get_or, drop}
use Rattle.script.specs.declared.read.Line.{Line}
use Rattle.script.specs.Schedules.{times}
use Rattle.script.specs.Steps.{ops_for, steps_after}
use Rattle.script.specs.declared.steps.TheConstants.{QUEUES}
use Rattle.script.specs.declared.limits.TheConstants.{PROCESS_NUMBERS_END}
use Rattle.script.proofs.steps.take_all.Given as goal

-- whichever lines the queues were of, the steps so far and those to come are all of them, and each queue holds what its process has left
abbrev pub invariant-loop-pid : goal.invariant-loop-pid
invariant-loop-pid l =
    (length l.queues.items ≡ QUEUES)
    × ((lines : List Line) → ((p : ℕ) → p < PROCESS_NUMBERS_END → get_or l.initial.queues.items p [] ≡ ops_for p lines) → (before : List ℕ)
    × (steps_after lines [] l.pids ≡ l.taken.items ++ steps_after lines before (drop l.pid-index l.pids))
    × ((p : ℕ) → p < PROCESS_NUMBERS_END → get_or l.queues.items p [] ≡ drop (times p before) (ops_for p lines)))
