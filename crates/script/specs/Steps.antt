-- The steps of a script and a schedule.
use Rattle.std.specs.Prelude.{◌≡◌, ℕ, ◌<◌, ◌==◌, List, [], ◌∷◌}
use Rattle.std.specs.Prelude.{Option, Some, None, map, filter, slice_get, slice_index_or}
use Rattle.ids.specs.declared.call.Op.{Op}
use Rattle.script.specs.declared.limits.TheConstants.{PROCESS_NUMBERS_END}
use Rattle.script.specs.declared.read.Line.{Line}
use Rattle.script.specs.Schedules.{times}

-- the operations of a process's lines, in order
abbrev pub ops_for : ℕ → List Line → List Op
ops_for process lines = map (λ line. line.op) (filter (λ line. line.pid == process) lines)

-- the queue at each process number has the operations of that process's lines
abbrev pub HoldOps : List (List Op) → List Line → Type 0
HoldOps queues lines =
    (p : ℕ) → p < PROCESS_NUMBERS_END → slice_index_or queues p [] ≡ ops_for p lines

abbrev pub with_step : ℕ → Option Op → List (ℕ × Op) → List (ℕ × Op)
with_step pid None steps = steps
with_step pid (Some operation) steps = (pid, operation) ∷ steps

-- the steps behind those of the processes that stood there before, the last of them first
abbrev pub steps_after : List Line → List ℕ → List ℕ → List (ℕ × Op)
steps_after lines before [] = []
steps_after lines before (pid ∷ pids) =
    with_step pid (slice_get (ops_for pid lines) (times pid before))
    (steps_after lines (pid ∷ before) pids)

-- the k-th time that a process stands in a schedule it runs its k-th line
abbrev pub steps : List Line → List ℕ → List (ℕ × Op)
steps lines pids = steps_after lines [] pids
