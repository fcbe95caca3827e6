-- Schedules, and the steps that they say.
use Rattle.std.specs.Prelude.{ℕ, ◌≡◌, ◌≢◌, ◌<◌, length, get_or, ◌+◌, ◌++◌, ◌==◌, nat_lt, eqb}
use Rattle.std.specs.Prelude.{List, [], ◌∷◌, Option, Some, None, Result, Ok, Err, if◌then◌else◌}
use Rattle.std.specs.List.{slice_split, count_by}
use Rattle.std.specs.Option.{option_and_then}
use Rattle.script.specs.Characters.{comma}
use Rattle.script.specs.Scripts.{pid_in}
use Rattle.script.specs.declared.limits.TheConstants.{PROCESS_NUMBERS_END}
use Rattle.script.specs.declared.read.Line.{Line}
use Rattle.script.specs.declared.faults.ScheduleFault.{ScheduleFault}
use Rattle.script.specs.declared.faults.ScheduleFault.TheVariants as fault

-- process numbers, behind those that are there already
abbrev pub pids_after : List ℕ → List (List ℕ) → Option (List ℕ)
pids_after done [] = Some done
pids_after done (word ∷ words) =
    option_and_then (λ pid. pids_after (done ++ pid ∷ []) words) (pid_in word)

-- the empty text, or process numbers with commas
abbrev pub pids_of : List ℕ → Option (List ℕ)
pids_of [] = Some []
pids_of (b ∷ bs) = pids_after [] (slice_split (λ b. eqb b comma) (b ∷ bs))

-- each can be a process's number
abbrev pub AreProcessNumbers : List ℕ → Type 0
AreProcessNumbers pids = (k : ℕ) → k < length pids → get_or pids k 0 < PROCESS_NUMBERS_END

-- how many lines a process has
abbrev pub lines_for : ℕ → List Line → ℕ
lines_for process lines = count_by (λ line. eqb line.pid process) lines

-- how often a process stands there
abbrev pub times : ℕ → List ℕ → ℕ
times process [] = 0
times process (pid ∷ pids) = if pid == process then times process pids + 1 else times process pids

-- the first process that stands there more often than it has lines, behind those that stood there
-- before
abbrev pub first_without : List Line → List ℕ → List ℕ → Option ℕ
first_without lines before [] = None
first_without lines before (pid ∷ pids) =
    if nat_lt (times pid before) (lines_for pid lines) then first_without lines (pid ∷ before) pids
    else Some pid

abbrev pub with_lines_left : List ℕ → Option ℕ → Result (List ℕ) ScheduleFault
with_lines_left pids None = Ok pids
with_lines_left pids (Some pid) = Err (fault.NoLine pid)

abbrev pub schedule_from : List Line → Option (List ℕ) → Result (List ℕ) ScheduleFault
schedule_from lines None = Err fault.BadList
schedule_from lines (Some pids) = with_lines_left pids (first_without lines [] pids)

abbrev pub schedule_of : List ℕ → List Line → Result (List ℕ) ScheduleFault
schedule_of text lines = schedule_from lines (pids_of text)

-- The text has this fault. That memory was refused says nothing of the text.
abbrev pub IsFault : Result (List ℕ) ScheduleFault → ScheduleFault → Type 0
IsFault spelled why = why ≢ fault.NoMemory → spelled ≡ Err why

-- the text is no list of process numbers, unless memory was refused
abbrev pub NoPids : Option (List ℕ) → ScheduleFault → Type 0
NoPids spelled why = why ≢ fault.NoMemory → (why ≡ fault.BadList) × (spelled ≡ None)
