-- What the lines of an input ask, one after another.
use Rattle.std.specs.Prelude.{◌+◌, ◌-◌, ◌^◌, ◌++◌, ◌∷◌, ℕ, min, nat_lt, length, List, []}
use Rattle.std.specs.Prelude.{Option, Some, None, Result, Ok, Err, if◌then◌else◌}
use Rattle.ids.specs.declared.call.Op.{Op}
use Rattle.script.specs.Lines.{first_line_of, further_line_of}
use Rattle.script.specs.declared.limits.TheConstants.{SCRIPT_LIMIT}
use Rattle.script.specs.declared.read.Line.{Line}
use Rattle.script.specs.declared.faults.ScriptFault.{ScriptFault}
use Rattle.script.specs.declared.faults.ScriptFault.TheVariants.{LineTooLong, NotEnded}

-- How far a stream has come: the number of the line that is next; the priorities of the kernel,
-- once a line has given them; and what the lines have asked, in order: an operation of a process,
-- or nothing, for a fault. A line that is skipped asks nothing at all, nor does that of the
-- priorities.
pub record Stand : Type 0 where
  pub number : ℕ
  pub priorities : Option (List ℕ)
  pub asked : List (Result (ℕ × Op) ScriptFault)

-- before the first line
abbrev pub beginning : Stand
beginning = record { number = 1; priorities = None; asked = [] }

-- the number of the line behind; numbers stay at the largest of 64 bits
abbrev pub next_number : ℕ → ℕ
next_number number = min (number + 1) (2 ^ 64 - 1)

abbrev pub with_nothing : Stand → Stand
with_nothing stand = record stand { number = next_number stand.number }

abbrev pub with_priorities : Stand → List ℕ → Stand
with_priorities stand priorities =
    record stand { number = next_number stand.number; priorities = Some priorities }

abbrev pub with_asked : Stand → Result (ℕ × Op) ScriptFault → Stand
with_asked stand ask =
    record stand { number = next_number stand.number; asked = stand.asked ++ ask ∷ [] }

-- behind a line before there are priorities
abbrev pub behind_first : Stand → Result (Option (List ℕ)) ScriptFault → Stand
behind_first stand (Err fault) = with_asked stand (Err fault)
behind_first stand (Ok None) = with_nothing stand
behind_first stand (Ok (Some priorities)) = with_priorities stand priorities

-- behind a further line
abbrev pub behind_further : Stand → Result (Option Line) ScriptFault → Stand
behind_further stand (Err fault) = with_asked stand (Err fault)
behind_further stand (Ok None) = with_nothing stand
behind_further stand (Ok (Some line)) = with_asked stand (Ok (line.pid, line.op))

abbrev pub behind_in : Option (List ℕ) → Stand → List ℕ → Stand
behind_in None stand line = behind_first stand (first_line_of stand.number line)
behind_in (Some priorities) stand line = behind_further stand (further_line_of stand.number line)

-- behind one line more
abbrev pub behind_line : Stand → List ℕ → Stand
behind_line stand line = behind_in stand.priorities stand line

abbrev pub stand_from : Stand → List (List ℕ) → Stand
stand_from stand [] = stand
stand_from stand (line ∷ lines) = stand_from (behind_line stand line) lines

-- behind all these lines
abbrev pub stand_of : List (List ℕ) → Stand
stand_of lines = stand_from beginning lines

-- the fault of a line that the input ends in
abbrev pub unended_fault : ℕ → List ℕ → ScriptFault
unended_fault number line =
    if nat_lt SCRIPT_LIMIT (length line) then LineTooLong number else NotEnded number

-- where the input ends, in a line that is not ended or behind a line feed
abbrev pub at_end : Stand → List ℕ → Stand
at_end stand [] = stand
at_end stand (b ∷ bs) = with_asked stand (Err (unended_fault stand.number (b ∷ bs)))
