-- One line that comes by itself, without its line feed.
use Rattle.std.specs.Prelude.{ℕ, nat_lt, List, Option, Some, None, Result, Ok, Err}
use Rattle.std.specs.Prelude.{length, if◌then◌else◌}
use Rattle.script.specs.Scripts.{is_skipped, line_of, priorities_of, words_of}
use Rattle.script.specs.declared.limits.TheConstants.{SCRIPT_LIMIT}
use Rattle.script.specs.declared.read.Line.{Line}
use Rattle.script.specs.declared.faults.ScriptFault.{ScriptFault}
use Rattle.script.specs.declared.faults.ScriptFault.TheVariants as fault

abbrev pub with_head : ℕ → Option (List ℕ) → Result (Option (List ℕ)) ScriptFault
with_head number None = Err (fault.PrioritiesExpected number)
with_head number (Some priorities) = Ok (Some priorities)

-- The priorities, where none were given before. None is a line that is skipped. A line that is too
-- long is a fault, whatever it begins with.
abbrev pub first_line_of : ℕ → List ℕ → Result (Option (List ℕ)) ScriptFault
first_line_of number line =
    if nat_lt SCRIPT_LIMIT (length line) then Err (fault.LineTooLong number)
    else if is_skipped line then Ok None
    else with_head number (priorities_of (words_of line))

abbrev pub with_further : Result Line ScriptFault → Result (Option Line) ScriptFault
with_further (Err e) = Err e
with_further (Ok line) = Ok (Some line)

-- A process number, an operation and its arguments, behind the priorities. None is a line that is
-- skipped.
abbrev pub further_line_of : ℕ → List ℕ → Result (Option Line) ScriptFault
further_line_of number line =
    if nat_lt SCRIPT_LIMIT (length line) then Err (fault.LineTooLong number)
    else if is_skipped line then Ok None
    else with_further (line_of number (words_of line))
