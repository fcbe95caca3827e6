-- The script that a text spells, or its first fault.
use Rattle.std.specs.Prelude.{◌≡◌, ◌≢◌, ℕ, ◌+◌, ◌++◌, ◌&&◌, ◌==◌, nat_le, nat_lt}
use Rattle.std.specs.Prelude.{List, [], ◌∷◌, Bool, true, Option, Some, None}
use Rattle.std.specs.Prelude.{Result, Ok, Err, codes, eqb, length, if◌then◌else◌}
use Rattle.std.specs.List.{slice_split}
use Rattle.std.specs.Option.{option_and_then}
use Rattle.std.specs.Str.{bytes_eq}
use Rattle.script.specs.Numbers.{decimal_in}
use Rattle.script.specs.Operations.{arguments}
use Rattle.script.specs.Characters.{hash, newline, space}
use Rattle.script.specs.Contents.{ScriptContents}
use Rattle.script.specs.Verbs.{verb_in}
use Rattle.ids.specs.declared.call.Op.{Op}
use Rattle.ids.specs.declared.limits.TheConstants.{MAX_PROCESSES}
use Rattle.script.specs.declared.limits.TheConstants.{SCRIPT_LIMIT, TOP_PRIORITY}
use Rattle.script.specs.declared.verb.Verb.{Verb}
use Rattle.script.specs.declared.read.Line.{Line}
use Rattle.script.specs.declared.faults.ScriptFault.{ScriptFault}
use Rattle.script.specs.declared.faults.ScriptFault.TheVariants as fault

-- the words of a line stand between single spaces
abbrev pub words_of : List ℕ → List (List ℕ)
words_of line = slice_split (λ b. eqb b space) line

-- numbers up to the highest priority, behind those that are there already
abbrev pub priorities_after : List ℕ → List (List ℕ) → Option (List ℕ)
priorities_after done [] = Some done
priorities_after done (word ∷ words) =
    option_and_then (λ n. priorities_after (done ++ n ∷ []) words) (decimal_in TOP_PRIORITY word)

-- one or more, of no more processes than there may be
abbrev pub if_valid : Option (List ℕ) → Option (List ℕ)
if_valid None = None
if_valid (Some priorities) =
    if nat_le 1 (length priorities) && nat_le (length priorities) MAX_PROCESSES then Some priorities
    else None

-- the first line: `priorities` and the numbers
abbrev pub priorities_of : List (List ℕ) → Option (List ℕ)
priorities_of [] = None
priorities_of (word ∷ words) =
    if bytes_eq word (codes "priorities") then if_valid (priorities_after [] words) else None

-- a process has a number from 1 on
abbrev pub if_not_zero : Option ℕ → Option ℕ
if_not_zero None = None
if_not_zero (Some n) = if n == 0 then None else Some n

abbrev pub pid_in : List ℕ → Option ℕ
pid_in word = if_not_zero (decimal_in MAX_PROCESSES word)

abbrev pub with_op : ℕ → ℕ → Option Op → Result Line ScriptFault
with_op number process None = Err (fault.BadArguments number)
with_op number process (Some operation) =
    Ok (record { pid = process; op = operation; number = number })

abbrev pub with_verb : ℕ → ℕ → Option Verb → List (List ℕ) → Result Line ScriptFault
with_verb number process None words = Err (fault.UnknownOperation number)
with_verb number process (Some verb) words = with_op number process (arguments verb words)

abbrev pub with_pid : ℕ → Option ℕ → List (List ℕ) → Result Line ScriptFault
with_pid number None words = Err (fault.ProcessExpected number)
with_pid number (Some process) [] = Err (fault.UnknownOperation number)
with_pid number (Some process) (word ∷ words) = with_verb number process (verb_in word) words

-- a further line: a process number, an operation and its arguments
unfoldable pub line_of : ℕ → List (List ℕ) → Result Line ScriptFault
line_of number [] = Err (fault.ProcessExpected number)
line_of number (word ∷ words) = with_pid number (pid_in word) words

-- empty lines and comments
abbrev pub is_skipped : List ℕ → Bool
is_skipped [] = true
is_skipped (b ∷ bs) = b == hash

-- one more line, and what `f` makes of all of them, or the line's fault
abbrev pub lines_next :
    (List Line → Result (List Line) ScriptFault) → List Line → Result Line ScriptFault
    → Result (List Line) ScriptFault
lines_next f done (Err e) = Err e
lines_next f done (Ok line) = f (done ++ line ∷ [])

-- What the pieces between the line feeds say, behind what is there already; the number is that of
-- the first of them. Behind the last line feed there is nothing.
abbrev pub lines_after : ℕ → List Line → List (List ℕ) → Result (List Line) ScriptFault
lines_after number done [] = Ok done
lines_after number done (last ∷ []) =
    if length last == 0 then Ok done else Err (fault.NotEnded number)
lines_after number done (line ∷ next ∷ more) =
    if is_skipped line then lines_after (number + 1) done (next ∷ more)
    else lines_next (λ lines. lines_after (number + 1) lines (next ∷ more)) done
    (line_of number (words_of line))

abbrev pub with_lines :
    List ℕ → Result (List Line) ScriptFault → Result ScriptContents ScriptFault
with_lines priorities (Err e) = Err e
with_lines priorities (Ok lines) = Ok (record { priorities = priorities; lines = lines })

abbrev pub behind_head :
    ℕ → Option (List ℕ) → List (List ℕ) → Result ScriptContents ScriptFault
behind_head number None pieces = Err (fault.PrioritiesExpected number)
behind_head number (Some priorities) pieces =
    with_lines priorities (lines_after (number + 1) [] pieces)

-- the first line that is not skipped, and the further ones
abbrev pub from_head : ℕ → List (List ℕ) → Result ScriptContents ScriptFault
from_head number [] = Err (fault.PrioritiesExpected number)
from_head number (last ∷ []) =
    if length last == 0 then Err (fault.PrioritiesExpected number) else Err (fault.NotEnded number)
from_head number (line ∷ next ∷ more) =
    if is_skipped line then from_head (number + 1) (next ∷ more)
    else behind_head number (priorities_of (words_of line)) (next ∷ more)

abbrev pub script_of : List ℕ → Result ScriptContents ScriptFault
script_of text =
    if nat_lt SCRIPT_LIMIT (length text) then Err fault.TooLong
    else from_head 1 (slice_split (λ b. eqb b newline) text)

-- The text has this fault. That memory was refused says nothing of the text.
abbrev pub IsFault : {A : Type 0} → Result A ScriptFault → ScriptFault → Type 0
IsFault spelled why = why ≢ fault.NoMemory → spelled ≡ Err why

-- the line with this number spells no priorities, unless memory was refused
abbrev pub NoPriorities : ℕ → Option (List ℕ) → ScriptFault → Type 0
NoPriorities number spelled why =
    why ≢ fault.NoMemory → (why ≡ fault.PrioritiesExpected number) × (spelled ≡ None)
