-- What is answered, and how it is printed.
use Rattle.std.specs.Prelude.{◌≡◌, ◌<◌, ◌+◌, ◌^◌, ◌++◌, ◌∷◌, ℕ, List, [], map, codes}
use Rattle.std.specs.Prelude.{decimal, true, ⊤}
use Rattle.std.specs.Prelude.{Option, Some, None, Result, Ok, Err, Bool, is_ok}
use Rattle.std.specs.List.{list_all}
use Rattle.ids.specs.declared.call.Op.{Op}
use Rattle.ids.specs.declared.entry.Entry.{Entry}
use Rattle.ids.specs.declared.limits.Limits.{Limits}
use Rattle.machine.specs.Shown.{Shown, Kept}
use Rattle.script.specs.declared.faults.ScriptFault.{ScriptFault}
use Rattle.script.specs.declared.faults.ScriptFault.TheVariants as fault
use Rattle.transcript.specs.Line.{line_of, transcript}
use Rattle.stream.specs.Asked.{Stand}
use Rattle.ids.specs.Bounds.{bounds_of}

-- the text of a fault, as it is reported of a script
abbrev pub fault_text : ScriptFault → List ℕ
fault_text fault.TooLong = codes "script too long"
fault_text (fault.LineTooLong number) = codes "line " ++ decimal number ++ codes ": too long"
fault_text (fault.NotEnded number) = codes "line " ++ decimal number ++ codes ": not ended"
fault_text (fault.PrioritiesExpected number) =
    codes "line " ++ decimal number ++ codes ": priorities expected"
fault_text (fault.ProcessExpected number) =
    codes "line " ++ decimal number ++ codes ": process number expected"
fault_text (fault.UnknownOperation number) =
    codes "line " ++ decimal number ++ codes ": unknown operation"
fault_text (fault.BadArguments number) =
    codes "line " ++ decimal number ++ codes ": bad arguments"
fault_text fault.NoMemory = codes "no memory"

-- the answer to a line that asks no operation; no line of a transcript begins so
abbrev pub fault_line : ScriptFault → List ℕ
fault_line why = codes "? " ++ fault_text why ++ codes "\n"

-- what an answer answers: an entry its operation, a fault itself
abbrev pub ask_of : Result Entry ScriptFault → Result (ℕ × Op) ScriptFault
ask_of (Ok entry) = Ok (entry.pid, entry.op)
ask_of (Err why) = Err why

-- the entries among answers
abbrev pub entries_in : List (Result Entry ScriptFault) → List Entry
entries_in [] = []
entries_in (Ok entry ∷ answers) = entry ∷ entries_in answers
entries_in (Err why ∷ answers) = entries_in answers

-- the text of answers, of which the next entry has this position: the lines of a transcript, and those
-- of faults between them
abbrev pub text_from : ℕ → List (Result Entry ScriptFault) → List ℕ
text_from position [] = []
text_from position (Ok entry ∷ answers) = line_of position entry ++ text_from (position + 1) answers
text_from position (Err why ∷ answers) = fault_line why ++ text_from position answers

-- the text of all answers: entries are numbered from 1
abbrev pub text_of : List (Result Entry ScriptFault) → List ℕ
text_of answers = text_from 1 answers

-- nothing that was asked is a fault
abbrev pub is_good : List (Result (ℕ × Op) ScriptFault) → Bool
is_good asked = list_all (λ (ask : Result (ℕ × Op) ScriptFault). is_ok ask) asked

-- A kernel with these priorities and these limits has a legal history.
pub record IsKernelOf (priorities : List ℕ) (limits : Limits) (kernel : Shown) : Type 0 where
  pub kept : Kept kernel
  pub same_priorities : kernel.log.priorities ≡ priorities
  pub same_limit : kernel.log.limit ≡ limits.entries
  pub same_bounds : kernel.log.bounds ≡ bounds_of limits

-- The kernel is made once there are priorities.
abbrev pub IsMade : Option (List ℕ) → Limits → Option Shown → Type 0
IsMade None limits None = ⊤
IsMade None limits (Some kernel) = ⊥
IsMade (Some priorities) limits None = ⊥
IsMade (Some priorities) limits (Some kernel) = IsKernelOf priorities limits kernel

-- all entries that the kernel ever made
abbrev pub entries_of : Option Shown → List Entry
entries_of None = []
entries_of (Some kernel) = kernel.log.entries

-- What was asked is answered, each thing once and in order: an operation by its entry, a fault by
-- itself. The entries are those of the kernel's legal history, and it has no others.
pub record AreAnswers
    (limits : Limits) (stand : Stand) (kernel : Option Shown)
    (answers : List (Result Entry ScriptFault))
    : Type 0 where
  pub made : IsMade stand.priorities limits kernel
  pub asked : map ask_of answers ≡ stand.asked
  pub entries : entries_in answers ≡ entries_of kernel

-- Where no line is a fault the text of the answers is the transcript of the entries.
abbrev pub GoodAnswersAreTranscripts : Type 0
GoodAnswersAreTranscripts = (answers : List (Result Entry ScriptFault))
    → is_good (map ask_of answers) ≡ true → text_of answers ≡ transcript (entries_in answers)

-- No line of a transcript can be taken for the answer to a line that is a fault: they differ in their
-- first byte.
abbrev pub FaultLinesAreNoEntries : Type 0
FaultLinesAreNoEntries = (why : ScriptFault) (position : ℕ) (entry : Entry) (s t : List ℕ)
    → position < 2 ^ 64 → fault_line why ++ s ≡ line_of position entry ++ t → ⊥
