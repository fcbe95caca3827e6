-- What a stream has read, answered and written. `given` and `left` are what the source has to give
-- before and after, `old` and `new` what the sink holds.
use Rattle.std.specs.Prelude.{◌≡◌, ◌⊎◌, ◌++◌, ◌∷◌, ◌≤◌, ◌-◌, ◌^◌, ℕ, List, [], Bool, true, false}
use Rattle.std.specs.Prelude.{codes, length, Option, Result, IfSome}
use Rattle.std.specs.Io.KnownBytes.{append_known, prepend_known, IsAtEnd}
use Rattle.device.specs.Device.{IsPart}
use Rattle.ids.specs.declared.entry.Entry.{Entry}
use Rattle.ids.specs.declared.limits.Limits.{Limits}
use Rattle.ids.specs.declared.limits.TheConstants.{LARGEST_FILE, MAX_ENTRIES}
use Rattle.machine.specs.Shown.{Shown, setup_of}
use Rattle.model.specs.Passing.{Passes}
use Rattle.script.specs.declared.faults.ScriptFault.{ScriptFault}
use Rattle.stream.specs.Answers.{AreAnswers, fault_line, is_good, text_of}
use Rattle.stream.specs.Asked.{at_end, stand_of, unended_fault}
use Rattle.stream.specs.Heard.{StopsAt}
use Rattle.stream.specs.Input.{AreLines, BeginsWith}
use Rattle.stream.specs.declared.fault.StreamFault.{StreamFault}
use Rattle.stream.specs.declared.fault.StreamFault.TheVariants as stop

-- a kernel can be made with these limits
pub record CanMake (limits : Limits) : Type 0 where
  pub entries : limits.entries ≤ MAX_ENTRIES
  pub files : limits.file_bytes ≤ LARGEST_FILE

-- the answer to a line that the input ends in, if there is one
abbrev pub rest_text : ℕ → List ℕ → List ℕ
rest_text number [] = []
rest_text number (b ∷ bs) = fault_line (unended_fault number (b ∷ bs))

-- what is written behind the last answer where a check was wanted
abbrev pub verdict : Bool → List ℕ
verdict true = codes "check: ok\n"
verdict false = []

-- All whole lines of what was read are answered, and their answers are written behind what stood
-- there before; of the line behind them nothing is.
pub record AreAnswered (limits : Limits) (given left old new : Option (List ℕ)) : Type 0 where
  pub input : List ℕ
  pub lines : List (List ℕ)
  pub rest : List ℕ
  pub kernel : Option Shown
  pub answers : List (Result Entry ScriptFault)
  pub read : given ≡ prepend_known input left
  pub cut : AreLines input lines rest
  pub answered : AreAnswers limits (stand_of lines) kernel answers
  pub written : new ≡ append_known old (text_of answers)

-- The same of an input of 2^64 - 1 bytes or more: no more reads can be counted.
pub record IsTooLong (limits : Limits) (given left old new : Option (List ℕ)) : Type 0 where
  pub answered : AreAnswered limits given left old new
  pub long : 2 ^ 64 - 1 ≤ length answered.input

-- The input has come to its end, and these are the answers to all of it.
pub record IsWhole
    (limits : Limits) (given left : Option (List ℕ)) (good : Bool)
    (kernel : Option Shown) (answers : List (Result Entry ScriptFault))
    : Type 0 where
  pub input : List ℕ
  pub lines : List (List ℕ)
  pub rest : List ℕ
  pub read : given ≡ prepend_known input left
  pub over : IsAtEnd left
  pub cut : AreLines input lines rest
  pub answered : AreAnswers limits (at_end (stand_of lines) rest) kernel answers
  pub good_is : good ≡ is_good (at_end (stand_of lines) rest).asked

-- The input has come to its end, all of it is answered, and behind the answers stands the verdict,
-- if a check was wanted: the history passes.
pub record HasEnded
    (limits : Limits) (check : Bool) (given left old new : Option (List ℕ)) (good : Bool)
    : Type 0 where
  pub kernel : Option Shown
  pub answers : List (Result Entry ScriptFault)
  pub whole : IsWhole limits given left good kernel answers
  pub written : new ≡ append_known old (text_of answers ++ verdict check)
  pub passes : check ≡ true → IfSome kernel (λ k. Passes 0 (setup_of k.log) k.log.entries)

-- The same, and of the answers and the verdict a beginning is written.
pub record EndsInPart
    (limits : Limits) (check : Bool) (given left old new : Option (List ℕ))
    : Type 0 where
  pub good : Bool
  pub kernel : Option Shown
  pub answers : List (Result Entry ScriptFault)
  pub whole : IsWhole limits given left good kernel answers
  pub part : IsPart old new (text_of answers ++ verdict check)

-- The first lines of what was read are answered; `next` is of the line behind them.
pub record AreFirstAnswered
    (limits : Limits) (given left : Option (List ℕ)) (number : ℕ) (next : List ℕ)
    (kernel : Option Shown) (answers : List (Result Entry ScriptFault))
    : Type 0 where
  pub input : List ℕ
  pub lines : List (List ℕ)
  pub read : given ≡ prepend_known input left
  pub begins : BeginsWith input lines next
  pub number_is : number ≡ (stand_of lines).number
  pub answered : AreAnswers limits (stand_of lines) kernel answers

-- All lines before one are answered, and their answers are written. At that line the stream stops.
pub record StopsBefore
    (limits : Limits) (given left old new : Option (List ℕ)) (fault : StreamFault)
    : Type 0 where
  pub number : ℕ
  pub next : List ℕ
  pub kernel : Option Shown
  pub answers : List (Result Entry ScriptFault)
  pub first : AreFirstAnswered limits given left number next kernel answers
  pub written : new ≡ append_known old (text_of answers)
  pub why : StopsAt number next kernel fault

-- All lines before one are answered, and of their answers a beginning is written.
pub record StopsInPart (limits : Limits) (given left old new : Option (List ℕ)) : Type 0 where
  pub number : ℕ
  pub next : List ℕ
  pub kernel : Option Shown
  pub answers : List (Result Entry ScriptFault)
  pub first : AreFirstAnswered limits given left number next kernel answers
  pub part : IsPart old new (text_of answers)

-- What was read, answered and written where a fault has come. A read may fail at any time, and
-- nothing tells beforehand whether it will: so before each read all whole lines that have come are
-- answered. Spent says that no more reads can be counted, or that at a line whose places are missing
-- no more entries can be forgotten.
abbrev pub HasStopped :
    Limits → (check : Bool) → (given left old new : Option (List ℕ)) → StreamFault → Type 0
HasStopped limits check given left old new stop.Read = AreAnswered limits given left old new
HasStopped limits check given left old new stop.Write =
    StopsInPart limits given left old new ⊎ EndsInPart limits check given left old new
HasStopped limits check given left old new stop.HistoryFull =
    StopsBefore limits given left old new stop.HistoryFull
HasStopped limits check given left old new (stop.Check position) =
    StopsBefore limits given left old new (stop.Check position)
HasStopped limits check given left old new stop.NoMemory =
    StopsBefore limits given left old new stop.NoMemory
HasStopped limits check given left old new stop.Spent =
    IsTooLong limits given left old new ⊎ StopsBefore limits given left old new stop.Spent
