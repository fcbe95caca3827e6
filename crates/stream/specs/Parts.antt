-- How far a stream has come with its input, and what a part more of it comes to.
use Rattle.std.specs.Prelude.{◌≡◌, ◌+◌, ◌++◌, ℕ, List, true, length, take, flat_map, option_map}
use Rattle.std.specs.Prelude.{Option, Result, MatchResult}
use Rattle.std.specs.List.{list_all}
use Rattle.std.specs.Io.KnownBytes.{append_known, prepend_known}
use Rattle.device.specs.Device.{IsPart}
use Rattle.ids.specs.declared.entry.Entry.{Entry}
use Rattle.machine.specs.Shown.{Shown}
use Rattle.script.specs.declared.faults.ScriptFault.{ScriptFault}
use Rattle.script.specs.declared.limits.TheConstants.{SCRIPT_LIMIT}
use Rattle.stream.specs.Answers.{AreAnswers, entries_in, is_good, text_from, text_of}
use Rattle.stream.specs.Asked.{stand_of}
use Rattle.stream.specs.Heard.{IsFollowed, StopsAt}
use Rattle.stream.specs.Input.{BeginsWith, ended, is_one_line}
use Rattle.stream.specs.declared.fault.StreamFault.{StreamFault}
use Rattle.stream.specs.declared.fault.StreamFault.TheVariants as stop
use Rattle.stream.specs.declared.state.Setting.{Setting}
use Rattle.stream.specs.declared.state.Stream.{Stream}

-- What was seen of an input so far: its lines, the line that has not ended yet, and the answers.
pub record Seen : Type 0 where
  pub lines : List (List ℕ)
  pub rest : List ℕ
  pub answers : List (Result Entry ScriptFault)

abbrev pub input_of : Seen → List ℕ
input_of seen = flat_map ended seen.lines ++ seen.rest

-- the position of the next entry
abbrev pub position_of : Seen → ℕ
position_of seen = length (entries_in seen.answers) + 1

-- The stream's fields show what was seen. Of the line that has not ended it keeps no more than is
-- needed to tell that the line is too long.
pub record IsAt
    {K : Type 0} (shown : K → Shown) (setting : Setting) (seen : Seen) (stream : Stream K)
    : Type 0 where
  pub answered : AreAnswers setting.limits (stand_of seen.lines)
      (option_map shown stream.kernel) seen.answers
  pub followed : IsFollowed setting.check stream.follower (option_map shown stream.kernel)
  pub each : list_all is_one_line seen.lines ≡ true
  pub last : is_one_line seen.rest ≡ true
  pub line : stream.line.items ≡ take (SCRIPT_LIMIT + 1) seen.rest
  pub number : stream.number ≡ (stand_of seen.lines).number
  pub good : stream.good ≡ is_good (stand_of seen.lines).asked

-- A part more of the input is taken, and this is the text of its answers.
pub record Takes
    {K : Type 0} (shown : K → Shown) (setting : Setting) (seen : Seen) (part text : List ℕ)
    (new : Stream K)
    : Type 0 where
  pub after : Seen
  pub more : List (Result Entry ScriptFault)
  pub at : IsAt shown setting after new
  pub input : input_of after ≡ input_of seen ++ part
  pub answers : after.answers ≡ seen.answers ++ more
  pub told : text ≡ text_from (position_of seen) more

-- The part is taken up to the line of which `next` is, and this is the text of the answers up to
-- it.
pub record TakesUpTo
    {K : Type 0} (shown : K → Shown) (setting : Setting) (seen : Seen) (part text : List ℕ)
    (number : ℕ) (next : List ℕ) (new : Stream K)
    : Type 0 where
  pub lines : List (List ℕ)
  pub more : List (Result Entry ScriptFault)
  pub begins : BeginsWith (input_of seen ++ part) lines next
  pub number_is : number ≡ (stand_of lines).number
  pub answered : AreAnswers setting.limits (stand_of lines)
      (option_map shown new.kernel) (seen.answers ++ more)
  pub told : text ≡ text_from (position_of seen) more

-- A fault stops the stream at that line.
pub record Stops
    {K : Type 0} (shown : K → Shown) (setting : Setting) (seen : Seen) (part text : List ℕ)
    (new : Stream K) (fault : StreamFault)
    : Type 0 where
  pub number : ℕ
  pub next : List ℕ
  pub taken : TakesUpTo shown setting seen part text number next new
  pub why : StopsAt number next (option_map shown new.kernel) fault

-- What comes of a part, whatever was seen before it.
abbrev pub ComesOf :
    {K : Type 0} → (K → Shown) → Setting → (part text : List ℕ) → (old new : Stream K)
    → Result (Unit {0}) StreamFault → Type 0
ComesOf shown setting part text old new result =
    (seen : Seen) → IsAt shown setting seen old
    → MatchResult result (λ _. Takes shown setting seen part text new)
    (Stops shown setting seen part text new)

-- The part, or its first lines, are taken, and the sink has failed while the text of their answers
-- was written.
pub record IsUnwritten
    {K : Type 0} (shown : K → Shown) (setting : Setting) (part : List ℕ) (old new : Stream K)
    (was now_holds : Option (List ℕ))
    : Type 0 where
  pub text : List ℕ
  pub part_of : IsPart was now_holds text
  pub taken : (seen : Seen) → IsAt shown setting seen old
      → (number : ℕ) × (next : List ℕ)
      × TakesUpTo shown setting seen part text number next new

-- The part is taken up to the line at which a fault stops the stream, and the answers up to it are
-- written.
pub record IsStopped
    {K : Type 0} (shown : K → Shown) (setting : Setting) (part : List ℕ) (old new : Stream K)
    (was now_holds : Option (List ℕ)) (fault : StreamFault)
    : Type 0 where
  pub text : List ℕ
  pub written : now_holds ≡ append_known was text
  pub stops : (seen : Seen) → IsAt shown setting seen old
      → Stops shown setting seen part text new fault

-- The part is taken, and its answers are written.
pub record IsTaken
    {K : Type 0} (shown : K → Shown) (setting : Setting) (part : List ℕ) (old new : Stream K)
    (was now_holds : Option (List ℕ))
    : Type 0 where
  pub text : List ℕ
  pub written : now_holds ≡ append_known was text
  pub takes : (seen : Seen) → IsAt shown setting seen old
      → Takes shown setting seen part text new

abbrev pub NotTaken :
    {K : Type 0} → (K → Shown) → Setting → List ℕ → (old new : Stream K)
    → (was now_holds : Option (List ℕ)) → StreamFault → Type 0
NotTaken shown setting part old new was now_holds stop.Write =
    IsUnwritten shown setting part old new was now_holds
NotTaken shown setting part old new was now_holds fault =
    IsStopped shown setting part old new was now_holds fault

-- How far a stream has come with its input: all whole lines are answered.
pub record HasCome
    {K : Type 0} (shown : K → Shown) (setting : Setting) (stream : Stream K)
    (given left old new : Option (List ℕ))
    : Type 0 where
  pub seen : Seen
  pub at : IsAt shown setting seen stream
  pub read : given ≡ prepend_known (input_of seen) left
  pub written : new ≡ append_known old (text_of seen.answers)
