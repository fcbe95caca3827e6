-- What is kept of a line tells what the line asks, and a list of lines that grows by one.
use Rattle.std.proofs.Common.{◌≡◌, ℕ, ◌+◌, ◌&&◌, List, [], ◌∷◌, ◌++◌, Bool, true, false, cond, Option, Some, None, Result, Ok, Err, is_ok, length, ◌==◌, true≢false, take, refl, ap, ◌∙◌, subst, arith}
use Rattle.std.proofs.lemmas.Bool.{eqb-true}
use Rattle.std.proofs.lemmas.List.Folds.{list_all-append}
use Rattle.ids.specs.declared.call.Op.{Op}
use Rattle.ids.specs.declared.limits.Limits.{Limits}
use Rattle.machine.specs.Shown.{Shown}
use Rattle.script.specs.Lines.{first_line_of, further_line_of, with_further, with_head}
use Rattle.script.specs.Scripts.{is_skipped, line_of, priorities_of, words_of}
use Rattle.script.specs.declared.limits.TheConstants.{SCRIPT_LIMIT}
use Rattle.script.specs.declared.read.Line.{Line}
use Rattle.script.specs.declared.faults.ScriptFault.{ScriptFault}
use Rattle.script.specs.declared.faults.ScriptFault.TheVariants.{LineTooLong, NotEnded}
use Rattle.stream.specs.Answers.{fault_line, is_good}
use Rattle.stream.specs.Asked.{Stand, behind_first, behind_further, behind_in, behind_line, next_number, stand_from, unended_fault}
use Rattle.stream.specs.Heard.{Comes, ComesFirst, ComesFurther, StopsAt, StopsFurther}
use Rattle.stream.specs.Streams.{rest_text}
use Rattle.stream.specs.declared.fault.StreamFault.{StreamFault}
use Rattle.stream.specs.declared.heard.Heard.{Heard}
use Rattle.stream.proofs.Lines.{long_line}

first_kept : (number : ℕ) (rest : List ℕ) → first_line_of number (take (SCRIPT_LIMIT + 1) rest) ≡ first_line_of number rest
first_kept number rest =
    let said : List ℕ → Result (Option (List ℕ)) ScriptFault = λ line. cond (is_skipped line) (Ok None) (with_head number (priorities_of (words_of line))) in
    long_line said (Err (LineTooLong number)) SCRIPT_LIMIT rest

further_kept : (number : ℕ) (rest : List ℕ) → further_line_of number (take (SCRIPT_LIMIT + 1) rest) ≡ further_line_of number rest
further_kept number rest =
    let said : List ℕ → Result (Option Line) ScriptFault = λ line. cond (is_skipped line) (Ok None) (with_further (line_of number (words_of line))) in
    long_line said (Err (LineTooLong number)) SCRIPT_LIMIT rest

comes_kept : (number : ℕ) (rest : List ℕ) (limits : Limits) (old new : Option Shown) (what : Heard)
    → Comes number (take (SCRIPT_LIMIT + 1) rest) limits old new what → Comes number rest limits old new what
comes_kept number rest limits None new what h =
    subst (λ (said : Result (Option (List ℕ)) ScriptFault). ComesFirst said limits new what) (first_kept number rest) h
comes_kept number rest limits (Some old) (Some new) what h =
    subst (λ (said : Result (Option Line) ScriptFault). ComesFurther said old new what) (further_kept number rest) h
comes_kept number rest limits (Some old) None what h = absurd h

stops_kept : (number : ℕ) (rest : List ℕ) (kernel : Option Shown) (why : StreamFault)
    → StopsAt number (take (SCRIPT_LIMIT + 1) rest) kernel why → StopsAt number rest kernel why
stops_kept number rest (Some kernel) why h =
    subst (λ (said : Result (Option Line) ScriptFault). StopsFurther said kernel why) (further_kept number rest) h
stops_kept number rest None why h = h

-- what a line came to, by its fields
pub comes_as : (n number : ℕ) (line rest : List ℕ) (limits : Limits) (old new : Option Shown) (what : Heard)
    → n ≡ number → line ≡ take (SCRIPT_LIMIT + 1) rest → Comes n line limits old new what → Comes number rest limits old new what
comes_as n number line rest limits old new what e f h =
    let here : Comes number line limits old new what = subst (λ (k : ℕ). Comes k line limits old new what) e h in
    comes_kept number rest limits old new what (subst (λ (l : List ℕ). Comes number l limits old new what) f here)

pub stops_as : (n number : ℕ) (line rest : List ℕ) (kernel : Option Shown) (why : StreamFault)
    → n ≡ number → line ≡ take (SCRIPT_LIMIT + 1) rest → StopsAt n line kernel why → StopsAt number rest kernel why
stops_as n number line rest kernel why e f h =
    let here : StopsAt number line kernel why = subst (λ (k : ℕ). StopsAt k line kernel why) e h in
    stops_kept number rest kernel why (subst (λ (l : List ℕ). StopsAt number l kernel why) f here)

-- the fault of a line that the input ends in, by what is kept of it
pub unended_kept : (number : ℕ) (rest : List ℕ) → unended_fault number (take (SCRIPT_LIMIT + 1) rest) ≡ unended_fault number rest
unended_kept number rest =
    let said : List ℕ → ScriptFault = λ line. NotEnded number in
    long_line said (LineTooLong number) SCRIPT_LIMIT rest

-- one line more
pub stand-line : (stand : Stand) (lines : List (List ℕ)) (line : List ℕ) → stand_from stand (lines ++ line ∷ []) ≡ behind_line (stand_from stand lines) line
stand-line stand [] line = refl
stand-line stand (l ∷ ls) line = stand-line (behind_line stand l) ls line

number_first : (stand : Stand) (said : Result (Option (List ℕ)) ScriptFault) → (behind_first stand said).number ≡ next_number stand.number
number_first stand (Err why) = refl
number_first stand (Ok None) = refl
number_first stand (Ok (Some priorities)) = refl

number_further : (stand : Stand) (said : Result (Option Line) ScriptFault) → (behind_further stand said).number ≡ next_number stand.number
number_further stand (Err why) = refl
number_further stand (Ok None) = refl
number_further stand (Ok (Some line)) = refl

number_in : (priorities : Option (List ℕ)) (stand : Stand) (line : List ℕ) → (behind_in priorities stand line).number ≡ next_number stand.number
number_in None stand line = number_first stand (first_line_of stand.number line)
number_in (Some priorities) stand line = number_further stand (further_line_of stand.number line)

-- the number goes on by one
pub number-line : (stand : Stand) (line : List ℕ) → (behind_line stand line).number ≡ next_number stand.number
number-line stand line = number_in stand.priorities stand line

pub and_true : (x : Bool) → (x && true) ≡ x
and_true true = refl
and_true false = refl

-- whether all is good, with one thing more that was asked
pub good-asked : (asked : List (Result (ℕ × Op) ScriptFault)) (ask : Result (ℕ × Op) ScriptFault) → is_good (asked ++ ask ∷ []) ≡ (is_good asked && is_ok ask)
good-asked asked ask =
    list_all-append (λ (a : Result (ℕ × Op) ScriptFault). is_ok a) asked (ask ∷ [])
    ∙ ap (λ (b : Bool). is_good asked && b) (and_true (is_ok ask))

-- the answer to what is kept of a line that has not ended
pub some_rest : (number : ℕ) (rest : List ℕ) (why : ScriptFault) → (length rest == 0) ≡ false → why ≡ unended_fault number rest → fault_line why ≡ rest_text number rest
some_rest number [] why some is = absurd (true≢false some)
some_rest number (b ∷ bs) why some is = ap fault_line is

pub no_rest : (number : ℕ) (rest : List ℕ) → (length rest == 0) ≡ true → [] ≡ rest_text number rest
no_rest number [] none = refl
no_rest number (b ∷ bs) none = absurd (omega (arith, eqb-true (length (b ∷ bs)) 0 none))
