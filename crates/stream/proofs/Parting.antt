-- A part of an input, byte by byte.
use Rattle.std.proofs.Common.{◌≡◌, ℕ, ◌+◌, ◌<◌, ◌≤◌, ◌==◌, ◌&&◌, List, [], ◌∷◌, ◌++◌, Bool, false, not, Option, Some, None, Result, Ok, Err, length, take, refl, ap, ap₂, sym, ◌∙◌, subst, append_assoc, append-nil, arith}
use Rattle.std.specs.Prelude.{option_map, flat_map, IfErr, OnOk, MatchResult}
use Rattle.std.specs.Io.KnownBytes.{append_known}
use Rattle.device.specs.Device.{IsPart}
use Rattle.std.proofs.lemmas.Bool.{ne_eqb}
use Rattle.std.proofs.lemmas.List.{length-append}
use Rattle.ids.specs.declared.entry.Entry.{Entry}
use Rattle.machine.specs.Shown.{Shown}
use Rattle.script.specs.Characters.{newline}
use Rattle.script.specs.declared.faults.ScriptFault.{ScriptFault}
use Rattle.script.specs.declared.limits.TheConstants.{SCRIPT_LIMIT}
use Rattle.stream.specs.Answers.{AreAnswers, entries_in, is_good, text_from}
use Rattle.stream.specs.Asked.{Stand, behind_line, next_number, stand_of, beginning}
use Rattle.stream.specs.Heard.{IsFollowed, IsOfLine, IsTold, StopsAt, is_fault}
use Rattle.script.specs.Lines.{further_line_of}
use Rattle.stream.specs.Input.{BeginsWith, ended}
use Rattle.stream.specs.Parts.{ComesOf, IsAt, IsStopped, IsTaken, IsUnwritten, NotTaken, Seen, Stops, Takes, TakesUpTo, input_of, position_of}
use Rattle.stream.specs.States.{CannotSettle, IsHeard, IsNotHeard, IsNotSettled, IsSettled, StaysAlike}
use Rattle.stream.specs.declared.fault.StreamFault.{StreamFault}
use Rattle.stream.specs.declared.fault.StreamFault.TheVariants.{Read, Write, HistoryFull, NoMemory, Check, Spent}
use Rattle.stream.specs.declared.follower.Follower.{Follower}
use Rattle.stream.specs.declared.heard.Heard.{Heard}
use Rattle.stream.specs.declared.state.Setting.{Setting}
use Rattle.stream.specs.declared.state.Stream.{Stream}
use Rattle.stream.proofs.Answering.{alike_same, answered, answers_alike, answers_none, entries_in-append, text_from-append}
use Rattle.stream.proofs.Coming.{stops_settling}
use Rattle.stream.proofs.Kept.{comes_as, number-line, stand-line, stops_as}
use Rattle.stream.proofs.Lines.{each-line, input-byte, input-ended, kept-byte, kept-full, one_line-byte}

-- nothing more
pub Takes-none : {K : Type 0} (shown : K → Shown) (setting : Setting) (seen : Seen) (stream : Stream K)
    → IsAt shown setting seen stream → Takes shown setting seen [] [] stream
Takes-none shown setting seen stream at = record {
  after = seen;
  more = [];
  at = at;
  input = sym (append-nil (input_of seen));
  answers = sym (append-nil seen.answers);
  told = refl;
}

position_after : (seen after : Seen) (more : List (Result Entry ScriptFault)) → after.answers ≡ seen.answers ++ more → position_of after ≡ position_of seen + length (entries_in more)
position_after seen after more e =
    let longer : length (entries_in after.answers) ≡ length (entries_in seen.answers ++ entries_in more) =
    ap (λ (xs : List (Result Entry ScriptFault)). length (entries_in xs)) e ∙ ap (λ (es : List Entry). length es) (entries_in-append seen.answers more) in
    omega (arith, length-append (entries_in seen.answers) (entries_in more))

texts_join : (seen after : Seen) (more later : List (Result Entry ScriptFault)) (s t : List ℕ)
    → after.answers ≡ seen.answers ++ more → s ≡ text_from (position_of seen) more → t ≡ text_from (position_of after) later → s ++ t ≡ text_from (position_of seen) (more ++ later)
texts_join seen after more later s t e f g =
    ap₂ (λ (x y : List ℕ). x ++ y) f (g ∙ ap (λ (p : ℕ). text_from p later) (position_after seen after more e))
    ∙ sym (text_from-append (position_of seen) more later)

-- a part, and then another
pub Takes-then : {K : Type 0} (shown : K → Shown) (setting : Setting) (seen : Seen) (xs ys s t : List ℕ) (mid new : Stream K)
    → (first : Takes shown setting seen xs s mid) → Takes shown setting first.after ys t new → Takes shown setting seen (xs ++ ys) (s ++ t) new
Takes-then shown setting seen xs ys s t mid new first second = record {
  after = second.after;
  more = first.more ++ second.more;
  at = second.at;
  input = second.input ∙ ap (λ (bs : List ℕ). bs ++ ys) first.input ∙ append_assoc (input_of seen) xs ys;
  answers = second.answers ∙ ap (λ (all : List (Result Entry ScriptFault)). all ++ second.more) first.answers ∙ append_assoc seen.answers first.more second.more;
  told = texts_join seen first.after first.more second.more s t first.answers first.told second.told;
}

begins_then : (a b xs ys zs next : List ℕ) (lines : List (List ℕ)) → b ≡ a ++ xs → BeginsWith (b ++ ys) lines next → BeginsWith (a ++ (xs ++ (ys ++ zs))) lines next
begins_then a b xs ys zs next lines e begins = record {
  beyond = begins.beyond ++ zs;
  whole =
      sym (append_assoc a xs (ys ++ zs))
      ∙ ap (λ (bs : List ℕ). bs ++ (ys ++ zs)) (sym e)
      ∙ sym (append_assoc b ys zs)
      ∙ ap (λ (bs : List ℕ). bs ++ zs) begins.whole
      ∙ append_assoc (flat_map ended lines) (next ++ begins.beyond) zs
      ∙ ap (λ (bs : List ℕ). flat_map ended lines ++ bs) (append_assoc next begins.beyond zs);
  each = begins.each;
  last = begins.last;
}

-- a part, and then another in which a fault comes, with what is left behind it
pub Stops-then : {K : Type 0} (shown : K → Shown) (setting : Setting) (seen : Seen) (xs ys zs s t : List ℕ) (mid new : Stream K) (why : StreamFault)
    → (first : Takes shown setting seen xs s mid) → Stops shown setting first.after ys t new why → Stops shown setting seen (xs ++ (ys ++ zs)) (s ++ t) new why
Stops-then shown setting seen xs ys zs s t mid new why first second =
    let taken = second.taken in
    record {
      number = second.number;
      next = second.next;
      taken = record {
        lines = taken.lines;
        more = first.more ++ taken.more;
        begins = begins_then (input_of seen) (input_of first.after) xs ys zs second.next taken.lines first.input taken.begins;
        number_is = taken.number_is;
        answered = subst (λ (all : List (Result Entry ScriptFault)). AreAnswers setting.limits (stand_of taken.lines) (option_map shown new.kernel) all)
            (ap (λ (all : List (Result Entry ScriptFault)). all ++ taken.more) first.answers ∙ append_assoc seen.answers first.more taken.more) taken.answered;
        told = texts_join seen first.after first.more taken.more s t first.answers first.told taken.told;
      };
      why = second.why;
    }

-- what a byte leaves as it was
pub record SameBut {K : Type 0} (old new : Stream K) : Type 0 where
  pub kernel : new.kernel ≡ old.kernel
  pub follower : new.follower ≡ old.follower
  pub number : new.number ≡ old.number
  pub good : new.good ≡ old.good

-- a byte more of a line
pub Takes-byte : {K : Type 0} (shown : K → Shown) (setting : Setting) (seen : Seen) (b : ℕ) (old new : Stream K)
    → IsAt shown setting seen old → SameBut old new → (b == newline) ≡ false → new.line.items ≡ take (SCRIPT_LIMIT + 1) (seen.rest ++ b ∷ [])
    → Takes shown setting seen (b ∷ []) [] new
Takes-byte {K} shown setting seen b old new at same other line = record {
  after = record { lines = seen.lines; rest = seen.rest ++ b ∷ []; answers = seen.answers };
  more = [];
  at = record {
    answered = subst (λ (k : Option K). AreAnswers setting.limits (stand_of seen.lines) (option_map shown k) seen.answers) (sym same.kernel) at.answered;
    followed = subst (λ (k : Option K). IsFollowed setting.check new.follower (option_map shown k)) (sym same.kernel)
        (subst (λ (c : Option Follower). IsFollowed setting.check c (option_map shown old.kernel)) (sym same.follower) at.followed);
    each = at.each;
    last = one_line-byte seen.rest b at.last other;
    line = line;
    number = same.number ∙ at.number;
    good = same.good ∙ at.good;
  };
  input = input-byte seen.lines seen.rest b;
  answers = sym (append-nil seen.answers);
  told = refl;
}

memory_stops : (number : ℕ) (next : List ℕ) (kernel : Option Shown) → StopsAt number next kernel NoMemory
memory_stops number next None = tt
memory_stops number next (Some kernel) = tt

-- where nothing is done of what comes
pub Stops-here : {K : Type 0} (shown : K → Shown) (setting : Setting) (seen : Seen) (part : List ℕ) (old new : Stream K) (why : StreamFault)
    → IsAt shown setting seen old → StaysAlike (option_map shown old.kernel) (option_map shown new.kernel)
    → StopsAt old.number old.line.items (option_map shown new.kernel) why → Stops shown setting seen part [] new why
Stops-here shown setting seen part old new why at alike stops = record {
  number = (stand_of seen.lines).number;
  next = seen.rest;
  taken = record {
    lines = seen.lines;
    more = [];
    begins = record {
      beyond = part;
      whole = append_assoc (flat_map ended seen.lines) seen.rest part;
      each = at.each;
      last = at.last;
    };
    number_is = refl;
    answered = answers_none setting.limits (stand_of seen.lines) (option_map shown new.kernel) seen.answers
        (answers_alike setting.limits (stand_of seen.lines) (option_map shown old.kernel) (option_map shown new.kernel) seen.answers at.answered alike);
    told = refl;
  };
  why = stops_as old.number (stand_of seen.lines).number old.line.items seen.rest (option_map shown new.kernel) why at.number at.line stops;
}

-- the line has ended and is answered; what the stream has then
pub record Moved {K : Type 0} (mid new : Stream K) (what : Heard) : Type 0 where
  pub kernel : new.kernel ≡ mid.kernel
  pub follower : new.follower ≡ mid.follower
  pub line : new.line.items ≡ []
  pub number : new.number ≡ next_number mid.number
  pub good : new.good ≡ (mid.good && not (is_fault what))

-- a line more
pub Takes-line : {K : Type 0} (shown : K → Shown) (setting : Setting) (seen : Seen) (old mid new : Stream K) (what : Heard) (text : List ℕ)
    → IsAt shown setting seen old → IsHeard shown setting old mid what → IsTold what (option_map shown mid.kernel) text → Moved mid new what
    → Takes shown setting seen (newline ∷ []) text new
Takes-line {K} shown setting seen old mid new what text at heard told moved =
    let stand : Stand = stand_of seen.lines in
    let comes = comes_as old.number stand.number old.line.items seen.rest setting.limits (option_map shown old.kernel) (option_map shown mid.kernel) what at.number at.line heard.comes in
    let done = answered setting.limits stand seen.rest (option_map shown old.kernel) (option_map shown mid.kernel) seen.answers what text at.answered comes told in
    let lines : List (List ℕ) = seen.lines ++ seen.rest ∷ [] in
    let behind : stand_of lines ≡ behind_line stand seen.rest = stand-line beginning seen.lines seen.rest in
    let here = subst (λ (s : Stand). AreAnswers setting.limits s (option_map shown mid.kernel) (seen.answers ++ done.more)) (sym behind) done.answered in
    let followed = heard.followed at.followed in
    record {
      after = record { lines = lines; rest = []; answers = seen.answers ++ done.more };
      more = done.more;
      at = record {
        answered = subst (λ (k : Option K). AreAnswers setting.limits (stand_of lines) (option_map shown k) (seen.answers ++ done.more)) (sym moved.kernel) here;
        followed = subst (λ (k : Option K). IsFollowed setting.check new.follower (option_map shown k)) (sym moved.kernel)
            (subst (λ (c : Option Follower). IsFollowed setting.check c (option_map shown mid.kernel)) (sym moved.follower) followed);
        each = each-line seen.lines seen.rest at.each at.last;
        last = refl;
        line = moved.line;
        number =
            moved.number
            ∙ ap next_number (heard.same.number ∙ at.number)
            ∙ sym (number-line stand seen.rest)
            ∙ ap (λ (s : Stand). s.number) (sym behind);
        good =
            moved.good
            ∙ ap (λ (b : Bool). b && not (is_fault what)) (heard.same.good ∙ at.good)
            ∙ sym done.good
            ∙ ap (λ (s : Stand). is_good s.asked) (sym behind);
      };
      input = input-ended seen.lines seen.rest;
      answers = refl;
      told = done.told;
    }

-- a line that is not done
pub Stops-line : {K : Type 0} (shown : K → Shown) (setting : Setting) (seen : Seen) (old new : Stream K) (why : StreamFault)
    → IsAt shown setting seen old → IsNotHeard shown setting old new why → Stops shown setting seen (newline ∷ []) [] new why
Stops-line shown setting seen old new why at heard =
    Stops-here shown setting seen (newline ∷ []) old new why at heard.alike (heard.stops at.followed)

-- a byte for which memory is refused
pub Stops-byte : {K : Type 0} (shown : K → Shown) (setting : Setting) (seen : Seen) (b : ℕ) (old new : Stream K)
    → IsAt shown setting seen old → new.kernel ≡ old.kernel → Stops shown setting seen (b ∷ []) [] new NoMemory
Stops-byte {K} shown setting seen b old new at same =
    let alike : StaysAlike (option_map shown old.kernel) (option_map shown new.kernel) =
    subst (λ (k : Option K). StaysAlike (option_map shown old.kernel) (option_map shown k)) (sym same)
    (alike_same (stand_of seen.lines).priorities setting.limits (option_map shown old.kernel) at.answered.made) in
    Stops-here shown setting seen (b ∷ []) old new NoMemory at alike (memory_stops old.number old.line.items (option_map shown new.kernel))

-- a byte of a line of which enough is kept
pub Takes-full : {K : Type 0} (shown : K → Shown) (setting : Setting) (seen : Seen) (b : ℕ) (stream : Stream K)
    → IsAt shown setting seen stream → (b ≡ newline → ⊥) → SCRIPT_LIMIT < length stream.line.items → Takes shown setting seen (b ∷ []) [] stream
Takes-full shown setting seen b stream at other full =
    Takes-byte shown setting seen b stream stream at (record { kernel = refl; follower = refl; number = refl; good = refl }) (ne_eqb b newline other)
    (kept-full stream.line.items seen.rest b (SCRIPT_LIMIT + 1) at.line (omega arith))

-- a byte that is kept
pub Takes-kept : {K : Type 0} (shown : K → Shown) (setting : Setting) (seen : Seen) (b : ℕ) (old new : Stream K)
    → IsAt shown setting seen old → SameBut old new → (b ≡ newline → ⊥) → length old.line.items ≤ SCRIPT_LIMIT → new.line.items ≡ old.line.items ++ b ∷ []
    → Takes shown setting seen (b ∷ []) [] new
Takes-kept shown setting seen b old new at same other short line =
    Takes-byte shown setting seen b old new at same (ne_eqb b newline other)
    (line ∙ kept-byte old.line.items seen.rest b (SCRIPT_LIMIT + 1) at.line (omega arith))

-- what comes of a line feed comes of this byte
pub Comes-feed : {K : Type 0} (shown : K → Shown) (setting : Setting) (b : ℕ) (text : List ℕ) (old new : Stream K) (r : Result (Unit {0}) StreamFault)
    → b ≡ newline → ComesOf shown setting (newline ∷ []) text old new r → ComesOf shown setting (b ∷ []) text old new r
Comes-feed {K} shown setting b text old new r is comes =
    subst (λ (x : ℕ). ComesOf {K = K} shown setting (x ∷ []) text old new r) (sym is) comes

-- the same part and the same text, said in another way
pub Takes-as : {K : Type 0} (shown : K → Shown) (setting : Setting) (seen : Seen) (xs ys text : List ℕ) (new : Stream K)
    → Takes shown setting seen xs text new → xs ≡ ys → Takes shown setting seen ys text new
Takes-as {K} shown setting seen xs ys text new h e = subst (λ (part : List ℕ). Takes {K = K} shown setting seen part text new) e h

pub Stops-as : {K : Type 0} (shown : K → Shown) (setting : Setting) (seen : Seen) (xs ys text : List ℕ) (new : Stream K) (why : StreamFault)
    → Stops shown setting seen xs text new why → xs ≡ ys → Stops shown setting seen ys text new why
Stops-as {K} shown setting seen xs ys text new why h e = subst (λ (part : List ℕ). Stops {K = K} shown setting seen part text new why) e h

-- where what was done is forgotten
pub at_settled : {K : Type 0} (shown : K → Shown) (setting : Setting) (seen : Seen) (old new : Stream K)
    → IsAt shown setting seen old → IsSettled shown old new → IsAt shown setting seen new
at_settled shown setting seen old new at settled = record {
  answered = answers_alike setting.limits (stand_of seen.lines) (option_map shown old.kernel) (option_map shown new.kernel) seen.answers at.answered settled.alike;
  followed = settled.followed setting.check at.followed;
  each = at.each;
  last = at.last;
  line = settled.same.line ∙ at.line;
  number = settled.same.number ∙ at.number;
  good = settled.same.good ∙ at.good;
}

pub taken_settled : {K : Type 0} (shown : K → Shown) (setting : Setting) (part : List ℕ) (old mid new : Stream K) (was now_holds : Option (List ℕ))
    → IsTaken shown setting part old mid was now_holds → IsSettled shown mid new → IsTaken shown setting part old new was now_holds
taken_settled shown setting part old mid new was now_holds taken settled = record {
  text = taken.text;
  written = taken.written;
  takes = λ seen at.
      let first = taken.takes seen at in
      record {
        after = first.after;
        more = first.more;
        at = at_settled shown setting first.after mid new first.at settled;
        input = first.input;
        answers = first.answers;
        told = first.told;
      };
}

cannot_stop : (why : StreamFault) (number : ℕ) (next : List ℕ) (kernel : Option Shown) → CannotSettle kernel why → StopsAt number next kernel why
cannot_stop why number next None cannot = absurd cannot
cannot_stop why number next (Some kernel) cannot = stops_settling why (further_line_of number next) kernel cannot

stops_settled : {K : Type 0} (shown : K → Shown) (setting : Setting) (seen : Seen) (part text : List ℕ) (mid new : Stream K) (why : StreamFault)
    → Takes shown setting seen part text mid → IsNotSettled shown mid new why → Stops shown setting seen part text new why
stops_settled shown setting seen part text mid new why first stays =
    let after = first.after in
    let lines = after.lines in
    record {
      number = (stand_of lines).number;
      next = after.rest;
      taken = record {
        lines = lines;
        more = first.more;
        begins = record {
          beyond = [];
          whole = sym first.input ∙ ap (λ (bs : List ℕ). flat_map ended lines ++ bs) (sym (append-nil after.rest));
          each = first.at.each;
          last = first.at.last;
        };
        number_is = refl;
        answered = subst (λ (all : List (Result Entry ScriptFault)). AreAnswers setting.limits (stand_of lines) (option_map shown new.kernel) all) first.answers
            (answers_alike setting.limits (stand_of lines) (option_map shown mid.kernel) (option_map shown new.kernel) after.answers first.at.answered stays.alike);
        told = first.told;
      };
      why = cannot_stop why (stand_of lines).number after.rest (option_map shown new.kernel) (stays.fault setting.check first.at.followed);
    }

stopped_as : {K : Type 0} (shown : K → Shown) (setting : Setting) (part : List ℕ) (old new : Stream K) (was now_holds : Option (List ℕ)) (why : StreamFault)
    → IsOfLine why → IsStopped shown setting part old new was now_holds why → NotTaken shown setting part old new was now_holds why
stopped_as shown setting part old new was now_holds Read fine stopped = stopped
stopped_as shown setting part old new was now_holds Write fine stopped = absurd fine
stopped_as shown setting part old new was now_holds HistoryFull fine stopped = stopped
stopped_as shown setting part old new was now_holds NoMemory fine stopped = stopped
stopped_as shown setting part old new was now_holds (Check position) fine stopped = stopped
stopped_as shown setting part old new was now_holds Spent fine stopped = stopped

-- where it is not forgotten
pub taken_unsettled : {K : Type 0} (shown : K → Shown) (setting : Setting) (part : List ℕ) (old mid new : Stream K) (was now_holds : Option (List ℕ)) (why : StreamFault)
    → IsOfLine why → IsTaken shown setting part old mid was now_holds → IsNotSettled shown mid new why → NotTaken shown setting part old new was now_holds why
taken_unsettled shown setting part old mid new was now_holds why fine taken stays = stopped_as shown setting part old new was now_holds why fine (record {
  text = taken.text;
  written = taken.written;
  stops = λ seen at. stops_settled shown setting seen part taken.text mid new why (taken.takes seen at) stays;
})

-- a part that is taken and written, and what was done behind it
pub answered_ok : {K : Type 0} (shown : K → Shown) (setting : Setting) (part : List ℕ) (old mid new : Stream K) (was now_holds : Option (List ℕ)) (r : Result (Unit {0}) StreamFault)
    → IsTaken shown setting part old mid was now_holds → OnOk r (IsSettled shown mid new) → OnOk r (IsTaken shown setting part old new was now_holds)
answered_ok shown setting part old mid new was now_holds (Ok u) taken settled = taken_settled shown setting part old mid new was now_holds taken settled
answered_ok shown setting part old mid new was now_holds (Err why) taken settled = tt

pub answered_err : {K : Type 0} (shown : K → Shown) (setting : Setting) (part : List ℕ) (old mid new : Stream K) (was now_holds : Option (List ℕ)) (r : Result (Unit {0}) StreamFault)
    → IsTaken shown setting part old mid was now_holds → IfErr r IsOfLine → IfErr r (IsNotSettled shown mid new) → IfErr r (NotTaken shown setting part old new was now_holds)
answered_err shown setting part old mid new was now_holds (Ok u) taken fine stays = tt
answered_err shown setting part old mid new was now_holds (Err why) taken fine stays = taken_unsettled shown setting part old mid new was now_holds why fine taken stays

-- what comes of a part whose answers are written
pub told_ok : {K : Type 0} (shown : K → Shown) (setting : Setting) (part text : List ℕ) (old new : Stream K) (was now_holds : Option (List ℕ)) (r : Result (Unit {0}) StreamFault)
    → now_holds ≡ append_known was text → ComesOf shown setting part text old new r → OnOk r (IsTaken shown setting part old new was now_holds)
told_ok shown setting part text old new was now_holds (Ok u) written comes = record { text = text; written = written; takes = comes }
told_ok shown setting part text old new was now_holds (Err why) written comes = tt

pub told_err : {K : Type 0} (shown : K → Shown) (setting : Setting) (part text : List ℕ) (old new : Stream K) (was now_holds : Option (List ℕ)) (r : Result (Unit {0}) StreamFault)
    → now_holds ≡ append_known was text → ComesOf shown setting part text old new r → IfErr r IsOfLine → IfErr r (NotTaken shown setting part old new was now_holds)
told_err shown setting part text old new was now_holds (Ok u) written comes fine = tt
told_err shown setting part text old new was now_holds (Err why) written comes fine =
    stopped_as shown setting part old new was now_holds why fine (record { text = text; written = written; stops = comes })

takes_upto : {K : Type 0} (shown : K → Shown) (setting : Setting) (seen : Seen) (part text : List ℕ) (new : Stream K)
    → (first : Takes shown setting seen part text new) → TakesUpTo shown setting seen part text (stand_of first.after.lines).number first.after.rest new
takes_upto shown setting seen part text new first = record {
  lines = first.after.lines;
  more = first.more;
  begins = record {
    beyond = [];
    whole = sym first.input ∙ ap (λ (bs : List ℕ). flat_map ended first.after.lines ++ bs) (sym (append-nil first.after.rest));
    each = first.at.each;
    last = first.at.last;
  };
  number_is = refl;
  answered = subst (λ (all : List (Result Entry ScriptFault)). AreAnswers setting.limits (stand_of first.after.lines) (option_map shown new.kernel) all) first.answers first.at.answered;
  told = first.told;
}

upto_of : {K : Type 0} (shown : K → Shown) (setting : Setting) (seen : Seen) (part text : List ℕ) (new : Stream K) (r : Result (Unit {0}) StreamFault)
    → MatchResult r (λ _. Takes shown setting seen part text new) (Stops shown setting seen part text new)
    → (number : ℕ) × (next : List ℕ) × TakesUpTo shown setting seen part text number next new
upto_of shown setting seen part text new (Ok u) first = ((stand_of first.after.lines).number, first.after.rest, takes_upto shown setting seen part text new first)
upto_of shown setting seen part text new (Err why) stops = (stops.number, stops.next, stops.taken)

-- what comes of a part of whose answers a beginning is written
pub told_in_part : {K : Type 0} (shown : K → Shown) (setting : Setting) (part text : List ℕ) (old new : Stream K) (was now_holds : Option (List ℕ)) (r : Result (Unit {0}) StreamFault)
    → IsPart was now_holds text → ComesOf shown setting part text old new r → IsUnwritten shown setting part old new was now_holds
told_in_part shown setting part text old new was now_holds r beginning comes = record {
  text = text;
  part_of = beginning;
  taken = λ seen at. upto_of shown setting seen part text new r (comes seen at);
}
