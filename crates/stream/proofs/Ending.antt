-- A whole stream: where it begins, one part more, its end, and where it stops.
use Rattle.std.proofs.Common.{le_trans, ◌≡◌, ◌<◌, ◌≤◌, ◌-◌, ◌^◌, ℕ, ◌+◌, ◌&&◌, ◌==◌, List, [], ◌∷◌, ◌++◌, Bool, Option, Some, None, Result, Ok, Err, OnOk, OnErr, IfOk, IfErr, length, take, refl, ap, sym, ◌∙◌, subst, append_assoc, append-nil, arith, inl, inr}
use Rattle.std.specs.Prelude.{option_map, IfSome}
use Rattle.std.specs.Io.KnownBytes.{append_known, prepend_known, IsAtEnd}
use Rattle.std.proofs.lemmas.Bool.{ne_eqb}
use Rattle.std.proofs.lemmas.List.{length-append, length-take}
use Rattle.device.specs.Device.{IsPart}
use Rattle.device.proofs.Laws.{append_known-append_known, append_known-nil}
use Rattle.ids.specs.declared.entry.Entry.{Entry}
use Rattle.ids.specs.declared.limits.Limits.{Limits}
use Rattle.machine.specs.Shown.{Shown, Kept, limit_of, setup_of}
use Rattle.model.specs.Passing.{LegalHistoriesPass, Passes}
use Rattle.script.specs.declared.faults.ScriptFault.{ScriptFault}
use Rattle.script.specs.declared.limits.TheConstants.{SCRIPT_LIMIT}
use Rattle.stream.specs.Answers.{AreAnswers, IsMade, entries_in, fault_line, is_good, text_from, text_of}
use Rattle.stream.specs.Asked.{Stand, at_end, stand_of, unended_fault}
use Rattle.stream.specs.Heard.{IsFollowed, StopsAt}
use Rattle.stream.specs.Parts.{HasCome, IsStopped, IsTaken, IsUnwritten, NotTaken, Seen, TakesUpTo, input_of, position_of}
use Rattle.stream.specs.States.{IsFresh}
use Rattle.stream.specs.Streams.{AreAnswered, AreFirstAnswered, HasEnded, HasStopped, IsWhole, IsTooLong, StopsBefore, StopsInPart, rest_text, verdict}
use Rattle.stream.specs.declared.fault.StreamFault.{StreamFault}
use Rattle.stream.specs.declared.fault.StreamFault.TheVariants.{Read, Write, HistoryFull, NoMemory, Check, Spent}
use Rattle.stream.specs.declared.state.Setting.{Setting}
use Rattle.stream.specs.declared.state.Stream.{Stream}
use Rattle.stream.proofs.Answering.{answers_none, fault_answers, text_from-append}
use Rattle.stream.proofs.Kept.{and_true, good-asked, unended_kept}

prepend-nil : (known : Option (List ℕ)) → known ≡ prepend_known [] known
prepend-nil None = refl
prepend-nil (Some xs) = refl

prepend-prepend : (known : Option (List ℕ)) (s t : List ℕ) → prepend_known s (prepend_known t known) ≡ prepend_known (s ++ t) known
prepend-prepend None s t = refl
prepend-prepend (Some xs) s t = ap Some (sym (append_assoc s t xs))

-- before anything has come
pub come_none : {K : Type 0} (shown : K → Shown) (setting : Setting) (stream : Stream K) (given old : Option (List ℕ))
    → IsFresh stream → HasCome shown setting stream given given old old
come_none {K} shown setting stream given old fresh = record {
  seen = record { lines = []; rest = []; answers = [] };
  at = record {
    answered = subst (λ (k : Option K). AreAnswers setting.limits (stand_of []) (option_map shown k) []) (sym fresh.kernel)
        (record { made = tt; asked = refl; entries = refl });
    followed = subst (λ (k : Option K). IsFollowed setting.check stream.follower (option_map shown k)) (sym fresh.kernel) fresh.follower;
    each = refl;
    last = refl;
    line = fresh.line;
    number = fresh.number;
    good = fresh.good;
  };
  read = prepend-nil given;
  written = sym (append_known-nil old);
}

-- the text of all answers, with those to a part more
written_more : (seen : Seen) (more : List (Result Entry ScriptFault)) (text : List ℕ) (old mid new : Option (List ℕ))
    → mid ≡ append_known old (text_of seen.answers) → new ≡ append_known mid text → text ≡ text_from (position_of seen) more
    → new ≡ append_known old (text_of (seen.answers ++ more))
written_more seen more text old mid new before now_is told =
    let position : position_of seen ≡ 1 + length (entries_in seen.answers) = omega arith in
    now_is
    ∙ ap (λ (k : Option (List ℕ)). append_known k text) before
    ∙ append_known-append_known old (text_of seen.answers) text
    ∙ ap (λ (t : List ℕ). append_known old (text_of seen.answers ++ t)) (told ∙ ap (λ (p : ℕ). text_from p more) position)
    ∙ ap (λ (t : List ℕ). append_known old t) (sym (text_from-append 1 seen.answers more))

-- a part more
pub come_more : {K : Type 0} (shown : K → Shown) (setting : Setting) (mid new : Stream K) (given between left old was now_holds : Option (List ℕ)) (part : List ℕ)
    → HasCome shown setting mid given between old was → between ≡ prepend_known part left → IsTaken shown setting part mid new was now_holds
    → HasCome shown setting new given left old now_holds
come_more shown setting mid new given between left old was now_holds part come gave taken =
    let takes = taken.takes come.seen come.at in
    record {
      seen = takes.after;
      at = takes.at;
      read =
          come.read
          ∙ ap (λ (k : Option (List ℕ)). prepend_known (input_of come.seen) k) gave
          ∙ prepend-prepend left (input_of come.seen) part
          ∙ ap (λ (xs : List ℕ). prepend_known xs left) (sym takes.input);
      written =
          written_more come.seen takes.more taken.text old was now_holds come.written taken.written takes.told
          ∙ ap (λ (all : List (Result Entry ScriptFault)). append_known old (text_of all)) (sym takes.answers);
    }

-- a read that gives some bytes
pub some_read : (count : ℕ) (buffer : List ℕ) → count ≤ length buffer → (count ≡ 0 → ⊥) → 0 < length (take count buffer)
some_read count buffer fits some = omega (arith, length-take count buffer)

-- a part more, which is not empty
pub come_longer : {K : Type 0} (shown : K → Shown) (setting : Setting) (mid new : Stream K) (given between left old was now_holds : Option (List ℕ)) (part : List ℕ) (reads : ℕ)
    → ((come : HasCome shown setting mid given between old was) × (reads ≤ length (input_of come.seen)))
    → between ≡ prepend_known part left → IsTaken shown setting part mid new was now_holds → 0 < length part
    → (come : HasCome shown setting new given left old now_holds) × (reads + 1 ≤ length (input_of come.seen))
unfolding come_more
come_longer shown setting mid new given between left old was now_holds part reads so_far gave taken some =
    let come = so_far.0 in
    let enough = so_far.1 in
    let more = ap (λ (bs : List ℕ). length bs) (taken.takes come.seen come.at).input ∙ length-append (input_of come.seen) part in
    (come_more shown setting mid new given between left old was now_holds part come gave taken, omega arith)

-- all that has come is answered
pub come_answered : {K : Type 0} (shown : K → Shown) (setting : Setting) (stream : Stream K) (given left old new : Option (List ℕ))
    → HasCome shown setting stream given left old new → AreAnswered setting.limits given left old new
come_answered shown setting stream given left old new come = record {
  input = input_of come.seen;
  lines = come.seen.lines;
  rest = come.seen.rest;
  kernel = option_map shown stream.kernel;
  answers = come.seen.answers;
  read = come.read;
  cut = record { whole = refl; each = come.at.each; last = come.at.last };
  answered = come.at.answered;
  written = come.written;
}

-- an input that is too long to count its reads
pub come_too_long : {K : Type 0} (shown : K → Shown) (setting : Setting) (stream : Stream K) (given left old new : Option (List ℕ)) (reads : ℕ)
    → ((come : HasCome shown setting stream given left old new) × (reads ≤ length (input_of come.seen))) → 2 ^ 64 - 1 ≤ reads → IsTooLong setting.limits given left old new
unfolding come_answered
come_too_long shown setting stream given left old new reads so_far all = record {
  answered = come_answered shown setting stream given left old new so_far.0;
  long = le_trans all so_far.1;
}

first_answered : {K : Type 0} (shown : K → Shown) (setting : Setting) (mid new : Stream K) (given between left old was : Option (List ℕ)) (part text next : List ℕ) (number : ℕ)
    → (come : HasCome shown setting mid given between old was) → between ≡ prepend_known part left
    → (taken : TakesUpTo shown setting come.seen part text number next new)
    → AreFirstAnswered setting.limits given left number next (option_map shown new.kernel) (come.seen.answers ++ taken.more)
first_answered shown setting mid new given between left old was part text next number come gave taken = record {
  input = input_of come.seen ++ part;
  lines = taken.lines;
  read =
      come.read
      ∙ ap (λ (k : Option (List ℕ)). prepend_known (input_of come.seen) k) gave
      ∙ prepend-prepend left (input_of come.seen) part;
  begins = taken.begins;
  number_is = taken.number_is;
  answered = taken.answered;
}

stops_before : {K : Type 0} (shown : K → Shown) (setting : Setting) (mid new : Stream K) (given between left old was now_holds : Option (List ℕ)) (part : List ℕ) (why : StreamFault)
    → (come : HasCome shown setting mid given between old was) → between ≡ prepend_known part left → IsStopped shown setting part mid new was now_holds why
    → StopsBefore setting.limits given left old now_holds why
stops_before shown setting mid new given between left old was now_holds part why come gave stopped =
    let stops = stopped.stops come.seen come.at in
    record {
      number = stops.number;
      next = stops.next;
      kernel = option_map shown new.kernel;
      answers = come.seen.answers ++ stops.taken.more;
      first = first_answered shown setting mid new given between left old was part stopped.text stops.next stops.number come gave stops.taken;
      written = written_more come.seen stops.taken.more stopped.text old was now_holds come.written stopped.written stops.taken.told;
      why = stops.why;
    }

-- a beginning of the text of a part more is a beginning of the text of all
part_more : (seen : Seen) (more : List (Result Entry ScriptFault)) (text : List ℕ) (old was now_holds : Option (List ℕ))
    → was ≡ append_known old (text_of seen.answers) → IsPart was now_holds text → text ≡ text_from (position_of seen) more
    → IsPart old now_holds (text_of (seen.answers ++ more))
part_more seen more text old was now_holds before p told =
    let position : position_of seen ≡ 1 + length (entries_in seen.answers) = omega arith in
    record {
      front = text_of seen.answers ++ p.front;
      back = p.back;
      whole =
          text_from-append 1 seen.answers more
          ∙ ap (λ (t : List ℕ). text_of seen.answers ++ t) (ap (λ (q : ℕ). text_from q more) (sym position) ∙ sym told ∙ p.whole)
          ∙ sym (append_assoc (text_of seen.answers) p.front p.back);
      appended = p.appended ∙ ap (λ (k : Option (List ℕ)). append_known k p.front) before ∙ append_known-append_known old (text_of seen.answers) p.front;
    }

stops_in_part : {K : Type 0} (shown : K → Shown) (setting : Setting) (mid new : Stream K) (given between left old was now_holds : Option (List ℕ)) (part : List ℕ)
    → (come : HasCome shown setting mid given between old was) → between ≡ prepend_known part left → IsUnwritten shown setting part mid new was now_holds
    → StopsInPart setting.limits given left old now_holds
stops_in_part shown setting mid new given between left old was now_holds part come gave unwritten =
    let upto = unwritten.taken come.seen come.at in
    let taken = upto.2 in
    record {
      number = upto.0;
      next = upto.1;
      kernel = option_map shown new.kernel;
      answers = come.seen.answers ++ taken.more;
      first = first_answered shown setting mid new given between left old was part unwritten.text upto.1 upto.0 come gave taken;
      part = part_more come.seen taken.more unwritten.text old was now_holds come.written unwritten.part_of taken.told;
    }

-- no line is stopped at by a read
no_read : (number : ℕ) (next : List ℕ) (kernel : Option Shown) → StopsAt number next kernel Read → ⊥
no_read number next None h = h
no_read number next (Some kernel) h = h

-- a fault in a part more
pub come_stopped : {K : Type 0} (shown : K → Shown) (setting : Setting) (mid new : Stream K) (given between left old was now_holds : Option (List ℕ)) (part : List ℕ) (why : StreamFault)
    → HasCome shown setting mid given between old was → between ≡ prepend_known part left → NotTaken shown setting part mid new was now_holds why
    → HasStopped setting.limits setting.check given left old now_holds why
come_stopped {K} shown setting mid new given between left old was now_holds part Read come gave not =
    let stops = not.stops come.seen come.at in
    absurd (no_read stops.number stops.next (option_map shown new.kernel) stops.why)
come_stopped shown setting mid new given between left old was now_holds part Write come gave not =
    inl (stops_in_part shown setting mid new given between left old was now_holds part come gave not)
come_stopped shown setting mid new given between left old was now_holds part HistoryFull come gave not =
    stops_before shown setting mid new given between left old was now_holds part HistoryFull come gave not
come_stopped shown setting mid new given between left old was now_holds part NoMemory come gave not =
    stops_before shown setting mid new given between left old was now_holds part NoMemory come gave not
come_stopped shown setting mid new given between left old was now_holds part (Check position) come gave not =
    stops_before shown setting mid new given between left old was now_holds part (Check position) come gave not
come_stopped shown setting mid new given between left old was now_holds part Spent come gave not =
    inr (stops_before shown setting mid new given between left old was now_holds part Spent come gave not)

-- no part is stopped at by a read
pub taken_no_read : {K : Type 0} (shown : K → Shown) (setting : Setting) (mid new : Stream K) (given left old was now_holds : Option (List ℕ)) (part : List ℕ) (why : StreamFault)
    → HasCome shown setting mid given left old was → NotTaken shown setting part mid new was now_holds why → why ≡ Read → ⊥
taken_no_read {K} shown setting mid new given left old was now_holds part why come not is =
    let stopped : IsStopped shown setting part mid new was now_holds Read = subst (λ (w : StreamFault). NotTaken shown setting part mid new was now_holds w) is not in
    let stops = stopped.stops come.seen come.at in
    no_read stops.number stops.next (option_map shown new.kernel) stops.why

-- what is answered at the end of the input
record AnsweredAtEnd
    (limits : Limits) (stand : Stand) (rest kept : List ℕ) (kernel : Option Shown) (answers : List (Result Entry ScriptFault))
    : Type 0 where
  more : List (Result Entry ScriptFault)
  answered : AreAnswers limits (at_end stand rest) kernel (answers ++ more)
  told : (position : ℕ) → rest_text stand.number kept ≡ text_from position more
  good : is_good (at_end stand rest).asked ≡ (is_good stand.asked && (length kept == 0))

answered_at_end : (limits : Limits) (stand : Stand) (rest kept : List ℕ) (kernel : Option Shown) (answers : List (Result Entry ScriptFault))
    → kept ≡ take (SCRIPT_LIMIT + 1) rest → AreAnswers limits stand kernel answers → AnsweredAtEnd limits stand rest kept kernel answers
answered_at_end limits stand [] kept kernel answers e a = record {
  more = [];
  answered = answers_none limits stand kernel answers a;
  told = λ position. ap (λ (xs : List ℕ). rest_text stand.number xs) e;
  good = sym (and_true (is_good stand.asked)) ∙ ap (λ (xs : List ℕ). is_good stand.asked && (length xs == 0)) (sym e);
}
answered_at_end limits stand (b ∷ bs) kept kernel answers e a =
    let why : ScriptFault = unended_fault stand.number (b ∷ bs) in
    record {
      more = Err why ∷ [];
      answered = fault_answers limits stand kernel answers why a;
      told = λ position.
          ap (λ (xs : List ℕ). rest_text stand.number xs) e
          ∙ ap fault_line (unended_kept stand.number (b ∷ bs))
          ∙ sym (append-nil (fault_line why));
      good =
          good-asked stand.asked (Err why)
          ∙ ap (λ (t : Bool). is_good stand.asked && t) (sym (ne_eqb (length (b ∷ take SCRIPT_LIMIT bs)) 0 (λ none. absurd (omega arith))))
          ∙ ap (λ (xs : List ℕ). is_good stand.asked && (length xs == 0)) (sym e);
    }

legal_of : (priorities : Option (List ℕ)) (limits : Limits) (kernel : Shown) → IsMade priorities limits (Some kernel) → Kept kernel
legal_of None limits kernel made = absurd made
legal_of (Some priorities) limits kernel made = made.kept

passes_of : (priorities : Option (List ℕ)) (limits : Limits) (kernel : Option Shown) → LegalHistoriesPass → IsMade priorities limits kernel
    → IfSome kernel (λ k. Passes 0 (setup_of k.log) k.log.entries)
passes_of priorities limits None law made = tt
passes_of priorities limits (Some kernel) law made =
    law 0 (setup_of kernel.log) (limit_of kernel.log) kernel.log.entries (legal_of priorities limits kernel made).legal

end_is_whole : {K : Type 0} (shown : K → Shown) (setting : Setting) (stream : Stream K) (given left old was : Option (List ℕ)) (good : Bool)
    → (come : HasCome shown setting stream given left old was) → IsAtEnd left
    → (done : AnsweredAtEnd setting.limits (stand_of come.seen.lines) come.seen.rest stream.line.items (option_map shown stream.kernel) come.seen.answers)
    → good ≡ (stream.good && (length stream.line.items == 0))
    → IsWhole setting.limits given left good (option_map shown stream.kernel) (come.seen.answers ++ done.more)
end_is_whole shown setting stream given left old was good come over done is_good_now = record {
  input = input_of come.seen;
  lines = come.seen.lines;
  rest = come.seen.rest;
  read = come.read;
  over = over;
  cut = record { whole = refl; each = come.at.each; last = come.at.last };
  answered = done.answered;
  good_is = is_good_now ∙ ap (λ (b : Bool). b && (length stream.line.items == 0)) come.at.good ∙ sym done.good;
}

end_text : (seen : Seen) (more : List (Result Entry ScriptFault)) (number : ℕ) (kept : List ℕ) (check : Bool)
    → ((position : ℕ) → rest_text number kept ≡ text_from position more) → text_of seen.answers ++ (rest_text number kept ++ verdict check) ≡ text_of (seen.answers ++ more) ++ verdict check
end_text seen more number kept check told =
    sym (append_assoc (text_of seen.answers) (rest_text number kept) (verdict check))
    ∙ ap (λ (t : List ℕ). (text_of seen.answers ++ t) ++ verdict check) (told (1 + length (entries_in seen.answers)))
    ∙ ap (λ (t : List ℕ). t ++ verdict check) (sym (text_from-append 1 seen.answers more))

-- the end of the input, where all is written
pub come_ended : {K : Type 0} (shown : K → Shown) (setting : Setting) (stream : Stream K) (given left old was now_holds : Option (List ℕ)) (good : Bool)
    → LegalHistoriesPass → HasCome shown setting stream given left old was → IsAtEnd left
    → good ≡ (stream.good && (length stream.line.items == 0)) → now_holds ≡ append_known was (rest_text stream.number stream.line.items ++ verdict setting.check)
    → HasEnded setting.limits setting.check given left old now_holds good
come_ended shown setting stream given left old was now_holds good law come over is_good_now written =
    let stand : Stand = stand_of come.seen.lines in
    let kernel : Option Shown = option_map shown stream.kernel in
    let done = answered_at_end setting.limits stand come.seen.rest stream.line.items kernel come.seen.answers come.at.line come.at.answered in
    let told : (position : ℕ) → rest_text stream.number stream.line.items ≡ text_from position done.more =
    λ position. ap (λ (n : ℕ). rest_text n stream.line.items) come.at.number ∙ done.told position in
    record {
      kernel = kernel;
      answers = come.seen.answers ++ done.more;
      whole = end_is_whole shown setting stream given left old was good come over done is_good_now;
      written =
          written
          ∙ ap (λ (k : Option (List ℕ)). append_known k (rest_text stream.number stream.line.items ++ verdict setting.check)) come.written
          ∙ append_known-append_known old (text_of come.seen.answers) (rest_text stream.number stream.line.items ++ verdict setting.check)
          ∙ ap (λ (t : List ℕ). append_known old t) (end_text come.seen done.more stream.number stream.line.items setting.check told);
      passes = λ _. passes_of stand.priorities setting.limits kernel law come.at.answered.made;
    }

-- the end of the input, where a beginning is written
pub come_ended_in_part : {K : Type 0} (shown : K → Shown) (setting : Setting) (stream : Stream K) (given left old was now_holds : Option (List ℕ))
    → HasCome shown setting stream given left old was → IsAtEnd left
    → IsPart was now_holds (rest_text stream.number stream.line.items ++ verdict setting.check)
    → HasStopped setting.limits setting.check given left old now_holds Write
come_ended_in_part shown setting stream given left old was now_holds come over part =
    let stand : Stand = stand_of come.seen.lines in
    let kernel : Option Shown = option_map shown stream.kernel in
    let done = answered_at_end setting.limits stand come.seen.rest stream.line.items kernel come.seen.answers come.at.line come.at.answered in
    let told : (position : ℕ) → rest_text stream.number stream.line.items ≡ text_from position done.more =
    λ position. ap (λ (n : ℕ). rest_text n stream.line.items) come.at.number ∙ done.told position in
    let good : Bool = stream.good && (length stream.line.items == 0) in
    inr (record {
      good = good;
      kernel = kernel;
      answers = come.seen.answers ++ done.more;
      whole = end_is_whole shown setting stream given left old was good come over done refl;
      part = record {
        front = text_of come.seen.answers ++ part.front;
        back = part.back;
        whole =
            sym (end_text come.seen done.more stream.number stream.line.items setting.check told)
            ∙ ap (λ (t : List ℕ). text_of come.seen.answers ++ t) part.whole
            ∙ sym (append_assoc (text_of come.seen.answers) part.front part.back);
        appended =
            part.appended
            ∙ ap (λ (k : Option (List ℕ)). append_known k part.front) come.written
            ∙ append_known-append_known old (text_of come.seen.answers) part.front;
      };
    })

-- a read that gives nothing
pub come_still : {K : Type 0} (shown : K → Shown) (setting : Setting) (stream : Stream K) (given left later old new : Option (List ℕ))
    → HasCome shown setting stream given left old new → left ≡ prepend_known [] later → HasCome shown setting stream given later old new
come_still shown setting stream given left later old new come e = record {
  seen = come.seen;
  at = come.at;
  read =
      come.read
      ∙ ap (λ (k : Option (List ℕ)). prepend_known (input_of come.seen) k) e
      ∙ prepend-prepend later (input_of come.seen) []
      ∙ ap (λ (xs : List ℕ). prepend_known xs later) (append-nil (input_of come.seen));
  written = come.written;
}

-- what is answered at the end of the input, whatever the sink does
pub ended_ok : {K : Type 0} (shown : K → Shown) (setting : Setting) (stream : Stream K) (given left old was now_holds : Option (List ℕ)) (r : Result Bool StreamFault)
    → LegalHistoriesPass → HasCome shown setting stream given left old was → IsAtEnd left
    → IfOk r (λ good. good ≡ (stream.good && (length stream.line.items == 0)))
    → OnOk r (now_holds ≡ append_known was (rest_text stream.number stream.line.items ++ verdict setting.check))
    → IfOk r (HasEnded setting.limits setting.check given left old now_holds)
ended_ok shown setting stream given left old was now_holds (Ok good) law come over is_good_now written =
    come_ended shown setting stream given left old was now_holds good law come over is_good_now written
ended_ok shown setting stream given left old was now_holds (Err why) law come over is_good_now written = tt

pub ended_err : {K : Type 0} (shown : K → Shown) (setting : Setting) (stream : Stream K) (given left old was now_holds : Option (List ℕ)) (r : Result Bool StreamFault)
    → HasCome shown setting stream given left old was → IsAtEnd left
    → IsPart was now_holds (rest_text stream.number stream.line.items ++ verdict setting.check) → OnErr r (r ≡ Err Write)
    → IfErr r (HasStopped setting.limits setting.check given left old now_holds)
ended_err shown setting stream given left old was now_holds (Ok good) come over part only = tt
ended_err shown setting stream given left old was now_holds (Err why) come over part only =
    subst (λ (z : Result Bool StreamFault). IfErr z (HasStopped setting.limits setting.check given left old now_holds)) (sym only)
    (come_ended_in_part shown setting stream given left old was now_holds come over part)

-- what holds of a result whose only error is Write
pub only_write : {A P : Type 0} (r : Result A StreamFault) → OnErr r (r ≡ Err Write) → OnOk r P → (r ≡ Err Write → ⊥) → P
only_write (Ok x) only holds other = holds
only_write (Err why) only holds other = absurd (other only)

pub at_write : {A P : Type 0} (r : Result A StreamFault) → OnErr r P → r ≡ Err Write → P
at_write {A} {P} r holds e = subst (λ (z : Result A StreamFault). OnErr z P) e holds

pub no_read_of : {A : Type 0} (r : Result A StreamFault) → OnErr r (r ≡ Err Write) → r ≡ Err Read → ⊥
no_read_of (Ok x) only e = cc e
no_read_of (Err why) only e = cc (sym e ∙ only)
