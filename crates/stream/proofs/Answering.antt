-- Answers that grow by that to one line.
use Rattle.std.proofs.Common.{◌≡◌, ℕ, ◌+◌, ◌&&◌, List, [], ◌∷◌, ◌++◌, false, not, Option, Some, None, Result, Ok, Err, length, refl, ap, ap₂, sym, ◌∙◌, subst, append_assoc, append-nil, arith}
use Rattle.std.proofs.lemmas.List.{map_push}
use Rattle.ids.specs.declared.call.Op.{Op}
use Rattle.ids.specs.declared.entry.Entry.{Entry}
use Rattle.ids.specs.declared.limits.Limits.{Limits}
use Rattle.machine.specs.Shown.{Shown}
use Rattle.script.specs.declared.faults.ScriptFault.{ScriptFault}
use Rattle.transcript.specs.Line.{line_of}
use Rattle.stream.specs.Answers.{AreAnswers, IsKernelOf, IsMade, ask_of, entries_in, entries_of, fault_line, is_good, text_from}
use Rattle.stream.specs.Asked.{Stand, behind_first, behind_further, behind_line, with_asked, with_nothing, with_priorities}
use Rattle.stream.specs.Heard.{Comes, HasGrown, IsTold, is_fault}
use Rattle.stream.specs.States.{StaysAlike}
use Rattle.stream.specs.declared.heard.Heard.{Heard}
use Rattle.stream.specs.declared.heard.Heard.TheVariants as heard
use Rattle.stream.proofs.Forgotten.{grown_none}
use Rattle.stream.proofs.Kept.{and_true, good-asked}

pub entries_in-append : (xs ys : List (Result Entry ScriptFault)) → entries_in (xs ++ ys) ≡ entries_in xs ++ entries_in ys
entries_in-append [] ys = refl
entries_in-append (Ok e ∷ xs) ys = ap (λ (es : List Entry). e ∷ es) (entries_in-append xs ys)
entries_in-append (Err why ∷ xs) ys = entries_in-append xs ys

-- the text of some answers and of more
pub text_from-append : (position : ℕ) (xs ys : List (Result Entry ScriptFault)) → text_from position (xs ++ ys) ≡ text_from position xs ++ text_from (position + length (entries_in xs)) ys
text_from-append position [] ys = (let same : position ≡ position + 0 = omega arith in ap (λ (p : ℕ). text_from p ys) same)
text_from-append position (Ok e ∷ xs) ys =
    let same : position + 1 + length (entries_in xs) ≡ position + length (entries_in (Ok e ∷ xs)) = omega arith in
    ap (λ (t : List ℕ). line_of position e ++ t) (text_from-append (position + 1) xs ys)
    ∙ sym (append_assoc (line_of position e) (text_from (position + 1) xs) (text_from (position + 1 + length (entries_in xs)) ys))
    ∙ ap (λ (p : ℕ). (line_of position e ++ text_from (position + 1) xs) ++ text_from p ys) same
text_from-append position (Err why ∷ xs) ys =
    ap (λ (t : List ℕ). fault_line why ++ t) (text_from-append position xs ys)
    ∙ sym (append_assoc (fault_line why) (text_from position xs) (text_from (position + length (entries_in xs)) ys))

-- the same answers, said in another way
pub answers_none : (limits : Limits) (stand : Stand) (kernel : Option Shown) (answers : List (Result Entry ScriptFault))
    → AreAnswers limits stand kernel answers → AreAnswers limits stand kernel (answers ++ [])
answers_none limits stand kernel answers a = subst (λ (xs : List (Result Entry ScriptFault)). AreAnswers limits stand kernel xs) (sym (append-nil answers)) a

grown_is : (priorities : List ℕ) (limits : Limits) (old new : Shown) (more : List Entry) → IsKernelOf priorities limits old → HasGrown old new more → IsKernelOf priorities limits new
grown_is priorities limits old new more k g = record {
  kept = g.sound;
  same_priorities = g.same_priorities ∙ k.same_priorities;
  same_limit = g.same_limit ∙ k.same_limit;
  same_bounds = g.same_bounds ∙ k.same_bounds;
}

made_alike : (priorities : Option (List ℕ)) (limits : Limits) (old new : Option Shown) → IsMade priorities limits old → StaysAlike old new → IsMade priorities limits new
made_alike None limits None None made alike = tt
made_alike None limits (Some old) new made alike = absurd made
made_alike None limits None (Some new) made alike = absurd alike
made_alike (Some priorities) limits None new made alike = absurd made
made_alike (Some priorities) limits (Some old) None made alike = absurd alike
made_alike (Some priorities) limits (Some old) (Some new) made alike = grown_is priorities limits old new [] made alike

entries_alike : (old new : Option Shown) → StaysAlike old new → entries_of old ≡ entries_of new
entries_alike None None alike = refl
entries_alike None (Some new) alike = absurd alike
entries_alike (Some old) None alike = absurd alike
entries_alike (Some old) (Some new) alike = sym (alike.entries ∙ append-nil old.log.entries)

-- a kernel that has made no entry has the same answers
pub answers_alike : (limits : Limits) (stand : Stand) (old new : Option Shown) (answers : List (Result Entry ScriptFault))
    → AreAnswers limits stand old answers → StaysAlike old new → AreAnswers limits stand new answers
answers_alike limits stand old new answers a alike = record {
  made = made_alike stand.priorities limits old new a.made alike;
  asked = a.asked;
  entries = a.entries ∙ entries_alike old new alike;
}

-- a kernel that is as it was
pub alike_same : (priorities : Option (List ℕ)) (limits : Limits) (kernel : Option Shown) → IsMade priorities limits kernel → StaysAlike kernel kernel
alike_same priorities limits None made = tt
alike_same None limits (Some kernel) made = absurd made
alike_same (Some priorities) limits (Some kernel) made = grown_none kernel made.kept

-- what the answer to one line is
pub record Answered
    (limits : Limits) (stand : Stand) (line : List ℕ) (kernel : Option Shown)
    (answers : List (Result Entry ScriptFault)) (what : Heard) (text : List ℕ)
    : Type 0 where
  pub more : List (Result Entry ScriptFault)
  pub answered : AreAnswers limits (behind_line stand line) kernel (answers ++ more)
  pub told : text ≡ text_from (length (entries_in answers) + 1) more
  pub good : is_good (behind_line stand line).asked ≡ (is_good stand.asked && not (is_fault what))

by_stand : (limits : Limits) (stand next : Stand) (line : List ℕ) (kernel : Option Shown) (answers more : List (Result Entry ScriptFault)) (what : Heard) (text : List ℕ)
    → behind_line stand line ≡ next → AreAnswers limits next kernel (answers ++ more) → text ≡ text_from (length (entries_in answers) + 1) more
    → is_good next.asked ≡ (is_good stand.asked && not (is_fault what)) → Answered limits stand line kernel answers what text
by_stand limits stand next line kernel answers more what text e a told good = record {
  more = more;
  answered = subst (λ (s : Stand). AreAnswers limits s kernel (answers ++ more)) (sym e) a;
  told = told;
  good = ap (λ (s : Stand). is_good s.asked) e ∙ good;
}

pub fault_answers : (limits : Limits) (stand : Stand) (kernel : Option Shown) (answers : List (Result Entry ScriptFault)) (why : ScriptFault)
    → AreAnswers limits stand kernel answers → AreAnswers limits (with_asked stand (Err why)) kernel (answers ++ Err why ∷ [])
fault_answers limits stand kernel answers why a = record {
  made = a.made;
  asked = map_push ask_of answers (Err why) ∙ ap (λ (xs : List (Result (ℕ × Op) ScriptFault)). xs ++ Err why ∷ []) a.asked;
  entries = entries_in-append answers (Err why ∷ []) ∙ append-nil (entries_in answers) ∙ a.entries;
}

operation_answers : (limits : Limits) (stand : Stand) (old new : Shown) (answers : List (Result Entry ScriptFault)) (entry : Entry) (pid : ℕ) (op : Op)
    → AreAnswers limits stand (Some old) answers → HasGrown old new (entry ∷ []) → IsMade stand.priorities limits (Some new)
    → entry.pid ≡ pid → entry.op ≡ op
    → AreAnswers limits (with_asked stand (Ok (pid, op))) (Some new) (answers ++ Ok entry ∷ [])
operation_answers limits stand old new answers entry pid op a g made p o = record {
  made = made;
  asked =
      map_push ask_of answers (Ok entry)
      ∙ ap₂ (λ (xs : List (Result (ℕ × Op) ScriptFault)) (x : Result (ℕ × Op) ScriptFault). xs ++ x ∷ []) a.asked
      (ap₂ (λ (q : ℕ) (r : Op). let ask : Result (ℕ × Op) ScriptFault = Ok (q, r) in ask) p o);
  entries =
      entries_in-append answers (Ok entry ∷ [])
      ∙ ap (λ (es : List Entry). es ++ entry ∷ []) a.entries
      ∙ sym g.entries;
}

good_as : (asked : List (Result (ℕ × Op) ScriptFault)) → is_good asked ≡ (is_good asked && not false)
good_as asked = sym (and_true (is_good asked))

abbrev stand_with : ℕ → Option (List ℕ) → List (Result (ℕ × Op) ScriptFault) → Stand
stand_with number priorities asked = record { number = number; priorities = priorities; asked = asked }

-- the answer to a line before there are priorities
first_answered : (limits : Limits) (number : ℕ) (asked : List (Result (ℕ × Op) ScriptFault)) (line : List ℕ) (new : Option Shown)
    (answers : List (Result Entry ScriptFault)) (what : Heard) (text : List ℕ)
    → AreAnswers limits (stand_with number None asked) None answers → Comes number line limits None new what → IsTold what new text
    → Answered limits (stand_with number None asked) line new answers what text
first_answered limits number asked line None answers heard.Nothing text a comes told =
    let stand : Stand = stand_with number None asked in
    by_stand limits stand (with_nothing stand) line None answers [] heard.Nothing text (ap (behind_first stand) comes)
    (answers_none limits (with_nothing stand) None answers (record { made = tt; asked = a.asked; entries = a.entries })) told (good_as asked)
first_answered limits number asked line None answers heard.Operation text a comes told = absurd comes
first_answered limits number asked line None answers (heard.Fault why) text a comes told =
    let stand : Stand = stand_with number None asked in
    by_stand limits stand (with_asked stand (Err why)) line None answers (Err why ∷ []) (heard.Fault why) text (ap (behind_first stand) comes)
    (fault_answers limits stand None answers why a) (told ∙ sym (append-nil (fault_line why))) (good-asked asked (Err why))
first_answered limits number asked line (Some kernel) answers heard.Nothing text a comes told =
    let stand : Stand = stand_with number None asked in
    let next : Stand = with_priorities stand comes.priorities in
    by_stand limits stand next line (Some kernel) answers [] heard.Nothing text (ap (behind_first stand) comes.gives)
    (answers_none limits next (Some kernel) answers (record { made = comes.made; asked = a.asked; entries = a.entries ∙ sym comes.fresh })) told (good_as asked)
first_answered limits number asked line (Some kernel) answers heard.Operation text a comes told = absurd comes
first_answered limits number asked line (Some kernel) answers (heard.Fault why) text a comes told = absurd comes

-- the answer to a further line
further_answered : (limits : Limits) (number : ℕ) (priorities : List ℕ) (asked : List (Result (ℕ × Op) ScriptFault)) (line : List ℕ) (old new : Shown)
    (answers : List (Result Entry ScriptFault)) (what : Heard) (text : List ℕ)
    → AreAnswers limits (stand_with number (Some priorities) asked) (Some old) answers → Comes number line limits (Some old) (Some new) what → IsTold what (Some new) text
    → Answered limits (stand_with number (Some priorities) asked) line (Some new) answers what text
further_answered limits number priorities asked line old new answers heard.Nothing text a comes told =
    let stand : Stand = stand_with number (Some priorities) asked in
    let same : AreAnswers limits stand (Some new) answers = answers_alike limits stand (Some old) (Some new) answers a comes.1 in
    by_stand limits stand (with_nothing stand) line (Some new) answers [] heard.Nothing text (ap (behind_further stand) comes.0)
    (answers_none limits (with_nothing stand) (Some new) answers (record { made = same.made; asked = same.asked; entries = same.entries })) told (good_as asked)
further_answered limits number priorities asked line old new answers (heard.Fault why) text a comes told =
    let stand : Stand = stand_with number (Some priorities) asked in
    by_stand limits stand (with_asked stand (Err why)) line (Some new) answers (Err why ∷ []) (heard.Fault why) text (ap (behind_further stand) comes.0)
    (fault_answers limits stand (Some new) answers why (answers_alike limits stand (Some old) (Some new) answers a comes.1))
    (told ∙ sym (append-nil (fault_line why))) (good-asked asked (Err why))
further_answered limits number priorities asked line old new answers heard.Operation text a comes told =
    let stand : Stand = stand_with number (Some priorities) asked in
    let done = comes.done in
    let entry : Entry = done.entry in
    let ask : Result (ℕ × Op) ScriptFault = Ok (comes.line.pid, comes.line.op) in
    let position : length old.log.entries + 1 ≡ length (entries_in answers) + 1 = ap (λ (es : List Entry). length es + 1) (sym a.entries) in
    by_stand limits stand (with_asked stand ask) line (Some new) answers (Ok entry ∷ []) heard.Operation text (ap (behind_further stand) comes.asks)
    (operation_answers limits stand old new answers entry comes.line.pid comes.line.op a done.grown
    (grown_is priorities limits old new (entry ∷ []) a.made done.grown) done.same_pid done.same_op)
    (told old.log.entries entry done.grown.entries done.here
    ∙ ap (λ (p : ℕ). line_of p entry) position
    ∙ sym (append-nil (line_of (length (entries_in answers) + 1) entry)))
    (good-asked asked ask)

answered_in : (limits : Limits) (number : ℕ) (priorities : Option (List ℕ)) (asked : List (Result (ℕ × Op) ScriptFault)) (line : List ℕ) (old new : Option Shown)
    (answers : List (Result Entry ScriptFault)) (what : Heard) (text : List ℕ)
    → AreAnswers limits (stand_with number priorities asked) old answers → Comes number line limits old new what → IsTold what new text
    → Answered limits (stand_with number priorities asked) line new answers what text
answered_in limits number None asked line None new answers what text a comes told = first_answered limits number asked line new answers what text a comes told
answered_in limits number None asked line (Some old) new answers what text a comes told = absurd a.made
answered_in limits number (Some priorities) asked line None new answers what text a comes told = absurd a.made
answered_in limits number (Some priorities) asked line (Some old) None answers what text a comes told = absurd comes
answered_in limits number (Some priorities) asked line (Some old) (Some new) answers what text a comes told =
    further_answered limits number priorities asked line old new answers what text a comes told

-- the answer to one line more
pub answered : (limits : Limits) (stand : Stand) (line : List ℕ) (old new : Option Shown)
    (answers : List (Result Entry ScriptFault)) (what : Heard) (text : List ℕ)
    → AreAnswers limits stand old answers → Comes stand.number line limits old new what → IsTold what new text → Answered limits stand line new answers what text
answered limits stand line old new answers what text a comes told =
    answered_in limits stand.number stand.priorities stand.asked line old new answers what text a comes told
