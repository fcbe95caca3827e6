-- The texts of answers, beside those of transcripts.
use Rattle.std.proofs.Common.{◌≡◌, ℕ, ◌+◌, ◌<◌, ◌≤◌, ◌^◌, List, [], ◌∷◌, ◌++◌, true, true≢false, Result, Ok, Err, map, length, get_or, refl, ap, sym, ◌∙◌, arith, decimal, codes}
use Rattle.std.proofs.lemmas.Fmt.{decimal_is_IsNumeral, decimal_nonempty}
use Rattle.std.proofs.lemmas.List.{append_assoc, get_or_append_left}
use Rattle.std.proofs.lemmas.Str.Parse.{digit_at}
use Rattle.ids.specs.declared.entry.Entry.{Entry}
use Rattle.script.specs.declared.faults.ScriptFault.{ScriptFault}
use Rattle.transcript.specs.Line.{dooms_text, line_of, lines_from}
use Rattle.transcript.specs.Operation.{op_text}
use Rattle.transcript.specs.Reply.{reply_text}
use Rattle.stream.specs.Answers.{FaultLinesAreNoEntries, GoodAnswersAreTranscripts, ask_of, entries_in, fault_line, is_good, text_from}

good_from : (position : ℕ) (answers : List (Result Entry ScriptFault)) → is_good (map ask_of answers) ≡ true → text_from position answers ≡ lines_from position (entries_in answers)
good_from position [] h = refl
good_from position (Ok e ∷ answers) h =
    ap (λ (t : List ℕ). line_of position e ++ t) (good_from (position + 1) answers h)
good_from position (Err why ∷ answers) h = absurd (true≢false (sym h))

pub good_answers : GoodAnswersAreTranscripts
good_answers answers h = good_from 1 answers h

-- what a line of an entry begins with
line_begins : (position : ℕ) (entry : Entry) → line_of position entry ≡ decimal position ++ (codes " P" ++ (decimal entry.pid ++ (codes " " ++ (op_text entry.op ++ (codes " -> " ++ (reply_text entry.reply ++ (dooms_text entry.doomed ++ codes "\n")))))))
unfolding line_of
line_begins position entry = simp append_assoc

first_digit : (position : ℕ) (rest : List ℕ) → position < 2 ^ 64 → get_or (decimal position ++ rest) 0 0 ≤ 57
first_digit position rest small =
    let some : 0 < length (decimal position) = decimal_nonempty position small in
    let digits = (decimal_is_IsNumeral position small).0.1 in
    let range = digit_at (decimal position) 0 digits some in
    let here : get_or (decimal position ++ rest) 0 0 ≡ get_or (decimal position) 0 0 = get_or_append_left (decimal position) rest 0 0 some in
    omega (arith, range.1)

pub fault_lines : FaultLinesAreNoEntries
fault_lines why position entry s t small e =
    let rest : List ℕ = codes " P" ++ (decimal entry.pid ++ (codes " " ++ (op_text entry.op ++ (codes " -> " ++ (reply_text entry.reply ++ (dooms_text entry.doomed ++ codes "\n")))))) in
    let shown : fault_line why ++ s ≡ decimal position ++ (rest ++ t) =
    e ∙ ap (λ (line : List ℕ). line ++ t) (line_begins position entry) ∙ append_assoc (decimal position) rest t in
    let first : get_or (fault_line why ++ s) 0 0 ≡ get_or (decimal position ++ (rest ++ t)) 0 0 = ap (λ (xs : List ℕ). get_or xs 0 0) shown in
    let digit : get_or (decimal position ++ (rest ++ t)) 0 0 ≤ 57 = first_digit position (rest ++ t) small in
    let mark : get_or (fault_line why ++ s) 0 0 ≡ 63 = refl in
    omega arith
