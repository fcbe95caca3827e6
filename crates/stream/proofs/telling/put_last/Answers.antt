use Rattle.std.proofs.Common.{◌≡◌, ◌-◌, List, [], length, Some, None, Option, Bor, ap, sym, ◌∙◌, subst, rules}
use Rattle.std.specs.Prelude.{slice_get, option_copied}
use Rattle.history.specs.Log.{Log, kept}
use Rattle.ids.specs.declared.entry.Entry.{Entry}
use Rattle.transcript.specs.Line.{line_of}
use Rattle.transcript.proofs.Laws.{Prints-none}
use Rattle.stream.proofs.Forgotten.{last_line, no_last}
use Rattle.stream.proofs.telling.put_last.Goals as goal

pub returns-in-Some : goal.returns-in-Some
returns-in-Some g c =
    let log = (g.K.Machine.shown c.args.kernel.now).log in
    let same : c.entries.result.now ≡ kept log = c.entries.ensures.kept ∙ ap kept c.history-history.ensures.value in
    let here : Some c.in-Some.entry.now ≡ slice_get (kept log) (length (kept log) - 1) =
    subst (λ (es : List Entry). Some c.in-Some.entry.now ≡ slice_get es (length es - 1)) same c.in-Some.ensures.value in
    let count : c.count.result ≡ length log.entries = c.count.ensures.value ∙ ap (λ (l : Log). length l.entries) c.history-history.ensures.value in
    (line_of c.count.result c.in-Some.entry.now, c.put_line.ensures, last_line log c.in-Some.entry.now c.count.result count here)

pub returns-in_default : goal.returns-in_default
returns-in_default g c =
    let log = (g.K.Machine.shown c.args.kernel.now).log in
    let same : c.entries.result.now ≡ kept log = c.entries.ensures.kept ∙ ap kept c.history-history.ensures.value in
    let none : c.last.result ≡ None = search rules in
    let here : None ≡ slice_get (kept log) (length (kept log) - 1) =
    subst (λ (es : List Entry). None ≡ slice_get es (length es - 1)) same (ap (λ (o : Option (Bor Entry)). option_copied o) (sym none) ∙ c.last.ensures.value) in
    ([], Prints-none _ _ _, λ before entry e some. absurd (no_last log entry some here))
