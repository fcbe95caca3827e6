use Rattle.std.proofs.Common.{ap, sym, ◌∙◌, true, false}
use Rattle.notes.specs.declared.change.Contents.{Contents}
use Rattle.notes.specs.Patches.{patched}
use Rattle.notes.specs.Steps.{name_noted}
use Rattle.notes.proofs.NameNotes.{added_first, added_more, named_first, named_more}
use Rattle.notes.proofs.Outcomes.{ok_so}
use Rattle.notes.proofs.change.note_in.Goals as goal

pub returns-in-Names-clause-contents : goal.returns-in-Names-clause-contents
returns-in-Names-clause-contents c =
    ok_so c.note.result
    (λ is. named_more c.in-Names.is_fresh c.in-Names.names c.note.new.self c.args.name c.args.given c.args.contents.now c.in-Names.is is)
    c.note.ensures.ok

pub returns-in-Names-clause-added : goal.returns-in-Names-clause-added
returns-in-Names-clause-added c =
    ok_so c.note.result
    (λ is. added_more c.in-Names.is_fresh c.in-Names.names c.note.new.self c.args.name c.args.given c.args.contents.now c.in-Names.is is)
    c.note.ensures.ok

pub returns-in-Same-clause-contents : goal.returns-in-Same-clause-contents
returns-in-Same-clause-contents c =
    ok_so c.note_first.result
    (λ is o. named_first false c.args.name c.args.given c.note_first.new.contents is o
    ∙ ap (λ (d : Contents). name_noted c.args.name c.args.given (patched d o)) (sym c.in-Same.is))
    c.note_first.ensures.ok

pub returns-in-Same-clause-added : goal.returns-in-Same-clause-added
returns-in-Same-clause-added c =
    ok_so c.note_first.result
    (λ is. added_first false c.args.name c.args.given c.note_first.new.contents is _)
    c.note_first.ensures.ok

pub returns-in-Bytes-clause-contents : goal.returns-in-Bytes-clause-contents
returns-in-Bytes-clause-contents c =
    ok_so c.note_first-in-Bytes.result
    (λ is o. named_first true c.args.name c.args.given c.note_first-in-Bytes.new.contents is o
    ∙ ap (λ (d : Contents). name_noted c.args.name c.args.given (patched d o)) (sym c.in-Bytes.is))
    c.note_first-in-Bytes.ensures.ok

pub returns-in-Bytes-clause-added : goal.returns-in-Bytes-clause-added
returns-in-Bytes-clause-added c =
    ok_so c.note_first-in-Bytes.result
    (λ is. added_first true c.args.name c.args.given c.note_first-in-Bytes.new.contents is _)
    c.note_first-in-Bytes.ensures.ok

pub returns-in-Pipe-clause-contents : goal.returns-in-Pipe-clause-contents
returns-in-Pipe-clause-contents c =
    ok_so c.note_first-in-Pipe.result
    (λ is o. named_first true c.args.name c.args.given c.note_first-in-Pipe.new.contents is o
    ∙ ap (λ (d : Contents). name_noted c.args.name c.args.given (patched d o)) (sym c.in-Pipe.is))
    c.note_first-in-Pipe.ensures.ok

pub returns-in-Pipe-clause-added : goal.returns-in-Pipe-clause-added
returns-in-Pipe-clause-added c =
    ok_so c.note_first-in-Pipe.result
    (λ is. added_first true c.args.name c.args.given c.note_first-in-Pipe.new.contents is _)
    c.note_first-in-Pipe.ensures.ok

pub returns-in-Fixed-clause-contents : goal.returns-in-Fixed-clause-contents
returns-in-Fixed-clause-contents c =
    ok_so c.note_first-in-Fixed.result
    (λ is o. named_first true c.args.name c.args.given c.note_first-in-Fixed.new.contents is o
    ∙ ap (λ (d : Contents). name_noted c.args.name c.args.given (patched d o)) (sym c.in-Fixed.is))
    c.note_first-in-Fixed.ensures.ok

pub returns-in-Fixed-clause-added : goal.returns-in-Fixed-clause-added
returns-in-Fixed-clause-added c =
    ok_so c.note_first-in-Fixed.result
    (λ is. added_first true c.args.name c.args.given c.note_first-in-Fixed.new.contents is _)
    c.note_first-in-Fixed.ensures.ok
