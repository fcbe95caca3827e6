use Rattle.std.proofs.Common.{◌+◌, ◌≤◌, None, ap, sym, ◌∙◌, true, false, arith}
use Rattle.model.specs.FiniteMap.{insert}
use Rattle.dirlist.specs.Patches.{Notes, noted_back}
use Rattle.notes.specs.declared.change.Contents.{Contents}
use Rattle.notes.specs.declared.change.Contents.TheVariants.{Names}
use Rattle.notes.specs.Patches.{added_by, patched}
use Rattle.notes.specs.Steps.{name_noted}
use Rattle.notes.proofs.NameNotes.{added_first, added_more, named_first, named_more, taken_back}
use Rattle.notes.proofs.Outcomes.{ok_so}
use Rattle.notes.proofs.change.note_gone_in.Goals as goal

pub returns-in_ok-note-in-Names-clause-contents : goal.returns-in_ok-note-in-Names-clause-contents
returns-in_ok-note-in-Names-clause-contents c =
    named_more c.in-Names.is_fresh c.in-Names.names c.note.new.self c.args.name None c.args.contents.now c.in-Names.is c.in_ok-note-in-Names.ensures.ok

pub returns-in_ok-note-in-Names-clause-added : goal.returns-in_ok-note-in-Names-clause-added
returns-in_ok-note-in-Names-clause-added c =
    let more : added_by (Names c.in-Names.is_fresh c.note.new.self) ≤ added_by c.args.contents.now + 0 =
    added_more c.in-Names.is_fresh c.in-Names.names c.note.new.self c.args.name None c.args.contents.now c.in-Names.is c.in_ok-note-in-Names.ensures.ok in omega (arith, more)

pub returns-in_ok-note-in-Names-clause-back : goal.returns-in_ok-note-in-Names-clause-back
returns-in_ok-note-in-Names-clause-back c =
    ap (λ (notes : Notes). Names c.in-Names.is_fresh notes)
    (ap (λ (notes : Notes). noted_back c.args.name c.look-former.result notes) c.in_ok-note-in-Names.ensures.ok
    ∙ ap (λ former. noted_back c.args.name former (insert c.in-Names.names c.args.name None)) c.look-former.ensures
    ∙ taken_back c.in-Names.names c.args.name None)
    ∙ sym c.in-Names.is

pub returns-in-Same-clause-contents : goal.returns-in-Same-clause-contents
returns-in-Same-clause-contents c =
    ok_so c.note_first_gone.result
    (λ is o. named_first false c.args.name None c.note_first_gone.new.contents is o
    ∙ ap (λ (d : Contents). name_noted c.args.name None (patched d o)) (sym c.in-Same.is))
    c.note_first_gone.ensures.ok

pub returns-in-Same-clause-added : goal.returns-in-Same-clause-added
returns-in-Same-clause-added c =
    ok_so c.note_first_gone.result
    (λ is. let more : added_by c.note_first_gone.new.contents ≤ added_by c.args.contents.now + 0 =
    added_first false c.args.name None c.note_first_gone.new.contents is (added_by c.args.contents.now) in omega (arith, more))
    c.note_first_gone.ensures.ok

pub returns-in-Bytes-clause-contents : goal.returns-in-Bytes-clause-contents
returns-in-Bytes-clause-contents c =
    ok_so c.note_first_gone-in-Bytes.result
    (λ is o. named_first true c.args.name None c.note_first_gone-in-Bytes.new.contents is o
    ∙ ap (λ (d : Contents). name_noted c.args.name None (patched d o)) (sym c.in-Bytes.is))
    c.note_first_gone-in-Bytes.ensures.ok

pub returns-in-Bytes-clause-added : goal.returns-in-Bytes-clause-added
returns-in-Bytes-clause-added c =
    ok_so c.note_first_gone-in-Bytes.result
    (λ is. let more : added_by c.note_first_gone-in-Bytes.new.contents ≤ added_by c.args.contents.now + 0 =
    added_first true c.args.name None c.note_first_gone-in-Bytes.new.contents is (added_by c.args.contents.now) in omega (arith, more))
    c.note_first_gone-in-Bytes.ensures.ok

pub returns-in-Pipe-clause-contents : goal.returns-in-Pipe-clause-contents
returns-in-Pipe-clause-contents c =
    ok_so c.note_first_gone-in-Pipe.result
    (λ is o. named_first true c.args.name None c.note_first_gone-in-Pipe.new.contents is o
    ∙ ap (λ (d : Contents). name_noted c.args.name None (patched d o)) (sym c.in-Pipe.is))
    c.note_first_gone-in-Pipe.ensures.ok

pub returns-in-Pipe-clause-added : goal.returns-in-Pipe-clause-added
returns-in-Pipe-clause-added c =
    ok_so c.note_first_gone-in-Pipe.result
    (λ is. let more : added_by c.note_first_gone-in-Pipe.new.contents ≤ added_by c.args.contents.now + 0 =
    added_first true c.args.name None c.note_first_gone-in-Pipe.new.contents is (added_by c.args.contents.now) in omega (arith, more))
    c.note_first_gone-in-Pipe.ensures.ok

pub returns-in-Fixed-clause-contents : goal.returns-in-Fixed-clause-contents
returns-in-Fixed-clause-contents c =
    ok_so c.note_first_gone-in-Fixed.result
    (λ is o. named_first true c.args.name None c.note_first_gone-in-Fixed.new.contents is o
    ∙ ap (λ (d : Contents). name_noted c.args.name None (patched d o)) (sym c.in-Fixed.is))
    c.note_first_gone-in-Fixed.ensures.ok

pub returns-in-Fixed-clause-added : goal.returns-in-Fixed-clause-added
returns-in-Fixed-clause-added c =
    ok_so c.note_first_gone-in-Fixed.result
    (λ is. let more : added_by c.note_first_gone-in-Fixed.new.contents ≤ added_by c.args.contents.now + 0 =
    added_first true c.args.name None c.note_first_gone-in-Fixed.new.contents is (added_by c.args.contents.now) in omega (arith, more))
    c.note_first_gone-in-Fixed.ensures.ok
