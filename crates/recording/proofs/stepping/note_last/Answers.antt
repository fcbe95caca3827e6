use Rattle.std.proofs.Common.{◌≡◌, sym, ap, subst, ◌∙◌, sum}
use Rattle.std.specs.Prelude.{IfSome}
use Rattle.history.specs.Log.{kept}
use Rattle.model.specs.Entries.{Entry}
use Rattle.machine.specs.Steps.{with_entry}
use Rattle.redo_records.specs.Recording.{HasRoom}
use Rattle.recording.proofs.Entries.{last_is, last_of}
use Rattle.recording.proofs.stepping.note_last.Goals as goal

pub note-requires-clause-room : goal.note-requires-clause-room
note-requires-clause-room g c =
    let met : c.in-Some.entry.now ≡ c.requires.entry = last_is (sum c.requires.old.forgotten) c.requires.old.entries c.requires.entry c.in-Some.entry.now (c.in-Some.ensures.value ∙ ap last_of (c.entries.ensures.kept ∙ ap kept (c.history.ensures.value ∙ c.requires.is))) in
    subst (λ (e : Entry). HasRoom c.args.notes.now.recorder e.pid e.op) (sym met) c.requires.room

pub note-requires-clause-copy : goal.note-requires-clause-copy
note-requires-clause-copy g c =
    let met : c.in-Some.entry.now ≡ c.requires.entry = last_is (sum c.requires.old.forgotten) c.requires.old.entries c.requires.entry c.in-Some.entry.now (c.in-Some.ensures.value ∙ ap last_of (c.entries.ensures.kept ∙ ap kept (c.history.ensures.value ∙ c.requires.is))) in
    subst (λ (e : Entry). IfSome c.args.op (λ op. op ≡ e.op)) (sym met) c.requires.copy

pub returns-in-Some-clause-faithful : goal.returns-in-Some-clause-faithful
returns-in-Some-clause-faithful g c =
    let met : c.in-Some.entry.now ≡ c.requires.entry = last_is (sum c.requires.old.forgotten) c.requires.old.entries c.requires.entry c.in-Some.entry.now (c.in-Some.ensures.value ∙ ap last_of (c.entries.ensures.kept ∙ ap kept (c.history.ensures.value ∙ c.requires.is))) in
    c.note.ensures.faithful c.requires.old _ c.requires.keep (c.requires.is ∙ ap (with_entry c.requires.old) (sym met)) c.history.ensures.kept.legal
