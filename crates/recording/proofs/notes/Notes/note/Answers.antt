use Rattle.std.proofs.Common.{sym, ◌∙◌}
use Rattle.recording.proofs.Keeping.{on_ok}
use Rattle.recording.proofs.notes.Notes.note.Goals as goal

pub returns-clause-faithful : goal.returns-clause-faithful
returns-clause-faithful c = λ old new keep is legal alive.
    let both = on_ok c.note_entry-noted.result _ c.note_entry-noted.ensures (sym c.is_err-self.ensures.value ∙ alive) old new c.args.self.now.taken keep.follows keep.waiting is legal in
    record { follows = both.0; waiting = both.1 }
