use Rattle.std.proofs.Common.{sym, ◌∙◌}
use Rattle.recording.proofs.Steps.{can_note, nothing_noted}
use Rattle.recording.proofs.stepping.take_step.Goals as goal

pub note_last-requires : goal.note_last-requires
note_last-requires g c =
    let shown = g.M.Machine.shown in
    can_note (shown c.args.machine.now) (shown c.step-reply.new.self) c.args.pid c.args.op c.step-reply.result c.step-reply.ensures.step c.args.notes.now c.args.copy
    (sym c.is_no_entry.ensures ∙ c.if-is_no_entry.false) c.requires.room c.requires.copy c.requires.keep

pub returns-then-is_no_entry-clause-faithful : goal.returns-then-is_no_entry-clause-faithful
returns-then-is_no_entry-clause-faithful g c =
    let shown = g.M.Machine.shown in
    nothing_noted (shown c.args.machine.now) (shown c.step-reply.new.self) c.args.pid c.args.op c.step-reply.result c.step-reply.ensures.step c.args.notes.now
    (sym c.is_no_entry.ensures ∙ c.if-is_no_entry.true) c.requires.keep
