use Rattle.recording.proofs.Keeping.{noted, on_ok_so}
use Rattle.recording.proofs.notes.note_entry.Goals as goal

pub returns : goal.returns
returns c = on_ok_so c.add.result _ _ (λ grown old new taken followed rest is legal.
    noted old new c.args.entry.now taken c.args.recorder.now c.note.new.self c.args.waiting.now.items c.add.new.waiting.items c.in_ok-made.made c.in_ok-made.ensures.follows c.in_ok-made.ensures.record grown followed rest is legal) c.add.ensures
