use Rattle.std.proofs.Common.{sym, subst, [], nat_eq}
use Rattle.std.specs.HashMap.{get}
use Rattle.redo_records.specs.Records.{added, as_record}
use Rattle.redo_records.specs.Recording.{Tell}
use Rattle.redo_records.proofs.Noting.{kept_next, told_next}
use Rattle.redo_records.proofs.recorder.Recorder.note.Goals as goal

pub returns-clause-follows : goal.returns-clause-follows
returns-clause-follows c = λ m follows fits q.
    kept_next m c.args.entry.now [] q _ _ _ _ c.as_slice.ensures (follows q) fits (c.in_ok-record.ensures.kept q) (c.doom_all.ensures q)

pub returns-clause-record : goal.returns-clause-record
returns-clause-record c = λ m follows fits.
    subst (Tell (as_record (added m c.args.entry.now))) (sym c.in_ok-record.ensures.told)
    (told_next m c.args.entry.now [] (get nat_eq c.args.self.now.transactions c.args.entry.now.pid) (follows c.args.entry.now.pid) fits)
