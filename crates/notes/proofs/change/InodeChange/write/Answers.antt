use Rattle.std.proofs.Common.{length, Some}
use Rattle.model.specs.Plan.{blocks}
use Rattle.notes.specs.Patches.{net_of}
use Rattle.notes.specs.Steps.{bytes_written}
use Rattle.notes.proofs.FileNotes.{filed_on}
use Rattle.notes.proofs.Outcomes.{ok_three}
use Rattle.notes.proofs.change.InodeChange.write.Goals as goal

pub returns-clause-ok : goal.returns-clause-ok
returns-clause-ok c =
    ok_three c.write_in.result
    (filed_on (bytes_written c.args.offset c.args.bytes.now) (blocks c.args.offset (length c.args.bytes.now)) (net_of (Some c.args.self.now)) c.write_in.new.contents)
    c.write_in.ensures.contents c.write_in.ensures.form c.write_in.ensures.numbers
