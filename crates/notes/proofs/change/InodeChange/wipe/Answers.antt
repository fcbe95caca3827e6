use Rattle.std.proofs.Common.{replicate, Some}
use Rattle.model.specs.Plan.{blocks}
use Rattle.notes.specs.Patches.{net_of}
use Rattle.notes.specs.Steps.{bytes_written}
use Rattle.notes.proofs.FileNotes.{filed_on}
use Rattle.notes.proofs.Outcomes.{ok_three}
use Rattle.notes.proofs.change.InodeChange.wipe.Goals as goal

pub returns-clause-ok : goal.returns-clause-ok
returns-clause-ok c =
    ok_three c.wipe_in.result
    (filed_on (bytes_written c.args.offset (replicate c.args.count 0)) (blocks c.args.offset c.args.count) (net_of (Some c.args.self.now)) c.wipe_in.new.contents)
    c.wipe_in.ensures.contents c.wipe_in.ensures.form c.wipe_in.ensures.numbers
