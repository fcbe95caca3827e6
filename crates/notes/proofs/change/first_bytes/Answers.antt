use Rattle.std.proofs.Common.{length}
use Rattle.model.specs.Plan.{blocks}
use Rattle.notes.proofs.BlockNumbers.{first_ones}
use Rattle.notes.proofs.change.first_bytes.Goals as goal

pub returns-clause-numbers : goal.returns-clause-numbers
returns-clause-numbers c = first_ones c.new-changes.result.changed.numbers c.write.new.self.changed.numbers (blocks c.args.offset (length c.args.bytes.now)) c.new-changes.ensures.numbers c.in_ok-write.ensures.changed
