use Rattle.model.specs.Plan.{blocks}
use Rattle.notes.proofs.BlockNumbers.{first_ones}
use Rattle.notes.proofs.wiping.first_zeros.Goals as goal

pub returns-clause-numbers : goal.returns-clause-numbers
returns-clause-numbers c = first_ones c.new-changes.result.changed.numbers c.wipe.new.self.changed.numbers (blocks c.args.offset c.args.count) c.new-changes.ensures.numbers c.in_ok-wipe.ensures.changed
