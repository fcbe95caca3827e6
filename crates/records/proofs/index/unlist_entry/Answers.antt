use Rattle.records.proofs.Listing.{unlisted}
use Rattle.records.proofs.index.unlist_entry.Goals as goal

pub returns-clause-keeps : goal.returns-clause-keeps
returns-clause-keeps c = λ a there other. unlisted c.args.written.now c.remove.new.self c.args.aspect.now a (c.remove.ensures.updates.0 a) there other
