use Rattle.replay.proofs.Parts.{needs_all, there_all}
use Rattle.replay.proofs.checker.still_needed.Goals as goal

pub keep_each-requires : goal.keep_each-requires
keep_each-requires g c = needs_all g.es _ c.args.transactions.now _ _ c.requires.0 c.as_slice.ensures c.requires.1 c.new-kept.ensures

pub returns-in-Ok-clause-there : goal.returns-in-Ok-clause-there
returns-in-Ok-clause-there g c = there_all _ c.args.transactions.now _ c.as_slice.ensures c.in-Ok.ensures.there
