use Rattle.records.proofs.Distinct.{once_left}
use Rattle.records.proofs.journal.Journal.pop.Goals as goal

pub invariant_of-self : goal.invariant_of-self
invariant_of-self c = (once_left c.pop.new.self.items c.self.inside.touches.items c.pop.result c.pop.ensures.items c.self.invariant).0

pub returns-clause-once : goal.returns-clause-once
returns-clause-once c = (once_left c.pop.new.self.items c.self.inside.touches.items c.pop.result c.pop.ensures.items c.self.invariant).1
