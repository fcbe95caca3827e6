use Rattle.kernel.proofs.Words.{fields}
use Rattle.kernel.proofs.Entries.{stands}
use Rattle.kernel.proofs.step.standing_of.Goals as goal

pub returns : goal.returns
returns c = stands (fields c.args.s.now) c.requires c.args.pid _ c.standing.ensures
