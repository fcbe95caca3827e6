use Rattle.kernel.proofs.Words.{fields}
use Rattle.kernel.proofs.Entries.{room, entered}
use Rattle.kernel.proofs.state.enter.Goals as goal

pub push_placed-requires : goal.push_placed-requires
push_placed-requires c = room (fields c.args.s.now) _ c.requires

pub returns : goal.returns
returns c = entered (fields c.args.s.now) _ c.requires _ c.push_placed.ensures
