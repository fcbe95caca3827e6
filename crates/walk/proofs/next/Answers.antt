use Rattle.std.proofs.Common.{rules}
use Rattle.walk.proofs.Then.{goes}
use Rattle.walk.proofs.next.Goals as goal

pub returns : goal.returns
returns g c = search (rules, goes)
