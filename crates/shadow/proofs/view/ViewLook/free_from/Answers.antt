use Rattle.shadow.proofs.viewing.LowestFree.{first_is}
use Rattle.shadow.proofs.view.ViewLook.free_from.Goals as goal

pub returns-clause-value : goal.returns-clause-value
returns-clause-value c = first_is c.args.self.now.state c.args.pid c.args.first c.open_limit.result c.lowest.result c.open_limit.ensures.value c.lowest.ensures
