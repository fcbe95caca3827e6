use Rattle.history_laws.proofs.Laws.{before_is_an_order}
use Rattle.history_laws.proofs.before_is_an_order.Goals as goal

pub returns : goal.returns
returns c = before_is_an_order
