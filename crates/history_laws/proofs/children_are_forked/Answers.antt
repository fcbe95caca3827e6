use Rattle.history_laws.proofs.Laws.{children_are_forked}
use Rattle.history_laws.proofs.children_are_forked.Goals as goal

pub returns : goal.returns
returns c = children_are_forked
