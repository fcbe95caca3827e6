use Rattle.history_laws.proofs.Laws.{replies_are_a_function}
use Rattle.history_laws.proofs.replies_are_a_function.Goals as goal

pub returns : goal.returns
returns c = replies_are_a_function
