use Rattle.history_laws.proofs.Laws.{forks_and_exits_move}
use Rattle.history_laws.proofs.forks_and_exits_move.Goals as goal

pub returns : goal.returns
returns c = forks_and_exits_move
