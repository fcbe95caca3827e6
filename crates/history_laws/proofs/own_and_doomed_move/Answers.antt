use Rattle.history_laws.proofs.Laws.{own_and_doomed_move}
use Rattle.history_laws.proofs.own_and_doomed_move.Goals as goal

pub returns : goal.returns
returns c = own_and_doomed_move
