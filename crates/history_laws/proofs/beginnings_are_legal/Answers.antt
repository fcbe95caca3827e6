use Rattle.history_laws.proofs.Laws.{beginnings_are_legal}
use Rattle.history_laws.proofs.beginnings_are_legal.Goals as goal

pub returns : goal.returns
returns c = beginnings_are_legal
