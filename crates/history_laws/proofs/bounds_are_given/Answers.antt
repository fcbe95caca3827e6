use Rattle.history_laws.proofs.Laws.{bounds_are_given}
use Rattle.history_laws.proofs.bounds_are_given.Goals as goal

pub returns : goal.returns
returns c = bounds_are_given
