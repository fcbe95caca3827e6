use Rattle.history_laws.proofs.Laws.{touched_objects_stay}
use Rattle.history_laws.proofs.touched_objects_stay.Goals as goal

pub returns : goal.returns
returns c = touched_objects_stay
