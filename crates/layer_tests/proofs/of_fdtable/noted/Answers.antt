use Rattle.layer_tests.proofs.Rooms.{none_has_room}
use Rattle.layer_tests.proofs.of_fdtable.noted.Goals as goal

pub note-requires-clause-has : goal.note-requires-clause-has
note-requires-clause-has g c = none_has_room _ _ c.new-patch.ensures
