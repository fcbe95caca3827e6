use Rattle.layer_tests.proofs.Rooms.{more_has_room}
use Rattle.layer_tests.proofs.of_fdtable.changes_are_laid_without_memory.Goals as goal

pub lay_on-requires : goal.lay_on-requires
lay_on-requires g c = more_has_room _ _ _ _ _ _ c.note_in.ensures.value c.note_in.ensures.room c.note_in.ensures.kept c.noted-patch.ensures
