-- What is on the disk before it is answered.
use Rattle.std.specs.Prelude.{Bool, true, false, not}
use Rattle.model.specs.Entries.{Op, Do, Begin, End, Abort}
use Rattle.redo_records.specs.Changing.{only_looks}
use Rattle.kept.specs.declared.keeping.Keeping.{Keeping}
use Rattle.kept.specs.declared.keeping.Keeping.TheVariants.{Ends, Changes}

-- a call that can change something
abbrev pub is_change : Op → Bool
is_change (Do call) = not (only_looks call)
is_change End = false
is_change (Begin flags) = false
is_change (Abort no_restart) = false

-- what is on the disk before it is answered: an end, and each such call where that is asked for
abbrev pub waits : Keeping → Op → Bool
waits Ends (Do call) = false
waits Changes (Do call) = is_change (Do call)
waits keeping End = true
waits keeping (Begin flags) = false
waits keeping (Abort no_restart) = false
