-- The redo records of a history.
use Rattle.std.specs.Prelude.{ℕ, List, [], ◌∷◌, ◌++◌}
use Rattle.std.specs.List.{flat_map}
use Rattle.model.specs.Steps.{Item}
use Rattle.model.specs.Entries.{Entry}
use Rattle.model.specs.Moments.{Setup, Moment, status, run_by, next, at_start}
use Rattle.model.specs.Legal.{items}
use Rattle.redo_records.specs.Changing.{changing}

-- What an entry adds to the serial list (`serial_from`), without what changes nothing: the call of
-- an executed plain call, or all calls of a transaction at its committed end.
abbrev pub added : Moment → Entry → List Item
added m e = changing (items e.pid (run_by (status m e.pid) e.op e.reply e.chosen))

-- a record of these, and none where nothing is left
abbrev pub as_record : List Item → List (List Item)
as_record [] = []
as_record (it ∷ more) = (it ∷ more) ∷ []

-- a record of each entry that adds something, in their order
abbrev pub records_from : Moment → List Entry → List (List Item)
records_from m [] = []
records_from m (e ∷ es) = as_record (added m e) ++ records_from (next m e) es

abbrev pub records : ℕ → Setup → List Entry → List (List Item)
records root setup es = records_from (at_start root setup) es

-- the items of records, one behind the other
abbrev pub all_of : List (List Item) → List Item
all_of rs = flat_map (λ r. r) rs
