-- Parts of the walk along a path's names.
use Rattle.std.specs.Prelude.{[], Some}
use Rattle.model.specs.State.{Name, Kernel, A_directory}
use Rattle.model.specs.Plan.{ENOENT, Plan, ◌>>=◌, or_refuse}
use Rattle.model.specs.Walks.{Place, Last, look, last}

-- the root
abbrev pub start : Kernel → Place
start k = (k.root, Some A_directory)

-- what one name gives, which has to be there
abbrev pub next_of : Place → Name → Plan Place
next_of place x = do
  found ← look place x
  or_refuse ENOENT found

-- the last name
abbrev pub look_last : Name → Place → Plan Last
look_last x place = last place x []
