-- Parts of plans of calls on paths.
use Rattle.std.specs.Prelude.{ℕ, Bool, false, Option, Some, None, List, [], ◌∷◌, not, ◌&&◌, ◌||◌}
use Rattle.std.specs.Prelude.{◌==◌, ⊤, length, nat_lt}
use Rattle.std.specs.List.{list_any}
use Rattle.model.specs.Limits.{target_limit}
use Rattle.model.specs.State.{Name, Kind, Fixed_content, A_directory}
use Rattle.model.specs.Plan.{Errno, EISDIR, ENAMETOOLONG, ENOENT, ENOTDIR, ENOTEMPTY, EBUSY, EEXIST}
use Rattle.model.specs.Plan.{EINVAL, EPERM, List_names, Count_links, Read_target, ask, Plan, Give}
use Rattle.model.specs.Plan.{◌>>=◌, ◌>>◌, refuse_if, or_refuse}
use Rattle.model.specs.Walks.{Place, Last, is_directory, parsed, walk, last_of}
use Rattle.model.specs.Changes.{Name_file, Make_fixed, Replaced, Over_nothing}
use Rattle.model.specs.Calls.{Done}
use Rattle.model.specs.Plans.{Change, changed, absent, moved, replaced_by_name, stated, swapped}
use Rattle.model.specs.Paths.{is_empty, is_below}

-- the place that a path of at most so many bytes leads to, and where its last name stands
abbrev pub place_at : ℕ → ℕ → List ℕ → Plan Place
place_at most root path = do
  names ← parsed most path
  walk (root, Some A_directory) names

abbrev pub last_at : ℕ → ℕ → Errno → List ℕ → Plan Last
last_at most root e path = do
  names ← parsed most path
  last_of root e names

-- the length of a symbolic link's target
abbrev pub target_length : ℕ → Plan ℕ
target_length link = do
  target ← ask (Read_target link)
  Give (length target)

-- whether a directory has no names
abbrev pub has_no_names : ℕ → Plan Bool
has_no_names dir = do
  entries ← ask (List_names dir)
  Give (is_empty entries)

-- a directory that has no names
abbrev pub without_names : ℕ → Plan ⊤
without_names dir = do
  entries ← ask (List_names dir)
  refuse_if (not (is_empty entries)) ENOTEMPTY

-- what an object is like that is a name and has no content
abbrev pub status_of_name : ℕ → Kind → Plan Change
status_of_name n kind = do
  links ← ask (Count_links n)
  stated kind n 0 links

-- the tests of a symbolic link's target
abbrev pub target_tested : List ℕ → Plan ⊤
target_tested target = do
  refuse_if (is_empty target) ENOENT
  refuse_if (nat_lt target_limit (length target)) ENAMETOOLONG
  refuse_if (list_any (λ b. b == 0) target) EINVAL

-- an object by its path whose content never changes
abbrev pub made : ℕ → ℕ → List ℕ → Fixed_content → Plan Change
made most root path fixed = do
  names ← parsed most path
  at ← last_of root EEXIST names
  absent at.found
  changed Done (Make_fixed at.parent at.name fixed 0 ∷ [])

-- a link, after both paths are read
abbrev pub link_paths : ℕ → List Name → List Name → Plan Change
link_paths root from to = do
  what ← walk (root, Some A_directory) from
  refuse_if (is_directory what) EPERM
  at ← last_of root EEXIST to
  absent at.found
  changed Done (Name_file at.parent at.name what.0 ∷ [])

-- a rename, after both paths are read
abbrev pub rename_paths : ℕ → List Name → List Name → Plan Change
rename_paths root from to = do
  refuse_if (is_empty from || is_empty to) EBUSY
  at ← last_of root EBUSY from
  what ← or_refuse ENOENT at.found
  refuse_if (is_directory what && is_below from to) EINVAL
  onto ← last_of root EBUSY to
  moved at what onto onto.found

-- an exchange, after both paths are read
abbrev pub exchange_paths : ℕ → List Name → List Name → Plan Change
exchange_paths root from to = do
  refuse_if (is_empty from || is_empty to) EBUSY
  at ← last_of root EBUSY from
  onto ← last_of root EBUSY to
  what ← or_refuse ENOENT at.found
  other ← or_refuse ENOENT onto.found
  refuse_if (is_directory what && is_below from to) EINVAL
  refuse_if (is_directory other && is_below to from) EINVAL
  swapped at what onto other

-- what loses its name to another
abbrev pub replaced_over : Place → Place → Plan Replaced
replaced_over what old = do
  refuse_if (not (is_directory what) && is_directory old) EISDIR
  refuse_if (is_directory what && not (is_directory old)) ENOTDIR
  replaced_by_name old.0 (is_directory old)

abbrev pub replaced : Place → Option Place → Plan Replaced
replaced what (Some old) = replaced_over what old
replaced what None = Give Over_nothing

-- whether a name gives this number
abbrev pub gives : Option Place → ℕ → Bool
gives (Some old) n = n == old.0
gives None n = false
