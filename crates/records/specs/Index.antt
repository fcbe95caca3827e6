-- The users of each aspect are those whose journals have it.
use Rattle.std.specs.Prelude.{◌≡◌, ℕ, List, [], Bool, true, false, Option, Some, None}
use Rattle.std.specs.Ordering.{eq_by_cmp}
use Rattle.std.specs.HashMap.{HashMap, get}
use Rattle.std.specs.BTreeSet.{contains, IsOrdered}
use Rattle.ids.specs.Order.{aspect_cmp}
use Rattle.model.specs.Aspects.{Aspect, Entry}
use Rattle.model.specs.Steps.{Touch}
use Rattle.model.specs.Clashes.{has_touch}
use Rattle.records.specs.Touches.{touched_by}
use Rattle.records.specs.Groups.{among, AreDistinct}
use Rattle.records.specs.declared.index.Index.{Index}
use Rattle.records.specs.declared.mark.Mark.{Mark}
use Rattle.records.specs.declared.users.Users.{Users}

-- whether a touch is among these
abbrev pub has : Touch → List Touch → Bool
has t us = has_touch t.aspect t.write us

-- the writers or the readers
abbrev pub side : Bool → Users → List ℕ
side true u = u.writers.items
side false u = u.readers.items

-- and of an aspect that may have no users
abbrev pub side_at : Bool → Option Users → List ℕ
side_at w (Some u) = side w u
side_at w None = []

-- the processes that are kept with a touch
abbrev pub users_in : {S : Type 0} → HashMap Aspect Users S → Touch → List ℕ
users_in users t = side_at t.write (get (eq_by_cmp aspect_cmp) users t.aspect)

abbrev pub users_on : Index → Touch → List ℕ
users_on index t = users_in index.users t

-- whether a process is kept with a touch
abbrev pub holds : Index → Mark → Bool
holds index m = among m.pid (users_on index m.touch)

pub record IsIndexed (lists : List (List Touch)) (index : Index) : Type 0 where
  -- a process is kept with a touch where that is among those of its journal
  pub each : (m : Mark) → holds index m ≡ has m.touch (touched_by lists m.pid)
  -- and each process once
  pub once : (t : Touch) → AreDistinct (users_on index t)

abbrev pub is_written_entry : Aspect → Bool → Bool
is_written_entry (Entry d x) true = true
is_written_entry _ _ = false

pub record ListsWritten (index : Index) : Type 0 where
  -- each entry that somebody writes is among the written ones
  pub each : (m : Mark) → is_written_entry m.touch.aspect m.touch.write ≡ true
      → holds index m ≡ true → contains aspect_cmp index.written m.touch.aspect ≡ true
  -- and these stand in order
  pub ordered : IsOrdered aspect_cmp index.written
