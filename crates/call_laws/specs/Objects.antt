-- The objects that aspects are of, and what a write leaves alone.
use Rattle.std.specs.Prelude.{◌≡◌, ◌≢◌, Some, None}
use Rattle.model.specs.FiniteMap.{get}
use Rattle.model.specs.State.{A_file, A_directory, A_pipe, A_link, Kernel, kind_of}
use Rattle.model.specs.Aspects.{Aspect, Entry, Names, Size, Block, Links, Ends, Offset, Front, Back}
use Rattle.model.specs.Aspects.{Target, Rights}
use Rattle.call_laws.specs.WellFormed.{CanBeLinked}

-- an aspect of an object that is there
abbrev pub IsThere : Kernel → Aspect → Type 0
IsThere k (Entry d x) = kind_of k d ≡ Some A_directory
IsThere k (Names d) = kind_of k d ≡ Some A_directory
IsThere k (Size n) = kind_of k n ≡ Some A_file
IsThere k (Block n block) = kind_of k n ≡ Some A_file
IsThere k (Links n) = CanBeLinked (kind_of k n)
IsThere k (Ends p) = kind_of k p ≡ Some A_pipe
IsThere k (Front p) = kind_of k p ≡ Some A_pipe
IsThere k (Back p) = kind_of k p ≡ Some A_pipe
IsThere k (Offset d) = get k.descriptions d ≢ None
IsThere k (Target n) = kind_of k n ≡ Some A_link
IsThere k (Rights n) = kind_of k n ≢ None

-- a write of the first leaves the second alone
abbrev pub LeavesAlone : Aspect → Aspect → Type 0
LeavesAlone (Entry d x) (Names e) = d ≢ e
LeavesAlone written other = written ≢ other
