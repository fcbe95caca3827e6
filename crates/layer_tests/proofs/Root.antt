-- The root of the first state is a directory.
use Rattle.std.proofs.Common.{◌≡◌, ℕ, Some, ap}
use Rattle.model.specs.FiniteMap.{empty}
use Rattle.model.specs.State.{A_directory, Directory, kind, kind_of, mapped}
use Rattle.model.specs.Moments.{Setup, start}
use Rattle.model.proofs.Laws.{get_same}

pub root_is_directory : (root : ℕ) (setup : Setup) → kind_of (start root setup) root ≡ Some A_directory
root_is_directory root setup = ap (mapped kind) (get_same empty root (Directory empty))
