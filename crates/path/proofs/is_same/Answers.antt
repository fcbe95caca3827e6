use Rattle.path.proofs.Below.{same_name-same}
use Rattle.path.proofs.is_same.Goals as goal

pub returns : goal.returns
returns c = rw (same_name-same, ← c.as_slice.ensures, ← c.as_slice-2.ensures) c.eq.ensures
