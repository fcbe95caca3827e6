use Rattle.freeing_laws.proofs.Left.{left_is_tidy_lem}
use Rattle.freeing_laws.proofs.left_is_tidy.Goals as goal

pub returns : goal.returns
returns c = left_is_tidy_lem
