use Rattle.renaming_laws.proofs.Swaps.{swap_renames}
use Rattle.renaming_laws.proofs.swaps_rename.Goals as goal

pub returns : goal.returns
returns c = swap_renames
