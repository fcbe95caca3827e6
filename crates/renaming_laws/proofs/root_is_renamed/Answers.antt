use Rattle.renaming_laws.proofs.Roots.{root_is_renamed}
use Rattle.renaming_laws.proofs.root_is_renamed.Goals as goal

pub returns : goal.returns
returns c = root_is_renamed
