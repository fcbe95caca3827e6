use Rattle.renaming_laws.proofs.Chosen.{root_is_never_chosen}
use Rattle.renaming_laws.proofs.root_is_never_chosen.Goals as goal

pub returns : goal.returns
returns c = root_is_never_chosen
