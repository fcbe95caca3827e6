use Rattle.renaming_laws.proofs.Told.{only_chosen_are_told}
use Rattle.renaming_laws.proofs.only_chosen_are_told.Goals as goal

pub returns : goal.returns
returns c = only_chosen_are_told
