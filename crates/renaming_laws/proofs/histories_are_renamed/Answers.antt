use Rattle.renaming_laws.proofs.Histories.{histories_are_renamed}
use Rattle.renaming_laws.proofs.histories_are_renamed.Goals as goal

pub returns : goal.returns
returns c = histories_are_renamed
