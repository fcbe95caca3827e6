use Rattle.renaming_laws.proofs.States.{questions_are_renamed}
use Rattle.renaming_laws.proofs.questions_are_renamed.Goals as goal

pub returns : goal.returns
returns c = questions_are_renamed
