use Rattle.renaming_laws.proofs.Runs.{runs_are_renamed}
use Rattle.renaming_laws.proofs.runs_are_renamed.Goals as goal

pub returns : goal.returns
returns c = runs_are_renamed
