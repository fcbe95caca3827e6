use Rattle.renaming_laws.proofs.Calls.{calls_are_renamed}
use Rattle.renaming_laws.proofs.calls_are_renamed.Goals as goal

pub returns : goal.returns
returns c = calls_are_renamed
