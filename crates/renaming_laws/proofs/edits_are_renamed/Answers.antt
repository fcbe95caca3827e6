use Rattle.renaming_laws.proofs.Edits.{edits_are_renamed}
use Rattle.renaming_laws.proofs.edits_are_renamed.Goals as goal

pub returns : goal.returns
returns c = edits_are_renamed
