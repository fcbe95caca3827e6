use Rattle.renaming_laws.proofs.Needed.{slots_are_needed}
use Rattle.renaming_laws.proofs.slots_are_needed.Goals as goal

pub returns : goal.returns
returns c = slots_are_needed
