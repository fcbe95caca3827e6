use Rattle.call_laws.proofs.Numbers.{unused_nowhere}
use Rattle.call_laws.proofs.unused_numbers_are_nowhere.Goals as goal

pub returns : goal.returns
returns c = unused_nowhere
