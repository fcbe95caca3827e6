use Rattle.call_laws.proofs.Exceptions.{exceptions_are_needed_lem}
use Rattle.call_laws.proofs.exceptions_are_needed.Goals as goal

pub returns : goal.returns
returns c = exceptions_are_needed_lem
