use Rattle.call_laws.proofs.Numbers.{can_be_made}
use Rattle.call_laws.proofs.every_call_can_be_made.Goals as goal

pub returns : goal.returns
returns c = can_be_made
