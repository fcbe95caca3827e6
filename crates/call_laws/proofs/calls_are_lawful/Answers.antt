use Rattle.call_laws.proofs.Laws.{calls_are_lawful_lem}
use Rattle.call_laws.proofs.calls_are_lawful.Goals as goal

pub returns : goal.returns
returns c = calls_are_lawful_lem
