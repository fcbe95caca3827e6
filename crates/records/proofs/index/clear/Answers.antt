use Rattle.records.proofs.Uses.{none_kept}
use Rattle.records.proofs.index.clear.Goals as goal

pub returns-clause-users : goal.returns-clause-users
returns-clause-users c = none_kept c.clear.new.self c.clear.ensures.empty
