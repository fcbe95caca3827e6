use Rattle.shadow.proofs.Laws.{calls_can_be_committed_lem}
use Rattle.shadow.proofs.calls_can_be_committed.Goals as goal

pub returns : goal.returns
returns c = calls_can_be_committed_lem
