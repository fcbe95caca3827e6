use Rattle.history_laws.proofs.Laws.{calls_go_in}
use Rattle.history_laws.proofs.calls_go_in.Goals as goal

pub returns : goal.returns
returns c = calls_go_in
