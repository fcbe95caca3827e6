use Rattle.replay.proofs.Passing as passing
use Rattle.replay.proofs.legal_histories_pass.Goals as goal

pub returns : goal.returns
returns c = passing.legal_histories_pass
