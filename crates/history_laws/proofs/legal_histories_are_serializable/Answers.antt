use Rattle.history_laws.proofs.Laws.{legal_histories_are_serializable}
use Rattle.history_laws.proofs.legal_histories_are_serializable.Goals as goal

pub returns : goal.returns
returns c = legal_histories_are_serializable
