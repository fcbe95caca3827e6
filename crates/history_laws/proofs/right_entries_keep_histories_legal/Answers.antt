use Rattle.history_laws.proofs.Laws.{legal_push}
use Rattle.history_laws.proofs.right_entries_keep_histories_legal.Goals as goal

pub returns : goal.returns
returns c = legal_push
