use Rattle.history_laws.proofs.Laws.{after_one_more}
use Rattle.history_laws.proofs.after_one_more.Goals as goal

pub returns : goal.returns
returns c = after_one_more
