use Rattle.history_laws.proofs.Laws.{own_entries_follow}
use Rattle.history_laws.proofs.own_entries_follow.Goals as goal

pub returns : goal.returns
returns c = own_entries_follow
