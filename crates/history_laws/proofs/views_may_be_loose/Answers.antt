use Rattle.history_laws.proofs.Laws.{views_may_be_loose}
use Rattle.history_laws.proofs.views_may_be_loose.Goals as goal

pub returns : goal.returns
returns c = views_may_be_loose
