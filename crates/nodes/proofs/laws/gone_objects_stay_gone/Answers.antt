use Rattle.nodes.proofs.Gone.{gone_objects_stay_gone}
use Rattle.nodes.proofs.laws.gone_objects_stay_gone.Goals as goal

pub returns : goal.returns
returns c = gone_objects_stay_gone
