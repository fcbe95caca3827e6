use Rattle.std.proofs.Common.{ap}
use Rattle.walk.proofs.Laws.{via}
use Rattle.model.specs.Plans.{status}
use Rattle.path_calls.proofs.stats.status.Goals as goal

pub returns-in-Some : goal.returns-in-Some
returns-in-Some g c = via (ap (λ kind. status (c.args.num, kind)) c.in-Some.is) c.status_of.ensures
