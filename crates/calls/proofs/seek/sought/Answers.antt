use Rattle.std.proofs.Common.{◌∙◌, refl}
use Rattle.walk.proofs.Laws.{via}
use Rattle.calls.proofs.Seeks.{sought_some, sought_none}
use Rattle.calls.proofs.seek.sought.Goals as goal

pub returns-in-Some : goal.returns-in-Some
returns-in-Some c largest sum is k before = via (sought_some largest c.args.it.now sum c.in-Some.offset (is ∙ c.in-Some.is)) (c.changed_by.ensures _ _)

pub returns-in-None : goal.returns-in-None
returns-in-None c largest sum is k before = via (sought_none largest c.args.it.now sum (is ∙ c.in-None.is)) (record { is = refl })
