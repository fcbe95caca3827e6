use Rattle.std.proofs.Common.{ap}
use Rattle.model.specs.Plans.{spaced}
use Rattle.walk.proofs.Laws.{via}
use Rattle.calls.proofs.ranges.spaced.Goals as goal

pub returns-in-Keep : goal.returns-in-Keep
returns-in-Keep g c = via (ap (spaced c.args.file c.args.offset c.args.count) c.in-Keep.is) (c.unchanged.ensures _ _)
