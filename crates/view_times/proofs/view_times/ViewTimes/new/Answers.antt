use Rattle.view_times.proofs.After.{starts_unknown, starts_with_places}
use Rattle.view_times.proofs.view_times.ViewTimes.new.Goals as goal

pub invariant_of-result : goal.invariant_of-result
invariant_of-result c = starts_with_places c.new.result.rows c.new-2.result c.new-2.ensures

pub returns : goal.returns
returns c = starts_unknown c.new.result c.new-2.result c.new.ensures c.new-2.ensures
