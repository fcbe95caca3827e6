use Rattle.std.proofs.Common.{Some}
use Rattle.list_modes.proofs.Tallies.{counts_same}
use Rattle.list_modes.proofs.table.make_place.Goals as goal

pub returns-clause-same : goal.returns-clause-same
returns-clause-same c = counts_same c.args.counts.now c.insert.new.self c.args.dir (Some c.counts_at-now.result) c.counts_at-now.ensures c.in_ok-insert.ensures.updates
