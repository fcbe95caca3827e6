use Rattle.std.proofs.Common.{sym, ◌∙◌}
use Rattle.list_modes.proofs.Tallies.{counts_removed, zero_counts}
use Rattle.list_modes.proofs.table.forget_if_empty.Goals as goal

pub returns-then-now-eq0-3 : goal.returns-then-now-eq0-3
returns-then-now-eq0-3 c = counts_removed c.args.counts.now c.remove.new.self c.args.dir (sym c.counts_at-now.ensures ∙ zero_counts c.counts_at-now.result c.if-now-eq0.true c.if-now-eq0-2.true c.if-now-eq0-3.true) c.remove.ensures.updates
