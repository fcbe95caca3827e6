use Rattle.std.proofs.Common.{◌∙◌, ap}
use Rattle.list_modes.specs.Counted.{all_recounted}
use Rattle.list_modes.proofs.Tallies.{recounted_there}
use Rattle.list_modes.proofs.table.recount.Goals as goal

pub returns : goal.returns
returns c = recounted_there c.args.counts.now c.insert.new.self c.args.dir c.recounted-now.result c.args.before c.args.after (c.recounted-now.ensures ∙ ap (λ x. all_recounted x c.args.before c.args.after) c.counts_at.ensures) c.in-Ok.ensures.updates
