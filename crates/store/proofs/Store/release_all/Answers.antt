use Rattle.std.proofs.Common.{◌∙◌}
use Rattle.store.proofs.Laying.{none-released, one-released}
use Rattle.store.proofs.Store.release_all.Goals as goal

pub loop-i-init : goal.loop-i-init
loop-i-init c = none-released c.args.self.now c.args.dir

pub loop-i-preserved : goal.loop-i-preserved
loop-i-preserved c = c.release.ensures.released ∙ one-released c.args.self.now c.args.dir c.requires c.loop-i.self c.loop-i._i c.loop-i.invariant
