use Rattle.std.proofs.Common.{◌∙◌, ap, set, take}
use Rattle.records.specs.Touches.{touched_by}
use Rattle.records.proofs.Keeping.{one_more, taken_back}
use Rattle.records.proofs.records.Records.add.Goals as goal

pub returns-in-Err-clause-err : goal.returns-in-Err-clause-err
returns-in-Err-clause-err c = taken_back c.args.self.now c.loop-touch.self _ c.args.pid c.loop-touch.yielded c.count-before.result c.requires c.loop-touch.invariant c.count-before.ensures (c.keep_first.ensures ∙ ap (λ x. set x c.args.pid (take c.count-before.result (touched_by x c.args.pid))) c.in-Err.ensures.err)

pub loop-touch-preserved : goal.loop-touch-preserved
loop-touch-preserved c = one_more c.args.self.now c.loop-touch.self _ c.args.pid c.loop-touch.yielded _ c.requires c.loop-touch.invariant c.in-Ok.ensures.ok
