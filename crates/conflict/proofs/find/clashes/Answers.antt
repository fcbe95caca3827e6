use Rattle.std.proofs.Common.{◌∙◌, ap, sym, take, ◌++◌, ◌∷◌, []}
use Rattle.std.proofs.lemmas.List.{take_more}
use Rattle.conflict.proofs.Placed.{clashes_more}
use Rattle.conflict.proofs.find.clashes.Goals as goal

pub loop-touch-preserved : goal.loop-touch-preserved
loop-touch-preserved c = rw (c.in_ok-found.ensures.1, take_more c.args.counted.now c.loop-touch.touch-index c.touch-item.result c.loop-touch-test.true ∙ ap (λ t. take c.loop-touch.touch-index c.args.counted.now ++ t ∷ []) (sym c.touch-item.is)) (clashes_more c.args.records.now c.args.caller (take c.loop-touch.touch-index c.args.counted.now) c.touch-item.result c.loop-touch.found.items c.in_ok-found.ensures.0 c.loop-touch.invariant c.in_ok-found.ensures.2)
