use Rattle.contention.proofs.Firsts.{first_touch_more}
use Rattle.contention.proofs.judge.firsts_of.Goals as goal

pub loop-clash-preserved : goal.loop-clash-preserved
loop-clash-preserved c = λ q. first_touch_more q c.args.clashes.now c.loop-clash.clash-index c.clash-item.result _ _ c.loop-clash-test.true c.clash-item.is (c.loop-clash.invariant q) (c.in_ok-note.ensures q)
