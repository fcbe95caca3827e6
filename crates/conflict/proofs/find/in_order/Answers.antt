use Rattle.conflict.proofs.Placed.{mine_inserted, found_inserted}
use Rattle.conflict.proofs.find.in_order.Goals as goal

pub loop-mark-preserved : goal.loop-mark-preserved
loop-mark-preserved c = record {
  mine = rw c.in_ok-insert.ensures.keys (mine_inserted c.args.touch.now c.loop-mark.set.keys _ c.loop-mark.invariant.mine c.in_ok-mine.ensures);
  exact = λ q u. found_inserted q u c.loop-mark.set.keys c.insert.new.self.keys c.in_ok-mine.mine c.loop-mark.yielded c.in-Some.mark (c.loop-mark.invariant.exact q u) c.in_ok-insert.ensures.keys;
}
