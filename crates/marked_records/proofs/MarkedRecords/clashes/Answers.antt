use Rattle.marked_records.proofs.Dropping.{clashes_alone, clashes_more}
use Rattle.marked_records.proofs.MarkedRecords.clashes.Goals as goal

pub loop-i-preserved : goal.loop-i-preserved
loop-i-preserved c = clashes_more c.args.self.now c.args.caller c.args.touches.now c.loop-i.i c.loop-i.found.items c.in_ok-own.own.items c.append.new.self.items c.loop-i-test.true c.loop-i.invariant c.in_ok-own.ensures c.in_ok-append.ensures.items

pub returns-then-not-others_touched : goal.returns-then-not-others_touched
returns-then-not-others_touched c = rw (← c.self.view_is) (clashes_alone c.self.inside.records c.args.caller (c.others_touched.ensures c.if-not-others_touched.true) c.args.touches.now c.new.result.items c.new.ensures.items)
