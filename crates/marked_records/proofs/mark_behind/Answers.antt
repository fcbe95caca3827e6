use Rattle.std.proofs.Common.{◌∙◌, ap, arith}
use Rattle.list_modes.specs.Holding.{held_of}
use Rattle.marked_records.specs.Marks.{joined, marks_of}
use Rattle.marked_records.proofs.Held.{own_more, others_more, between_first}
use Rattle.marked_records.proofs.mark_behind.Goals as goal

pub unmark_behind-requires : goal.unmark_behind-requires
unmark_behind-requires c = between_first c.mark.new.holders c.args.pid c.args.count c.loop-i.i c.args.touches.now (omega arith) (λ d. ap (λ t. held_of t c.args.pid d) c.in-Err.ensures.err ∙ c.loop-i.invariant.own d)

pub loop-i-preserved : goal.loop-i-preserved
loop-i-preserved c = record {
  others = others_more c.args.holders.now c.loop-i.holders c.mark.new.holders c.args.pid (λ d. joined (held_of c.loop-i.holders c.args.pid d) (marks_of d c.index-touches-i.result)) c.loop-i.invariant.others c.in-Ok.ensures.ok;
  own = own_more c.loop-i.holders c.mark.new.holders c.args.pid c.loop-i.i c.args.touches.now c.index-touches-i.result c.loop-i-test.true c.index-touches-i.is c.loop-i.invariant.own c.in-Ok.ensures.ok;
}
