use Rattle.std.proofs.Common.{◌<◌, ◌++◌, length, arith}
use Rattle.entry_codec.specs.Parts.{u32_bytes}
use Rattle.entry_codec.proofs.Putting.{all_fit, more_fit, more_put}
use Rattle.store_form.specs.Setups.{priority_bytes}
use Rattle.store_form.proofs.put.put_priorities.Goals as goal

pub loop-priority-preserved : goal.loop-priority-preserved
loop-priority-preserved c = record {
  put = more_put priority_bytes (c.args.out.now.items ++ u32_bytes (length c.args.priorities.now)) c.args.priorities.now c.loop-priority.priority-index c.priority-item.result c.loop-priority.out.items c.put_level.new.out.items (omega arith) c.priority-item.is c.loop-priority.invariant.put c.in_ok-put_level.ensures.put;
  fits = more_fit (λ p. p < 8) c.args.priorities.now c.loop-priority.priority-index c.priority-item.result (omega arith) c.priority-item.is c.loop-priority.invariant.fits c.in_ok-put_level.ensures.fits;
}

pub returns-clause-fits : goal.returns-clause-fits
returns-clause-fits c = (all_fit (λ p. p < 8) c.args.priorities.now c.loop-priority.priority-index (omega arith) (omega arith) c.loop-priority.invariant.fits).1
