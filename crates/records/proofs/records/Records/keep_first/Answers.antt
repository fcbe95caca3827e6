use Rattle.std.proofs.Common.{arith}
use Rattle.records.proofs.Keeping.{one_less}
use Rattle.records.proofs.records.Records.keep_first.Goals as goal

pub loop-pid-preserved : goal.loop-pid-preserved
loop-pid-preserved c =
    let s = one_less c.args.self.now c.loop-pid.self c.forget_last.new.self c.args.pid c.args.count c.requires c.loop-pid.invariant.part c.loop-pid.invariant.within (omega arith) c.forget_last.ensures in
    record { part = s.part; within = s.within; enough = s.enough }
