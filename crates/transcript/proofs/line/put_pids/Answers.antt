use Rattle.std.proofs.Common.{rules, arith}
use Rattle.transcript.specs.Line.{more_text}
use Rattle.transcript.proofs.Printing.{CanPrint-after, Prints-all, Prints-as, Prints-none, Prints-next}
use Rattle.transcript.proofs.line.put_pids.Goals as goal

pub loop-pid-init : goal.loop-pid-init
loop-pid-init g c = (c.requires, Prints-none _ _ _)

pub loop-pid-preserved : goal.loop-pid-preserved
loop-pid-preserved g c =
    let printed = Prints-next more_text c.args.pids.now c.loop-pid.pid-index _ c.loop-pid-test.true c.pid-item.is c.loop-pid.invariant.1 (Prints-as c.put_number.ensures (search rules)) in
    (CanPrint-after printed c.requires, printed)

pub put_number-requires : goal.put_number-requires
put_number-requires g c = (omega arith, c.loop-pid.invariant.0)

pub returns : goal.returns
returns g c = Prints-all more_text c.args.pids.now c.loop-pid.pid-index c.loop-pid-test.false c.loop-pid.invariant.1
