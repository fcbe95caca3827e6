use Rattle.std.proofs.Common.{arith, rules}
use Rattle.transcript.specs.Reply.{name_text}
use Rattle.transcript.proofs.Printing.{CanPrint-after, Prints-all, Prints-as, Prints-none, Prints-next, Prints-then}
use Rattle.transcript.proofs.reply.put_each_name.Goals as goal

pub loop-name-init : goal.loop-name-init
loop-name-init g c = (c.requires, Prints-none _ _ _)

pub loop-name-preserved : goal.loop-name-preserved
loop-name-preserved g c =
    let one = Prints-then _ _ c.put_word.ensures c.put_text.ensures in
    let printed = Prints-next name_text c.args.names.now c.loop-name.name-index _ c.loop-name-test.true c.name-item.is c.loop-name.invariant.1 (Prints-as one (search rules)) in
    (CanPrint-after printed c.requires, printed)

pub put_word-requires : goal.put_word-requires
put_word-requires g c = (omega arith, c.loop-name.invariant.0)

pub put_text-requires : goal.put_text-requires
put_text-requires g c = CanPrint-after c.put_word.ensures c.loop-name.invariant.0

pub returns : goal.returns
returns g c = Prints-all name_text c.args.names.now c.loop-name.name-index c.loop-name-test.false c.loop-name.invariant.1
