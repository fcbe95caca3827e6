use Rattle.std.proofs.Common.{arith, rules, codes}
use Rattle.transcript.specs.Line.{line_of}
use Rattle.transcript.proofs.Printing.{CanPrint-after, Prints-as, Prints-on, Prints-then}
use Rattle.transcript.proofs.line.put_line.Goals as goal

pub returns : goal.returns
unfolding line_of
returns g c =
    let named = Prints-then _ _ (Prints-on _ (codes " P") _ c.put_decimal.ensures c.put_number.ensures) c.put_word.ensures in
    let printed = Prints-then _ _ (Prints-then _ _ (Prints-then _ _ named c.put_op.ensures) c.put_word-2.ensures) c.put_reply.ensures in
    Prints-as (Prints-then _ _ (Prints-then _ _ printed c.put_dooms.ensures) c.put_word-3.ensures) (search rules)

pub put_number-requires : goal.put_number-requires
put_number-requires g c = (omega arith, CanPrint-after c.put_decimal.ensures c.requires)

pub put_word-requires : goal.put_word-requires
put_word-requires g c = (omega arith, CanPrint-after c.put_number.ensures (CanPrint-after c.put_decimal.ensures c.requires))

pub put_op-requires : goal.put_op-requires
put_op-requires g c = CanPrint-after c.put_word.ensures (CanPrint-after c.put_number.ensures (CanPrint-after c.put_decimal.ensures c.requires))

pub put_word-requires-2 : goal.put_word-requires-2
put_word-requires-2 g c = (omega arith, CanPrint-after c.put_op.ensures (CanPrint-after c.put_word.ensures (CanPrint-after c.put_number.ensures (CanPrint-after c.put_decimal.ensures c.requires))))

pub put_reply-requires : goal.put_reply-requires
put_reply-requires g c = CanPrint-after c.put_word-2.ensures (CanPrint-after c.put_op.ensures (CanPrint-after c.put_word.ensures (CanPrint-after c.put_number.ensures (CanPrint-after c.put_decimal.ensures c.requires))))

pub put_dooms-requires : goal.put_dooms-requires
put_dooms-requires g c = CanPrint-after c.put_reply.ensures (CanPrint-after c.put_word-2.ensures (CanPrint-after c.put_op.ensures (CanPrint-after c.put_word.ensures (CanPrint-after c.put_number.ensures (CanPrint-after c.put_decimal.ensures c.requires)))))

pub put_word-requires-3 : goal.put_word-requires-3
put_word-requires-3 g c = (omega arith, CanPrint-after c.put_dooms.ensures (CanPrint-after c.put_reply.ensures (CanPrint-after c.put_word-2.ensures (CanPrint-after c.put_op.ensures (CanPrint-after c.put_word.ensures (CanPrint-after c.put_number.ensures (CanPrint-after c.put_decimal.ensures c.requires)))))))
