use Rattle.std.proofs.Common.{to_z-of_z}
use Rattle.itoa.proofs.Decimal.{minus_first}
use Rattle.transcript.proofs.Printing.{Prints-as, Prints-then}
use Rattle.transcript.proofs.printer.Printer.put_signed.Goals as goal

pub returns : goal.returns
returns g c =
    let back = to_z-of_z c.ranges.n in
    Prints-as (Prints-then _ _ c.put_word.ensures c.put_decimal-2.ensures)
    (rw (c.unsigned_abs-2.ensures.value, back) (minus_first c.args.n (rw back at c.if-n-ge0.false)))
