use Rattle.std.proofs.Common.{rules}
use Rattle.transcript.proofs.Laws.{CanPrint-after, Prints-as, Prints-then}
use Rattle.stream.proofs.telling.put_numbered.Goals as goal

pub put_decimal-requires : goal.put_decimal-requires
put_decimal-requires g c = CanPrint-after c.put.ensures c.requires

pub put-requires-2 : goal.put-requires-2
put-requires-2 g c = CanPrint-after c.put_decimal.ensures (CanPrint-after c.put.ensures c.requires)

pub returns : goal.returns
returns g c = Prints-as (Prints-then _ _ (Prints-then _ _ c.put.ensures c.put_decimal.ensures) c.put-2.ensures) (search rules)
