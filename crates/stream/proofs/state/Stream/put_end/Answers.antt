use Rattle.transcript.proofs.Laws.{CanPrint-after, Prints-then}
use Rattle.stream.proofs.state.Stream.put_end.Goals as goal

pub put_verdict-requires : goal.put_verdict-requires
put_verdict-requires g c = CanPrint-after c.put_rest.ensures c.requires

pub returns : goal.returns
returns g c = Prints-then _ _ c.put_rest.ensures c.put_verdict.ensures
