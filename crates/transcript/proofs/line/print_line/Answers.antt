use Rattle.transcript.proofs.Lines.{lines_from-one}
use Rattle.transcript.proofs.line.print_line.Goals as goal

pub returns : goal.returns
returns g c =
    let one = lines_from-one c.args.position c.args.entry.now c.from_ref.result.now c.from_ref.ensures.value in
    record { ok = rw (← one) c.print.ensures.ok; no_failure = c.print.ensures.no_failure; part = rw (← one) c.print.ensures.part; failure = c.print.ensures.failure }
