use Rattle.std.proofs.Common.{append-nil, rules}
use Rattle.transcript.proofs.Printing.{Prints-as, Prints-then, Finished-by}
use Rattle.transcript.proofs.line.print_why.Goals as goal

pub returns : goal.returns
returns g c =
    let all = Prints-as (Prints-then _ _ c.put_why.ensures c.finish.ensures.prints) (append-nil _) in
    let finished = Finished-by c.finish.result all c.new-out.ensures.failed c.new-out.ensures.pending c.finish.ensures.pending c.finish.ensures.ok c.finish.ensures.failed in
    record { ok = search (rules, finished.ok); no_failure = search (rules, finished.no_failure); part = search (rules, finished.part); failure = search (rules, finished.failure) }
