use Rattle.std.proofs.Common.{append-nil, rules}
use Rattle.transcript.proofs.Laws.{CanPrint-after, Finished-by, Prints-as, Prints-then}
use Rattle.stream.proofs.state.Stream.finish.Goals as goal

pub finish-requires : goal.finish-requires
finish-requires g c = CanPrint-after c.put_end.ensures (search rules)

pub returns-then-self-clause-part : goal.returns-then-self-clause-part
returns-then-self-clause-part g c =
    let all = Prints-as (Prints-then _ _ c.put_end.ensures c.finish.ensures.prints) (append-nil _) in
    let finished = Finished-by c.finish.result all c.new-out.ensures.failed c.new-out.ensures.pending c.finish.ensures.pending c.finish.ensures.ok c.finish.ensures.failed in
    search (rules, finished.part)

pub returns-else-self-clause-part : goal.returns-else-self-clause-part
returns-else-self-clause-part g c =
    let all = Prints-as (Prints-then _ _ c.put_end.ensures c.finish.ensures.prints) (append-nil _) in
    let finished = Finished-by c.finish.result all c.new-out.ensures.failed c.new-out.ensures.pending c.finish.ensures.pending c.finish.ensures.ok c.finish.ensures.failed in
    search (rules, finished.part)

pub returns-in-Err-clause-part : goal.returns-in-Err-clause-part
returns-in-Err-clause-part g c =
    let all = Prints-as (Prints-then _ _ c.put_end.ensures c.finish.ensures.prints) (append-nil _) in
    let finished = Finished-by c.finish.result all c.new-out.ensures.failed c.new-out.ensures.pending c.finish.ensures.pending c.finish.ensures.ok c.finish.ensures.failed in
    search (rules, finished.part)

pub returns-in-Err-clause-write : goal.returns-in-Err-clause-write
returns-in-Err-clause-write g c =
    let all = Prints-as (Prints-then _ _ c.put_end.ensures c.finish.ensures.prints) (append-nil _) in
    let finished = Finished-by c.finish.result all c.new-out.ensures.failed c.new-out.ensures.pending c.finish.ensures.pending c.finish.ensures.ok c.finish.ensures.failed in
    search (rules, finished.failure)
