use Rattle.std.proofs.Common.{append-nil, refl, rules}
use Rattle.transcript.proofs.Laws.{CanPrint-after, Finished-by, Prints-as, Prints-then}
use Rattle.stream.proofs.Coming.{no_write}
use Rattle.stream.proofs.Parting.{told_err, told_in_part, told_ok}
use Rattle.stream.proofs.state.Stream.write_part.Goals as goal

pub finish-requires : goal.finish-requires
finish-requires g c = CanPrint-after c.take_part-taken.ensures.answers.1 (search rules)

pub returns-in-Ok-clause-ok : goal.returns-in-Ok-clause-ok
returns-in-Ok-clause-ok g c =
    let told = c.take_part-taken.ensures.answers in
    let all = Prints-as (Prints-then _ _ told.1 c.finish.ensures.prints) (append-nil _) in
    let finished = Finished-by c.finish.result all c.new-out.ensures.failed c.new-out.ensures.pending c.finish.ensures.pending c.finish.ensures.ok c.finish.ensures.failed in
    told_ok _ _ c.args.part.now told.0 _ _ _ _ c.take_part-taken.result (search (rules, finished.ok)) told.2

pub returns-in-Ok-clause-fault : goal.returns-in-Ok-clause-fault
returns-in-Ok-clause-fault g c =
    let told = c.take_part-taken.ensures.answers in
    let all = Prints-as (Prints-then _ _ told.1 c.finish.ensures.prints) (append-nil _) in
    let finished = Finished-by c.finish.result all c.new-out.ensures.failed c.new-out.ensures.pending c.finish.ensures.pending c.finish.ensures.ok c.finish.ensures.failed in
    told_err _ _ c.args.part.now told.0 _ _ _ _ c.take_part-taken.result (search (rules, finished.ok)) told.2 c.take_part-taken.ensures.of_line

pub returns-in-Ok-clause-write : goal.returns-in-Ok-clause-write
returns-in-Ok-clause-write g c = λ e. absurd (no_write c.take_part-taken.result c.take_part-taken.ensures.of_line e)

pub returns-in-Ok-clause-no_failure : goal.returns-in-Ok-clause-no_failure
returns-in-Ok-clause-no_failure g c =
    let told = c.take_part-taken.ensures.answers in
    let all = Prints-as (Prints-then _ _ told.1 c.finish.ensures.prints) (append-nil _) in
    let finished = Finished-by c.finish.result all c.new-out.ensures.failed c.new-out.ensures.pending c.finish.ensures.pending c.finish.ensures.ok c.finish.ensures.failed in
    λ _. search (rules, finished.no_failure)

pub returns-in-Err-clause-fault : goal.returns-in-Err-clause-fault
returns-in-Err-clause-fault g c =
    let told = c.take_part-taken.ensures.answers in
    let all = Prints-as (Prints-then _ _ told.1 c.finish.ensures.prints) (append-nil _) in
    let finished = Finished-by c.finish.result all c.new-out.ensures.failed c.new-out.ensures.pending c.finish.ensures.pending c.finish.ensures.ok c.finish.ensures.failed in
    told_in_part _ _ c.args.part.now told.0 _ _ _ _ c.take_part-taken.result (search (rules, finished.part)) told.2

pub returns-in-Err-clause-write : goal.returns-in-Err-clause-write
returns-in-Err-clause-write g c =
    let told = c.take_part-taken.ensures.answers in
    let all = Prints-as (Prints-then _ _ told.1 c.finish.ensures.prints) (append-nil _) in
    let finished = Finished-by c.finish.result all c.new-out.ensures.failed c.new-out.ensures.pending c.finish.ensures.pending c.finish.ensures.ok c.finish.ensures.failed in
    λ _. search (rules, finished.failure)

pub returns-in-Err-clause-no_failure : goal.returns-in-Err-clause-no_failure
returns-in-Err-clause-no_failure g c = λ other. absurd (other refl)
