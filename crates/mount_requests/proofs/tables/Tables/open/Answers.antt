use Rattle.std.proofs.Common.{refl}
use Rattle.mount_requests.proofs.Answering.{by_plan, unplanned}
use Rattle.mount_requests.proofs.tables.Tables.open.Goals as goal

pub returns-in_err-opening-clause-answers : goal.returns-in_err-opening-clause-answers
returns-in_err-opening-clause-answers g c =
    let h = rw c.pid.ensures at c.in_err-opening.ensures in
    unplanned _ c.from_residual.ensures.1 h refl refl

pub returns-clause-answers : goal.returns-clause-answers
returns-clause-answers g c =
    let h = rw c.pid.ensures at c.in_ok-opening.ensures in
    let k = rw c.cut_by.ensures at c.open_as.ensures.answers in
    by_plan h k
