use Rattle.std.proofs.Common.{refl}
use Rattle.mount_requests.proofs.Answering.{failed, told, unplanned}
use Rattle.mount_requests.proofs.tables.Tables.get_attr.Goals as goal

pub returns-in_err-object-clause-answers : goal.returns-in_err-object-clause-answers
returns-in_err-object-clause-answers g c =
    let h = rw c.pid.ensures at c.in_err-object.ensures in
    unplanned _ c.from_residual.ensures.1 h refl refl

pub returns-in_err-stat-clause-answers : goal.returns-in_err-stat-clause-answers
returns-in_err-stat-clause-answers g c =
    let h = rw c.pid.ensures at c.in_ok-object.ensures in
    failed _ h c.from_residual-in_err-stat.ensures.1 c.in_err-stat.ensures.ran refl

pub returns-clause-answers : goal.returns-clause-answers
returns-clause-answers g c =
    let h = rw c.pid.ensures at c.in_ok-object.ensures in
    told h c.in_ok-stat.ensures.ran (c.attr_at.ensures, refl)
