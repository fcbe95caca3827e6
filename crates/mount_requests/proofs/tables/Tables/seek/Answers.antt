use Rattle.std.proofs.Common.{refl, rules, FitsSigned, w64}
use Rattle.std.proofs.lemmas.Int.{to_z-of_z}
use Rattle.mount_requests.proofs.Answering.{failed, told, unplanned}
use Rattle.mount_requests.proofs.tables.Tables.seek.Goals as goal

pub returns-in_err-seeking-clause-answers : goal.returns-in_err-seeking-clause-answers
returns-in_err-seeking-clause-answers g c =
    let h = rw c.pid.ensures at c.in_err-seeking.ensures in
    unplanned _ c.from_residual.ensures.1 h refl refl

pub returns-in_err-place-clause-answers : goal.returns-in_err-place-clause-answers
returns-in_err-place-clause-answers g c =
    let fits : FitsSigned w64 c.in_ok-seeking.seeking.offset = search rules in
    let h = rw c.pid.ensures at c.in_ok-seeking.ensures in
    let k = rw (to_z-of_z _ _ fits) at c.in_err-place.ensures.ran in
    failed _ h c.from_residual-in_err-place.ensures.1 k refl

pub returns-clause-answers : goal.returns-clause-answers
returns-clause-answers g c =
    let fits : FitsSigned w64 c.in_ok-seeking.seeking.offset = search rules in
    let h = rw c.pid.ensures at c.in_ok-seeking.ensures in
    let k = rw (to_z-of_z _ _ fits) at c.in_ok-place.ensures.ran in
    told h k (c.from.ensures, refl)
