use Rattle.std.proofs.Common.{refl, rules, FitsSigned, w64}
use Rattle.std.proofs.lemmas.Int.{to_z-of_z}
use Rattle.mount_requests.proofs.Answering.{failed, told, unplanned}
use Rattle.mount_requests.proofs.tables.Tables.read.Goals as goal

pub returns-in_err-reading-clause-answers : goal.returns-in_err-reading-clause-answers
returns-in_err-reading-clause-answers g c =
    let h = rw c.pid.ensures at c.in_err-reading.ensures in
    unplanned _ c.from_residual.ensures.1 h refl refl

pub returns-in_err-bytes-clause-answers : goal.returns-in_err-bytes-clause-answers
returns-in_err-bytes-clause-answers g c =
    let fits : FitsSigned w64 c.in_ok-reading.reading.offset = search rules in
    let h = rw c.pid.ensures at c.in_ok-reading.ensures in
    let k = rw (to_z-of_z _ _ fits) at c.in_err-bytes.ensures.ran in
    failed _ h c.from_residual-in_err-bytes.ensures.1 k refl

pub returns-clause-answers : goal.returns-clause-answers
returns-clause-answers g c =
    let fits : FitsSigned w64 c.in_ok-reading.reading.offset = search rules in
    let h = rw c.pid.ensures at c.in_ok-reading.ensures in
    let k = rw (to_z-of_z _ _ fits) at c.in_ok-bytes.ensures.ran in
    told h k (refl, refl)
