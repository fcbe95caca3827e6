use Rattle.std.proofs.Common.{refl}
use Rattle.mount_requests.proofs.Answering.{failed, told, unplanned}
use Rattle.mount_requests.proofs.tables.Tables.read_link.Goals as goal

pub returns-in_err-paths-clause-answers : goal.returns-in_err-paths-clause-answers
returns-in_err-paths-clause-answers g c = unplanned _ c.from_residual.ensures.1 c.in_err-paths.ensures.plan refl refl

pub returns-in_err-target-clause-answers : goal.returns-in_err-target-clause-answers
returns-in_err-target-clause-answers g c = failed _ c.in_ok-paths.ensures.plan c.from_residual-in_err-target.ensures.1 c.in_err-target.ensures.ran refl

pub returns-clause-answers : goal.returns-clause-answers
returns-clause-answers g c = told c.in_ok-paths.ensures.plan c.in_ok-target.ensures.ran (refl, refl)
