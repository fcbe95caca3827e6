use Rattle.std.proofs.Common.{sym, subst}
use Rattle.stream.specs.Heard.{CannotForget, IsOfLine}
use Rattle.stream.specs.declared.fault.StreamFault.{StreamFault}
use Rattle.stream.proofs.Coming.{check_of_line}
use Rattle.stream.proofs.Forgotten.{cannot_forget, followed_by}
use Rattle.stream.proofs.follower.Follower.catch_up.Goals as goal

pub returns-in-Ok-clause-checked : goal.returns-in-Ok-clause-checked
returns-in-Ok-clause-checked c = λ h.
    followed_by c.args.self _ c.args.history.now c.entries_behind.result.now h c.entries_behind.ensures c.in-Ok.ensures.ok c.count.ensures.value

pub returns-in-Err-clause-fault : goal.returns-in-Err-clause-fault
returns-in-Err-clause-fault c = λ h.
    let log = c.args.history.now in
    subst (λ (w : StreamFault). CannotForget log w) (sym c.of_check.ensures)
    (cannot_forget c.args.self log c.entries_behind.result.now c.in-Err.fault h c.entries_behind.ensures c.in-Err.ensures.wrong)

pub returns-in-Err-clause-of_line : goal.returns-in-Err-clause-of_line
returns-in-Err-clause-of_line c = subst (λ (w : StreamFault). IsOfLine w) (sym c.of_check.ensures) (check_of_line c.in-Err.fault)
