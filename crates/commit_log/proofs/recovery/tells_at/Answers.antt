use Rattle.std.proofs.Common.{arith}
use Rattle.commit_log.proofs.Opening.{one_kept}
use Rattle.commit_log.proofs.recovery.tells_at.Goals as goal

pub returns-in-None-clause-told : goal.returns-in-None-clause-told
returns-in-None-clause-told g c clean kept payload has =
    let none = rw c.in-None.is at (c.in_ok-found.ensures.found clean) in absurd (none payload (kept, has))

pub returns-else-kept-place-clause-told : goal.returns-else-kept-place-clause-told
returns-else-kept-place-clause-told g c clean kept payload has =
    let found = rw c.in-Some.is at (c.in_ok-found.ensures.found clean) in
    let same = one_kept c.args.key (g.D.Disk.seen c.args.disk.now) c.args.later kept c.in-Some.kept payload _ has found in
    omega (arith, same)
