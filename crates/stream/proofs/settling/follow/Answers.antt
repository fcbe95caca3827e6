use Rattle.std.proofs.Common.{Option, ap, sym, subst}
use Rattle.std.specs.Prelude.{is_some}
use Rattle.history.specs.Log.{Log}
use Rattle.stream.specs.Heard.{CannotForget, Follows, HasCheckedAll, HasCheckedFirst, HasFollowed}
use Rattle.stream.specs.declared.follower.Follower.{Follower}
use Rattle.stream.proofs.settling.follow.Goals as goal

pub returns-in-None-clause-followed : goal.returns-in-None-clause-followed
returns-in-None-clause-followed g c = λ _.
    subst (λ (o : Option Follower). HasFollowed o (g.K.Machine.shown c.args.kernel.now).log) (sym c.take.ensures.after) tt

pub returns-in-Ok-clause-followed : goal.returns-in-Ok-clause-followed
returns-in-Ok-clause-followed g c = λ h.
    let log = (g.K.Machine.shown c.args.kernel.now).log in
    let checked : HasCheckedFirst c.in-Some.former log → HasCheckedAll c.in-Ok.behind log =
    subst (λ (l : Log). HasCheckedFirst c.in-Some.former l → HasCheckedAll c.in-Ok.behind l) c.history.ensures.value c.in-Ok.ensures.checked in
    checked (subst (λ (o : Option Follower). Follows o log) (sym c.in-Some.ensures.value) h)

pub returns-in-Ok-clause-same : goal.returns-in-Ok-clause-same
returns-in-Ok-clause-same g c = ap (λ (o : Option Follower). is_some o) c.in-Some.ensures.value

pub returns-in-Err-clause-fault : goal.returns-in-Err-clause-fault
returns-in-Err-clause-fault g c = λ h.
    let log = (g.K.Machine.shown c.args.kernel.now).log in
    let cannot : HasCheckedFirst c.in-Some.former log → CannotForget log c.in-Err.fault =
    subst (λ (l : Log). HasCheckedFirst c.in-Some.former l → CannotForget l c.in-Err.fault) c.history.ensures.value c.in-Err.ensures.fault in
    cannot (subst (λ (o : Option Follower). Follows o log) (sym c.in-Some.ensures.value) h)
