use Rattle.std.proofs.Common.{[], subst, IfErr, IfOk, OnErr, OnOk}
use Rattle.script.specs.Lines.{further_line_of}
use Rattle.machine.specs.Shown.{Shown}
use Rattle.stream.specs.Heard.{ComesFurther, Follows, HasGrown, StopsFurther}
use Rattle.stream.proofs.Forgotten.{grown_same}
use Rattle.stream.proofs.hearing.hear_further.Goals as goal

pub returns-in-Ok-clause-followed : goal.returns-in-Ok-clause-followed
returns-in-Ok-clause-followed g c = λ h. c.try_line.ensures.followed _ h

pub returns-in-Err-HistoryFull-clause-comes : goal.returns-in-Err-HistoryFull-clause-comes
returns-in-Err-HistoryFull-clause-comes g c =
    let said = further_line_of c.args.number c.args.line.now in
    let new = g.K.Machine.shown c.hear_again.new.kernel in
    subst (λ (k : Shown). IfOk c.hear_again.result (ComesFurther said k new)) c.in-Err-HistoryFull.ensures.unchanged c.hear_again.ensures.comes

pub returns-in-Err-HistoryFull-clause-followed : goal.returns-in-Err-HistoryFull-clause-followed
returns-in-Err-HistoryFull-clause-followed g c =
    let new = g.K.Machine.shown c.hear_again.new.kernel in
    subst (λ (k : Shown). OnOk c.hear_again.result (Follows c.args.follower.now k.log → Follows c.hear_again.new.follower new.log)) c.in-Err-HistoryFull.ensures.unchanged c.hear_again.ensures.followed

pub returns-in-Err-HistoryFull-clause-grown : goal.returns-in-Err-HistoryFull-clause-grown
returns-in-Err-HistoryFull-clause-grown g c =
    let new = g.K.Machine.shown c.hear_again.new.kernel in
    subst (λ (k : Shown). OnErr c.hear_again.result (HasGrown k new [])) c.in-Err-HistoryFull.ensures.unchanged c.hear_again.ensures.grown

pub returns-in-Err-HistoryFull-clause-stops : goal.returns-in-Err-HistoryFull-clause-stops
returns-in-Err-HistoryFull-clause-stops g c =
    let said = further_line_of c.args.number c.args.line.now in
    let new = g.K.Machine.shown c.hear_again.new.kernel in
    subst (λ (k : Shown). IfErr c.hear_again.result (λ why. Follows c.args.follower.now k.log → StopsFurther said new why)) c.in-Err-HistoryFull.ensures.unchanged c.hear_again.ensures.stops

pub returns-in-Err-NoMemory-clause-grown : goal.returns-in-Err-NoMemory-clause-grown
returns-in-Err-NoMemory-clause-grown g c = grown_same _ _ c.try_line.ensures.kept c.in-Err-NoMemory.ensures.unchanged
