use Rattle.std.proofs.Common.{[], sym, subst}
use Rattle.machine.specs.Shown.{Shown}
use Rattle.script.specs.Lines.{further_line_of}
use Rattle.stream.specs.Heard.{Forgets, HasGrown, Refuses, StopsFurther}
use Rattle.stream.specs.declared.fault.StreamFault.{StreamFault}
use Rattle.stream.specs.declared.doing.StepRefusal.{StepRefusal}
use Rattle.stream.proofs.Coming.{full_of_line, stops_full, stops_settling}
use Rattle.stream.proofs.Forgotten.{comes-then, grown_settled, grown_same}
use Rattle.stream.proofs.hearing.hear_again.Goals as goal

pub returns-in-Ok-try_line-clause-comes : goal.returns-in-Ok-try_line-clause-comes
returns-in-Ok-try_line-clause-comes g c =
    comes-then _ _ _ _ _ (grown_settled _ _ c.settle.ensures.kept c.in-Ok.ensures.forgets) c.in-Ok-try_line.ensures.comes

pub returns-in-Ok-try_line-clause-followed : goal.returns-in-Ok-try_line-clause-followed
returns-in-Ok-try_line-clause-followed g c = λ h. c.try_line.ensures.followed _ (c.in-Ok.ensures.followed h)

pub returns-in-Err-HistoryFull-clause-grown : goal.returns-in-Err-HistoryFull-clause-grown
returns-in-Err-HistoryFull-clause-grown g c =
    let old = g.K.Machine.shown c.args.kernel.now in
    subst (λ (k : Shown). HasGrown old k []) (sym c.in-Err-HistoryFull.ensures.unchanged) (grown_settled _ _ c.settle.ensures.kept c.in-Ok.ensures.forgets)

pub returns-in-Err-HistoryFull-clause-stops : goal.returns-in-Err-HistoryFull-clause-stops
returns-in-Err-HistoryFull-clause-stops g c = λ _.
    let said = further_line_of c.args.number c.args.line.now in
    let old = g.K.Machine.shown c.args.kernel.now in
    let new = g.K.Machine.shown c.try_line.new.kernel in
    let forgets : Forgets old new = subst (λ (k : Shown). Forgets old k) (sym c.in-Err-HistoryFull.ensures.unchanged) c.in-Ok.ensures.forgets in
    subst (λ (w : StreamFault). StopsFurther said new w) (sym c.fault_of_full.ensures) (stops_full said old new forgets (subst (λ (r : StepRefusal). Refuses said new r) c.in-Err-HistoryFull.field-0-is c.in-Err-HistoryFull.ensures.refused))

pub returns-in-Err-HistoryFull-clause-of_line : goal.returns-in-Err-HistoryFull-clause-of_line
returns-in-Err-HistoryFull-clause-of_line g c = full_of_line _ (g.K.Machine.shown c.try_line.new.kernel).log c.fault_of_full.ensures

pub returns-in-Err-NoMemory-clause-grown : goal.returns-in-Err-NoMemory-clause-grown
returns-in-Err-NoMemory-clause-grown g c =
    let old = g.K.Machine.shown c.args.kernel.now in
    subst (λ (k : Shown). HasGrown old k []) (sym c.in-Err-NoMemory.ensures.unchanged) (grown_settled _ _ c.settle.ensures.kept c.in-Ok.ensures.forgets)

pub returns-in-Err-clause-grown : goal.returns-in-Err-clause-grown
returns-in-Err-clause-grown g c = grown_same _ _ c.settle.ensures.kept c.in-Err.ensures.unchanged

pub returns-in-Err-clause-stops : goal.returns-in-Err-clause-stops
returns-in-Err-clause-stops g c = λ h.
    stops_settling _ (further_line_of c.args.number c.args.line.now) _ (c.in-Err.ensures.fault h)
