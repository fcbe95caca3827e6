use Rattle.std.proofs.Common.{[], refl, sym, subst}
use Rattle.std.specs.Prelude.{option_map}
use Rattle.transcript.proofs.Laws.{Prints-none}
use Rattle.stream.specs.Answers.{fault_line}
use Rattle.stream.specs.Heard.{IsTold}
use Rattle.stream.specs.declared.heard.Heard.{Heard}
use Rattle.stream.proofs.telling.tell.Goals as goal

pub returns-in-Nothing : goal.returns-in-Nothing
returns-in-Nothing g c =
    let kernel = option_map g.K.Machine.shown c.args.kernel.now in
    ([], Prints-none _ _ _, subst (λ (h : Heard). IsTold h kernel []) (sym c.in-Nothing.is) refl)

pub returns-in-Operation : goal.returns-in-Operation
returns-in-Operation g c =
    let kernel = option_map g.K.Machine.shown c.args.kernel.now in
    let told = c.put_operation.ensures in
    (told.0, told.1, subst (λ (h : Heard). IsTold h kernel told.0) (sym c.in-Operation.is) told.2)

pub returns-in-Fault : goal.returns-in-Fault
returns-in-Fault g c =
    let kernel = option_map g.K.Machine.shown c.args.kernel.now in
    let text = fault_line c.in-Fault.fault in
    (text, c.put_fault_line.ensures, subst (λ (h : Heard). IsTold h kernel text) (sym c.in-Fault.is) refl)
