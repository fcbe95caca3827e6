use Rattle.std.proofs.Common.{◌++◌, sym, subst}
use Rattle.kept.proofs.Faulting.{unless_so}
use Rattle.kept.proofs.Going.{remembered_stands}
use Rattle.kept.specs.Keeps.{StandsFor}
use Rattle.std.specs.Prelude.{Option, Some}
use Rattle.kept.specs.declared.fault.StoreFault.{StoreFault}
use Rattle.kept.proofs.saving.append_all.Goals as goal

pub returns-in-Ok-clause-stands : goal.returns-in-Ok-clause-stands
returns-in-Ok-clause-stands g c = λ kept s.
    let went = c.in-Ok.ensures.appended (kept ++ s.more) s.appended s.holds in
    record { more = s.more; appended = s.appended ++ went.0; holds = went.1 }

pub returns-in-Err-clause-stands : goal.returns-in-Err-clause-stands
returns-in-Err-clause-stands g c = λ kept s.
    let log = c.args.machine.now.shown.log in
    let store = c.flush.new.self in
    let e = c.in-Err.fault in
    subst (λ (met : Option StoreFault). StandsFor met (Some store) log kept) (sym c.remembered.ensures)
    (remembered_stands e store log kept s.more s.appended (unless_so e _ _ (λ goes. goes (kept ++ s.more) s.appended s.holds) c.in-Err.ensures.appended) (c.in-Err.ensures.crash (kept ++ s.more) s.appended s.holds))
