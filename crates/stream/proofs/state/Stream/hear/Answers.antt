use Rattle.std.proofs.Common.{refl, sym, subst}
use Rattle.stream.specs.Heard.{IsOfLine}
use Rattle.stream.specs.declared.fault.StreamFault.{StreamFault}
use Rattle.stream.proofs.Coming.{refusal_of_line}
use Rattle.stream.proofs.Fields.{heard_further_all, not_heard_first_by, not_heard_further_all}
use Rattle.stream.proofs.state.Stream.hear.Goals as goal

pub returns-in-Some-clause-ok : goal.returns-in-Some-clause-ok
returns-in-Some-clause-ok g c =
    let further = c.hear_further.ensures in
    heard_further_all g.K.Machine.shown c.args.setting c.args.self.now _ c.in-Some.kernel c.hear_further.new.kernel c.as_slice.result.now c.hear_further.result
    c.in-Some.is refl c.as_slice.ensures.value further.comes further.followed further.same (record { line = refl; number = refl; good = refl })

pub returns-in-Some-clause-err : goal.returns-in-Some-clause-err
returns-in-Some-clause-err g c =
    let further = c.hear_further.ensures in
    not_heard_further_all g.K.Machine.shown c.args.setting c.args.self.now _ c.in-Some.kernel c.hear_further.new.kernel c.as_slice.result.now c.hear_further.result
    c.in-Some.is refl c.as_slice.ensures.value further.grown further.stops

pub returns-in-Err-clause-err : goal.returns-in-Err-clause-err
returns-in-Err-clause-err g c =
    not_heard_first_by g.K.Machine.shown c.args.setting c.args.self.now c.hear_first.new.self c.in-Err.refusal c.of_refusal.result
    c.in-None.is c.in-Err.ensures.err c.in-Err.ensures.memory c.of_refusal.ensures

pub returns-in-Err-clause-of_line : goal.returns-in-Err-clause-of_line
returns-in-Err-clause-of_line g c = subst (λ (w : StreamFault). IsOfLine w) (sym c.of_refusal.ensures) (refusal_of_line c.in-Err.refusal)
