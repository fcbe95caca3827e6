use Rattle.std.proofs.Common.{◌∙◌, Some, sym, ap, arith}
use Rattle.std.proofs.lemmas.Bool.{eqb-true}
use Rattle.std.proofs.lemmas.List.{get_or_read}
use Rattle.model.specs.FiniteMap.{empty}
use Rattle.notes.proofs.SlotLemmas.{kept_here, kept_nowhere}
use Rattle.notes.proofs.slots.find.Goals as goal

pub returns-then-eq : goal.returns-then-eq
returns-then-eq c =
    let es = c.args.each.now in
    let i = c.loop-of.of-index in
    let it = get_or_read es i c.loop-of-item.result c.loop-of-test.true c.loop-of-item.is (0, empty) in
    let same = eqb-true c.loop-of-item.result.0 c.args.pid (sym c.eq.ensures ∙ c.if-eq.true) in
    ap (λ e. Some e.1) it ∙ sym (kept_here es c.args.pid i c.loop-of.invariant c.loop-of-test.true (sym (ap (λ e. e.0) it) ∙ same))

pub returns : goal.returns
returns c = sym (kept_nowhere c.args.each.now c.args.pid (record { others = λ j low. c.loop-of.invariant.others j (omega (arith, low, c.loop-of-test.false)) }))
