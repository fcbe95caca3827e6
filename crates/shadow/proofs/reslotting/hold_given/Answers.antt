use Rattle.std.proofs.Common.{◌+◌, ◌∙◌, sym, subst}
use Rattle.store.specs.Numbers.{Numbers}
use Rattle.shadow.specs.Laid.{AreHeld}
use Rattle.shadow.proofs.committing.HeldSteps.{IsMoreTo, more_all, more_none, more_one}
use Rattle.shadow.proofs.reslotting.hold_given.Goals as goal
use Rattle.shadow.proofs.reslotting.hold_given.Goals.{in-Some-get, in_default-get}

pub loop-fd-init : goal.loop-fd-init
loop-fd-init c = more_none c.args.patch.now c.args.store.now

pub loop-fd-preserved : goal.loop-fd-preserved
loop-fd-preserved c =
    let s : Numbers = c.args.store.now in
    let next = c.in-Some.ensures.value in
    subst (λ f. AreHeld (IsMoreTo c.args.patch.now (f + 1)) s c.match-get.store) (sym c.fd.view_is)
    (elim c.match-get.branch [
      | in-Some-get w ↦ subst (λ (t : Numbers). AreHeld (IsMoreTo c.args.patch.now (c.in-Some.fd + 1)) s t) (sym w.store-is)
          (more_one c.args.patch.now s c.loop-fd.store c.loop-fd.from c.loop-fd.invariant c.in-Some.fd w.in-Some-get.given w.count_more.new.store
          next.0 (sym c.get.ensures ∙ w.in-Some-get.is) next.2 w.count_more.ensures)
      | in_default-get w ↦ absurd (next.1 (sym c.get.ensures ∙ w.in_default-get.is))
    ])

pub returns-clause-held : goal.returns-clause-held
returns-clause-held c = more_all c.args.patch.now c.args.store.now c.loop-fd.store c.loop-fd.from c.loop-fd.invariant c.in_default.ensures.value
