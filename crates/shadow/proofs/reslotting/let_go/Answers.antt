use Rattle.std.proofs.Common.{◌+◌, ◌∙◌, sym, subst}
use Rattle.store.specs.Numbers.{Numbers}
use Rattle.shadow.specs.Laid.{AreHeld}
use Rattle.shadow.proofs.committing.HeldSteps.{IsLessTo, less_all, less_none, less_one}
use Rattle.shadow.proofs.reslotting.let_go.Goals as goal
use Rattle.shadow.proofs.reslotting.let_go.Goals.{in-Some-get, in_default-get}

pub loop-fd-init : goal.loop-fd-init
loop-fd-init c = less_none c.args.former.now c.args.store.now

pub loop-fd-preserved : goal.loop-fd-preserved
loop-fd-preserved c =
    let s : Numbers = c.args.store.now in
    let next = c.in-Some.ensures.value in
    subst (λ f. AreHeld (IsLessTo c.args.former.now (f + 1)) s c.match-get.store) (sym c.fd.view_is)
    (elim c.match-get.branch [
      | in-Some-get w ↦ subst (λ (t : Numbers). AreHeld (IsLessTo c.args.former.now (c.in-Some.fd + 1)) s t) (sym w.store-is)
          (less_one c.args.former.now s c.loop-fd.store c.loop-fd.from c.loop-fd.invariant c.in-Some.fd w.in-Some-get.given w.count_less.new.store
          next.0 (sym c.get.ensures ∙ w.in-Some-get.is) next.2 w.count_less.ensures)
      | in_default-get w ↦ absurd (next.1 (sym c.get.ensures ∙ w.in_default-get.is))
    ])

pub returns : goal.returns
returns c = less_all c.args.former.now c.args.store.now c.loop-fd.store c.loop-fd.from c.loop-fd.invariant c.in_default.ensures.value
