use Rattle.std.proofs.Common.{◌+◌, sym, subst}
use Rattle.store.specs.Numbers.{Numbers}
use Rattle.shadow.specs.Laid.{AreHeld, IsOneLess}
use Rattle.shadow.proofs.committing.HeldSteps.{IsLessOpen, open_all, open_less, open_none}
use Rattle.shadow.proofs.reslotting.let_all_go.Goals as goal

pub loop-fd-init : goal.loop-fd-init
loop-fd-init c = open_none c.args.table.now c.args.store.now

pub loop-fd-preserved : goal.loop-fd-preserved
loop-fd-preserved c =
    let s : Numbers = c.args.store.now in
    let next = c.in-Some.ensures.value in
    subst (λ f. AreHeld (IsLessOpen c.args.table.now (f + 1)) s c.count_less.new.store) (sym c.fd.view_is)
    (open_less c.args.table.now s c.loop-fd.store c.loop-fd.from c.loop-fd.invariant c.in-Some.fd c.count_less.new.store next.0 next.1 next.2
    (subst (λ o. AreHeld (IsOneLess o) c.loop-fd.store c.count_less.new.store) c.get.ensures.value c.count_less.ensures))

pub returns : goal.returns
returns c = open_all c.args.table.now c.args.store.now c.loop-fd.store c.loop-fd.from c.loop-fd.invariant c.in_default.ensures.value
