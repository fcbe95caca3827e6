use Rattle.std.proofs.Common.{◌+◌, sym, subst, ◌∙◌}
use Rattle.model.specs.FiniteMap.{values}
use Rattle.freeing_laws.specs.Sweep.{all_closed}
use Rattle.store.specs.Numbers.{Numbers}
use Rattle.shadow.proofs.freeing.RemovalSteps.{Leaves, open_end, open_from, open_one, open_start}
use Rattle.shadow.proofs.closing.close_all.Goals as goal
use Rattle.shadow.proofs.closing.close_all.Goals.{in-Some-get, in_default-get}

pub loop-fd-init : goal.loop-fd-init
loop-fd-init c = open_start c.args.former.now c.args.store.now c.requires

pub close-requires : goal.close-requires
close-requires c = c.loop-fd.invariant.some

pub loop-fd-preserved : goal.loop-fd-preserved
loop-fd-preserved c =
    let s : Numbers = c.args.store.now in
    let next = c.in-Some.ensures.value in
    subst (λ f. Leaves all_closed s c.match-get.store (values c.args.former.now) (open_from c.args.former.now (f + 1))) (sym c.fd.view_is)
    (elim c.match-get.branch [
      | in-Some-get w ↦
          subst (λ (t : Numbers). Leaves all_closed s t (values c.args.former.now) (open_from c.args.former.now (c.in-Some.fd + 1))) (sym w.store-is)
          (open_one c.args.former.now c.loop-fd.from c.in-Some.fd next.0 next.2 s c.loop-fd.store (values c.args.former.now) c.loop-fd.invariant
          w.in-Some-get.description (sym c.get.ensures.value ∙ w.in-Some-get.is) w.close.new.store w.close.ensures)
      | in_default-get w ↦ absurd (next.1 (sym c.get.ensures.value ∙ w.in_default-get.is))
    ])

pub returns : goal.returns
returns c = open_end c.args.former.now c.args.store.now c.loop-fd.store c.loop-fd.from c.in_default.ensures.value c.loop-fd.invariant
