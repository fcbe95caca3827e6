use Rattle.std.proofs.Common.{◌+◌, ℕ, List, Some, sym, ap, subst, ◌∙◌}
use Rattle.std.specs.List.{flat_map}
use Rattle.model.specs.FiniteMap.{entries}
use Rattle.fdtable.specs.Patches.{Given}
use Rattle.freeing_laws.specs.Sweep.{all_closed}
use Rattle.store.specs.Numbers.{Numbers}
use Rattle.shadow.specs.Laid.{given_by}
use Rattle.shadow.proofs.freeing.RemovalSteps.{Leaves, given_end, given_from, given_start, gives_none, gives_one}
use Rattle.shadow.proofs.closing.close_given.Goals as goal
use Rattle.shadow.proofs.closing.close_given.Goals.{in-Some-Some, in-Some-None, in-None}

pub loop-fd-init : goal.loop-fd-init
loop-fd-init c = given_start c.args.former.now c.args.store.now c.requires

pub close-requires : goal.close-requires
close-requires c = c.loop-fd.invariant.some

pub loop-fd-preserved : goal.loop-fd-preserved
loop-fd-preserved c =
    let s : Numbers = c.args.store.now in
    let g : Given = c.args.former.now in
    let all : List ℕ = flat_map (λ g. given_by g.1) (entries g) in
    let next = c.in-Some.ensures.value in
    subst (λ f. Leaves all_closed s c.match-get.store all (given_from g (f + 1))) (sym c.fd.view_is)
    (elim c.match-get.branch [
      | in-Some-Some w ↦
          subst (λ (t : Numbers). Leaves all_closed s t all (given_from g (c.in-Some.fd + 1))) (sym w.store-is)
          (gives_one g c.loop-fd.from c.in-Some.fd next.0 next.2 s c.loop-fd.store all c.loop-fd.invariant
          w.in-Some-Some.description (sym c.get.ensures ∙ w.in-Some-Some.is ∙ ap Some w.in-Some-Some.field-0-is) w.close.new.store w.close.ensures)
      | in-Some-None w ↦
          subst (λ (t : Numbers). Leaves all_closed s t all (given_from g (c.in-Some.fd + 1))) (sym w.store-is)
          (gives_none g c.loop-fd.from c.in-Some.fd next.0 next.2 s c.loop-fd.store all c.loop-fd.invariant
          (sym c.get.ensures ∙ w.in-Some-None.is ∙ ap Some w.in-Some-None.field-0-is))
      | in-None w ↦ absurd (next.1 (sym c.get.ensures ∙ w.in-None.is))
    ])

pub returns : goal.returns
returns c = given_end c.args.former.now c.args.store.now c.loop-fd.store c.loop-fd.from c.in_default.ensures.value c.loop-fd.invariant
