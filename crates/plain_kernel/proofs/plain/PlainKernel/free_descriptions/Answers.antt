use Rattle.std.proofs.Common.{◌≡◌, sym, ap, ◌∙◌}
use Rattle.std.proofs.lemmas.List.{drop_all}
use Rattle.freeing_laws.specs.Counts.{free_description}
use Rattle.freeing_laws.specs.Sweep.{free_descriptions}
use Rattle.plain_kernel.proofs.Freed.{description_freed, description_kept, descriptions_step}
use Rattle.plain_kernel.proofs.plain.PlainKernel.free_descriptions.Goals as goal
use Rattle.plain_kernel.proofs.plain.PlainKernel.free_descriptions.Goals.{then-not-is_held, else-not-is_held}

pub loop-num-preserved : goal.loop-num-preserved
loop-num-preserved c =
    let freed : c.if-not-is_held.self ≡ free_description c.num-item.result c.loop-num.self = elim c.if-not-is_held.branch [
      | then-not-is_held w ↦ w.self-is ∙ description_freed _ _ _ (sym c.is_held.ensures ∙ w.if-not-is_held.true) w.clear_description.ensures
      | else-not-is_held w ↦ w.self-is ∙ description_kept _ _ (sym c.is_held.ensures ∙ w.if-not-is_held.false)
    ] in
    descriptions_step c.args.nums.now c.loop-num.num-index c.num-item.result c.loop-num-test.true c.num-item.is _ c.loop-num.self c.if-not-is_held.self c.loop-num.invariant freed

pub returns : goal.returns
returns c = sym (c.loop-num.invariant ∙ ap (λ xs. free_descriptions xs c.loop-num.self) (drop_all _ _ c.loop-num-test.false))
