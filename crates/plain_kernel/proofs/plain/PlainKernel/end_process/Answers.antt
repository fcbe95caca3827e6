use Rattle.std.proofs.Common.{◌-◌, Option, refl, ap, ◌∙◌}
use Rattle.model.specs.State.{Process}
use Rattle.model.specs.Changes.{or_new}
use Rattle.plain_kernel.specs.Holders.{held_at, is_sought, passing}
use Rattle.plain_kernel.proofs.Holding.{held_gone, held_with}
use Rattle.plain_kernel.proofs.plain.PlainKernel.end_process.Goals as goal

pub invariant_of-self : goal.invariant_of-self
invariant_of-self c =
    let ds = c.self.inside.descriptions in
    let holders = c.self.inside.holders in (
      c.self.invariant.0,
      held_with ds ds _ c.remove-before.new.self c.let_all_go.new.self refl c.remove-before.ensures.changed
          (held_gone ds c.self.inside.processes holders c.let_all_go.new.self c.self.invariant.1 c.key_of.result
          (λ s. c.let_all_go.ensures s ∙ ap (λ (o : Option Process). held_at holders s - passing (is_sought ds s) (or_new o)) (c.as_ref.ensures.value ∙ c.remove-before.ensures.before))),
    )
