use Rattle.std.proofs.Common.{◌+◌, ◌-◌, Option, refl, ap, ◌∙◌}
use Rattle.model.specs.State.{Process}
use Rattle.model.specs.Changes.{or_new}
use Rattle.plain_kernel.specs.Holders.{held_at, is_sought, passing}
use Rattle.plain_kernel.proofs.Holding.{held_copied, held_with}
use Rattle.plain_kernel.proofs.plain.PlainKernel.new_process.Goals as goal

pub invariant_of-self-in-Ok : goal.invariant_of-self-in-Ok
invariant_of-self-in-Ok c =
    let ds = c.self.inside.descriptions in
    let holders = c.self.inside.holders in (
      c.self.invariant.0,
      held_with ds ds _ c.copy.new.processes c.let_all_go.new.self refl c.in-Ok.ensures.changed
          (held_copied ds c.self.inside.processes holders c.let_all_go.new.self c.self.invariant.1 c.hold_all.new.self c.key_of.result c.key_of-parent.result
          (λ s. c.in_ok-hold_all.ensures.gained s ∙ ap (λ (o : Option Process). held_at holders s + passing (is_sought ds s) (or_new o)) c.get-held.ensures)
          (λ s. c.let_all_go.ensures s ∙ ap (λ (o : Option Process). held_at c.hold_all.new.self s - passing (is_sought ds s) (or_new o)) (c.as_ref.ensures.value ∙ c.in-Ok.ensures.before))),
    )
