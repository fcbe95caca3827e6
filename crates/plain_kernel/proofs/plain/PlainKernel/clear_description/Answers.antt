use Rattle.std.proofs.Common.{◌-◌, Option, ap, ◌∙◌}
use Rattle.model.specs.State.{Description}
use Rattle.plain_kernel.specs.Holders.{One, ends_by, held_at}
use Rattle.plain_kernel.proofs.Holding.{held_cleared_of}
use Rattle.plain_kernel.proofs.plain.PlainKernel.clear_description.Goals as goal

pub invariant_of-self : goal.invariant_of-self
invariant_of-self c =
    let holders = c.self.inside.holders in (
      c.self.invariant.0,
      held_cleared_of c.self.inside.descriptions c.self.inside.processes holders c.lose_ends.new.self c.self.invariant.1 c.args.num c.of-held.result (c.of-held.ensures ∙ c.self.invariant.1 (One c.args.num))
          c.remove-before.new.self c.remove-before.ensures.changed
          (λ s. c.lose_ends.ensures s ∙ ap (λ (o : Option Description). held_at holders s - ends_by c.of-held.result o s) (c.as_ref.ensures.value ∙ c.remove-before.ensures.before)),
    )
