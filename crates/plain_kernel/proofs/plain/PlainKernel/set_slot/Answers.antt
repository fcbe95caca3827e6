use Rattle.std.proofs.Common.{◌-◌, Option, ℕ, refl, ap, ◌∙◌}
use Rattle.plain_kernel.specs.Holders.{held_at, is_sought, passing_once}
use Rattle.plain_kernel.proofs.Holding.{held_set, held_with}
use Rattle.plain_kernel.proofs.plain.PlainKernel.set_slot.Goals as goal

pub invariant_of-self-in-Ok : goal.invariant_of-self-in-Ok
invariant_of-self-in-Ok c =
    let ds = c.self.inside.descriptions in (
      c.self.invariant.0,
      held_with ds ds _ c.set_slot.new.processes c.let_some_go.new.self refl c.in-Ok.ensures.changed
          (held_set ds c.self.inside.processes c.self.inside.holders c.let_some_go.new.self c.self.invariant.1 c.key_of.result _ c.hold.new.self c.args.num c.in_ok-hold.ensures.gained
          (λ s. c.let_some_go.ensures s ∙ ap (λ (o : Option ℕ). held_at c.hold.new.self s - passing_once (is_sought ds s) o) c.in-Ok.ensures.before)),
    )
