use Rattle.std.proofs.Common.{◌-◌, Option, ℕ, refl, ap, ◌∙◌}
use Rattle.plain_kernel.specs.Holders.{held_at, is_sought, passing_once}
use Rattle.plain_kernel.proofs.Holding.{held_cleared, held_with}
use Rattle.plain_kernel.proofs.plain.PlainKernel.clear_slot.Goals as goal

pub invariant_of-self-2 : goal.invariant_of-self-2
invariant_of-self-2 c =
    let ds = c.self.inside.descriptions in
    let holders = c.self.inside.holders in (
      c.self.invariant.0,
      held_with ds ds _ c.clear_slot.new.processes c.let_some_go.new.self refl c.in_ok-before.ensures.changed
          (held_cleared ds c.self.inside.processes holders c.let_some_go.new.self c.self.invariant.1 c.key_of.result _
          (λ s. c.let_some_go.ensures s ∙ ap (λ (o : Option ℕ). held_at holders s - passing_once (is_sought ds s) o) c.in_ok-before.ensures.before)),
    )
