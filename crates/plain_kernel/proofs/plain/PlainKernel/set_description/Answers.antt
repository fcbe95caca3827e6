use Rattle.std.proofs.Common.{◌-◌, Option, Some, refl, ap, ◌∙◌}
use Rattle.model.specs.State.{Description}
use Rattle.plain_kernel.specs.Holders.{One, ends_by, held_at}
use Rattle.plain_kernel.proofs.Holding.{held_back, held_described, held_with}
use Rattle.plain_kernel.proofs.plain.PlainKernel.set_description.Goals as goal

pub invariant_of-self-in-Ok : goal.invariant_of-self-in-Ok
invariant_of-self-in-Ok c = (
  c.self.invariant.0,
  held_described c.self.inside.descriptions c.self.inside.processes c.self.inside.holders c.lose_ends.new.self c.self.invariant.1 c.args.num c.of-held.result (c.of-held.ensures ∙ c.self.invariant.1 (One c.args.num))
      c.gain_ends.new.self c.insert.new.self c.args.description c.in-Ok.ensures.changed c.in_ok-gain_ends.ensures.gained
      (λ s. c.lose_ends.ensures s ∙ ap (λ (o : Option Description). held_at c.gain_ends.new.self s - ends_by c.of-held.result o s) (c.as_ref.ensures.value ∙ c.in-Ok.ensures.before)),
)

pub invariant_of-self-in-Err : goal.invariant_of-self-in-Err
invariant_of-self-in-Err c = (
  c.self.invariant.0,
  held_with c.self.inside.descriptions c.insert.new.self c.self.inside.processes c.self.inside.processes c.lose_ends-in-Err.new.self c.in-Err.ensures.err refl
      (held_back c.self.inside.descriptions c.self.inside.processes c.self.inside.holders c.lose_ends-in-Err.new.self c.self.invariant.1 c.gain_ends.new.self (ends_by c.of-held.result (Some c.args.description)) c.in_ok-gain_ends.ensures.gained c.lose_ends-in-Err.ensures),
)
