use Rattle.std.proofs.Common.{◌-◌, Option, ap, ◌∙◌}
use Rattle.model.specs.State.{Description}
use Rattle.plain_kernel.specs.Counts.{count_at, opened_once}
use Rattle.plain_kernel.proofs.Opened.{counted_closed, opened_as}
use Rattle.plain_kernel.proofs.descriptions.Descriptions.remove.Goals as goal

pub invariant_of-self : goal.invariant_of-self
invariant_of-self c =
    opened_as _ c.remove-before.new.self c.lose_opening.new.openings c.remove-before.ensures.changed
    (counted_closed c.self.inside.each c.self.inside.openings c.lose_opening.new.openings c.self.invariant c.args.num
    (λ n. c.lose_opening.ensures n ∙ ap (λ (o : Option Description). count_at c.self.inside.openings n - opened_once n o) (c.as_ref.ensures.value ∙ c.remove-before.ensures.before)))
