use Rattle.std.proofs.Common.{◌+◌, ◌-◌, ◌==◌, cond, Option, ap, ◌∙◌}
use Rattle.model.specs.State.{Description}
use Rattle.plain_kernel.specs.Counts.{count_at, opened_once}
use Rattle.plain_kernel.proofs.Opened.{counted_opened, opened_as}
use Rattle.plain_kernel.proofs.descriptions.Descriptions.insert.Goals as goal

pub invariant_of-self-in-Ok : goal.invariant_of-self-in-Ok
invariant_of-self-in-Ok c =
    opened_as _ c.insert.new.self c.lose_opening.new.openings c.in-Ok.ensures.changed
    (counted_opened c.self.inside.each c.self.inside.openings c.lose_opening.new.openings c.self.invariant c.args.num c.gain.new.counts c.args.description
    (λ n. c.in_ok-gain.ensures.gained n ∙ ap (λ (d : Description). count_at c.self.inside.openings n + cond (d.inode == n) 1 0) c.description.view_is)
    (λ n. c.lose_opening.ensures n ∙ ap (λ (o : Option Description). count_at c.gain.new.counts n - opened_once n o) (c.as_ref.ensures.value ∙ c.in-Ok.ensures.before)))
