use Rattle.std.proofs.Common.{Some, ap, ◌∙◌}
use Rattle.model.specs.State.{Description}
use Rattle.plain_kernel.proofs.Opened.{counted_moved, opened_as}
use Rattle.plain_kernel.proofs.descriptions.Descriptions.set_offset.Goals as goal

pub invariant_of-self : goal.invariant_of-self
invariant_of-self c =
    let inside = c.description.inside in
    let old : Description = record { inode = inside.inode; reading = inside.reading; writing = inside.writing; appending = inside.appending; offset = inside.offset } in
    opened_as _ c.change.new.self c.self.inside.openings c.change.ensures
    (counted_moved c.self.inside.each c.self.inside.openings c.self.inside.openings c.self.invariant c.args.num c.args.offset old (ap Some c.description.view_is ∙ c.in-Some.ensures))
