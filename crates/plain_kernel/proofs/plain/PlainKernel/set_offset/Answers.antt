use Rattle.plain_kernel.proofs.Holding.{held_moved}
use Rattle.plain_kernel.proofs.Setting.{offset_set}
use Rattle.plain_kernel.proofs.plain.PlainKernel.set_offset.Goals as goal

pub invariant_of-self : goal.invariant_of-self
invariant_of-self c =
    (c.self.invariant.0, held_moved c.self.inside.descriptions c.set_offset.new.self c.self.inside.processes c.self.inside.holders c.self.invariant.1 c.args.num c.args.offset c.set_offset.ensures)

pub returns : goal.returns
returns c = offset_set _ _ _ c.args.num c.args.offset c.self.view_is c.set_offset.ensures
