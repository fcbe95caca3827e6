use Rattle.std.proofs.Common.{sym, subst}
use Rattle.shadow.specs.Laid.{IsReopened}
use Rattle.shadow.proofs.committing.MovedDescription.{opening_moved}
use Rattle.shadow.proofs.laying.lay_opening.Goals as goal

pub returns-in-Moved : goal.returns-in-Moved
returns-in-Moved c = subst (λ o. IsReopened c.args.num o c.args.store.now c.set_offset.new.self)
    (sym c.in-Moved.is)
    (opening_moved c.args.store.now c.args.num c.in-Moved.offset c.set_offset.new.self
    c.set_offset.ensures.moved)
