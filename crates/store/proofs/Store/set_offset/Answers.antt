use Rattle.std.proofs.Common.{ap, ◌∙◌}
use Rattle.store.specs.Places.{moved_to, with_opened}
use Rattle.store.specs.Shown.{descriptions, inodes}
use Rattle.store.proofs.Counted.{counted-altered, kept-opened}
use Rattle.store.proofs.Rows.{store-altered}
use Rattle.store.proofs.Changes.{descriptions-moved, inodes-opened}
use Rattle.store.proofs.Store.set_offset.Goals as goal

pub invariant_of-self : goal.invariant_of-self
invariant_of-self c = counted-altered (with_opened (moved_to c.args.offset)) _ _ _ c.self.invariant c.set_offset_at.ensures (λ header _. kept-opened (moved_to c.args.offset) header)

pub returns-clause-moved : goal.returns-clause-moved
returns-clause-moved c = store-altered _ _ _ _ c.self.view_is _ _ c.num.view_is (with_opened (moved_to c.args.offset)) c.set_offset_at.ensures

pub returns-clause-shown : goal.returns-clause-shown
returns-clause-shown c = ap inodes (returns-clause-moved c) ∙ inodes-opened (moved_to c.args.offset) c.args.self.now c.args.num

pub returns-clause-open : goal.returns-clause-open
returns-clause-open c = ap descriptions (returns-clause-moved c) ∙ descriptions-moved c.args.offset c.args.self.now c.args.num
