use Rattle.std.proofs.Common.{refl, ap, ◌∙◌}
use Rattle.store.specs.Places.{less_holders, with_opened}
use Rattle.store.specs.Shown.{descriptions, inodes}
use Rattle.store.proofs.Counted.{counted-altered, kept-opened}
use Rattle.store.proofs.Rows.{store-altered}
use Rattle.store.proofs.Changes.{descriptions-opened, inodes-opened}
use Rattle.store.proofs.Store.remove_holder.Goals as goal

pub invariant_of-self : goal.invariant_of-self
invariant_of-self c = counted-altered (with_opened less_holders) _ _ _ c.self.invariant c.remove_holder_at.ensures (λ header _. kept-opened less_holders header)

pub returns-clause-counted : goal.returns-clause-counted
returns-clause-counted c = store-altered _ _ _ _ c.self.view_is _ _ c.num.view_is (with_opened less_holders) c.remove_holder_at.ensures

pub returns-clause-shown : goal.returns-clause-shown
returns-clause-shown c = ap inodes (returns-clause-counted c) ∙ inodes-opened less_holders c.args.self.now c.args.num

pub returns-clause-open : goal.returns-clause-open
returns-clause-open c = ap descriptions (returns-clause-counted c) ∙ descriptions-opened less_holders (λ _. refl) c.args.self.now c.args.num
