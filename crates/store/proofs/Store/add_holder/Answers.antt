use Rattle.std.proofs.Common.{◌+◌, ◌<◌, ◌^◌, Option, refl, sym, ap, subst, ◌∙◌}
use Rattle.store.specs.declared.Place.{Place}
use Rattle.store.specs.Places.{holders_of, more_holders, opened_in, with_opened}
use Rattle.store.specs.Shown.{descriptions, inodes}
use Rattle.store.proofs.Counted.{counted-altered, kept-opened}
use Rattle.store.proofs.Rows.{slot, store-altered}
use Rattle.store.proofs.Changes.{descriptions-opened, inodes-opened}
use Rattle.store.proofs.Store.add_holder.Goals as goal

pub add_holder_at-requires : goal.add_holder_at-requires
add_holder_at-requires c = subst (λ (o : Option Place). holders_of (opened_in o) + 1 < 2 ^ 128) (sym (slot _ c.self.inside.headers _ c.self.view_is _ _ c.num.view_is)) c.requires

pub invariant_of-self : goal.invariant_of-self
invariant_of-self c = counted-altered (with_opened more_holders) _ _ _ c.self.invariant c.add_holder_at.ensures (λ header _. kept-opened more_holders header)

pub returns-clause-counted : goal.returns-clause-counted
returns-clause-counted c = store-altered _ _ _ _ c.self.view_is _ _ c.num.view_is (with_opened more_holders) c.add_holder_at.ensures

pub returns-clause-shown : goal.returns-clause-shown
returns-clause-shown c = ap inodes (returns-clause-counted c) ∙ inodes-opened more_holders c.args.self.now c.args.num

pub returns-clause-open : goal.returns-clause-open
returns-clause-open c = ap descriptions (returns-clause-counted c) ∙ descriptions-opened more_holders (λ _. refl) c.args.self.now c.args.num
