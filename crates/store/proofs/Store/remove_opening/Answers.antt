use Rattle.std.proofs.Common.{refl, ap, ◌∙◌}
use Rattle.store.specs.Places.{less_openings, with_file}
use Rattle.store.specs.Shown.{descriptions, inodes}
use Rattle.store.proofs.Counted.{counted-altered, kept-file}
use Rattle.store.proofs.Rows.{store-altered}
use Rattle.store.proofs.Changes.{descriptions-filed, inodes-filed}
use Rattle.store.proofs.Store.remove_opening.Goals as goal

pub invariant_of-self : goal.invariant_of-self
invariant_of-self c = counted-altered (with_file less_openings) _ _ _ c.self.invariant c.remove_opening_at.ensures (λ header _. kept-file less_openings header)

pub returns-clause-counted : goal.returns-clause-counted
returns-clause-counted c = store-altered _ _ _ _ c.self.view_is _ _ c.num.view_is (with_file less_openings) c.remove_opening_at.ensures

pub returns-clause-shown : goal.returns-clause-shown
returns-clause-shown c = ap inodes (returns-clause-counted c) ∙ inodes-filed less_openings (λ _. refl) c.args.self.now c.args.num

pub returns-clause-open : goal.returns-clause-open
returns-clause-open c = ap descriptions (returns-clause-counted c) ∙ descriptions-filed less_openings c.args.self.now c.args.num
