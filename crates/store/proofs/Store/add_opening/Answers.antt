use Rattle.std.proofs.Common.{◌+◌, ◌<◌, ◌^◌, Option, refl, sym, ap, subst, ◌∙◌}
use Rattle.store.specs.declared.Place.{Place}
use Rattle.store.specs.Places.{file_in, more_openings, openings_of, with_file}
use Rattle.store.specs.Shown.{descriptions, inodes}
use Rattle.store.proofs.Counted.{counted-altered, kept-file}
use Rattle.store.proofs.Rows.{slot, store-altered}
use Rattle.store.proofs.Changes.{descriptions-filed, inodes-filed}
use Rattle.store.proofs.Store.add_opening.Goals as goal

pub add_opening_at-requires : goal.add_opening_at-requires
add_opening_at-requires c = subst (λ (o : Option Place). openings_of (file_in o) + 1 < 2 ^ 128) (sym (slot _ c.self.inside.headers _ c.self.view_is _ _ c.num.view_is)) c.requires

pub invariant_of-self : goal.invariant_of-self
invariant_of-self c = counted-altered (with_file more_openings) _ _ _ c.self.invariant c.add_opening_at.ensures (λ header _. kept-file more_openings header)

pub returns-clause-counted : goal.returns-clause-counted
returns-clause-counted c = store-altered _ _ _ _ c.self.view_is _ _ c.num.view_is (with_file more_openings) c.add_opening_at.ensures

pub returns-clause-shown : goal.returns-clause-shown
returns-clause-shown c = ap inodes (returns-clause-counted c) ∙ inodes-filed more_openings (λ _. refl) c.args.self.now c.args.num

pub returns-clause-open : goal.returns-clause-open
returns-clause-open c = ap descriptions (returns-clause-counted c) ∙ descriptions-filed more_openings c.args.self.now c.args.num
