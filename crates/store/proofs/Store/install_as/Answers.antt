use Rattle.std.proofs.Common.{◌≡◌, Some, sym, ap, ◌∙◌}
use Rattle.store.specs.Headers.{place_of}
use Rattle.store.specs.Numbers.{coming, present}
use Rattle.store.specs.Shown.{descriptions, inodes}
use Rattle.store.specs.declared.Header.{Header}
use Rattle.store.specs.declared.Object.TheVariants.{Nothing}
use Rattle.store.proofs.Counted.{counted-altered, kept-settled}
use Rattle.store.proofs.Rows.{slot, store-altered}
use Rattle.store.proofs.Changes.{altered-some, descriptions-set, inodes-set}
use Rattle.store.proofs.Store.install_as.Goals as goal

pub settle_at-requires : goal.settle_at-requires
settle_at-requires c = slot _ c.self.inside.headers _ c.self.view_is _ _ c.num.view_is ∙ c.requires.coming

pub invariant_of-self : goal.invariant_of-self
invariant_of-self c = counted-altered (λ _. present c.args.object) _ _ _ c.self.invariant c.settle_at.ensures (λ header found _. kept-settled c.args.object c.requires.bare header (here header (sym (ap place_of found) ∙ slot _ c.self.inside.headers _ c.self.view_is _ _ c.num.view_is ∙ c.requires.coming)))
  where
    here : (header : Header) → Some header.place ≡ Some (coming Nothing) → header.place ≡ coming Nothing
    here header e = cc

pub returns-clause-installed : goal.returns-clause-installed
returns-clause-installed c = store-altered _ _ _ _ c.self.view_is _ _ c.num.view_is (λ _. present c.args.object) c.settle_at.ensures ∙ altered-some (λ _. present c.args.object) c.args.self.now c.args.num (coming Nothing) c.requires.coming

pub returns-clause-shown : goal.returns-clause-shown
returns-clause-shown c = ap inodes (returns-clause-installed c) ∙ inodes-set c.args.self.now c.args.num (present c.args.object)

pub returns-clause-open : goal.returns-clause-open
returns-clause-open c = ap descriptions (returns-clause-installed c) ∙ descriptions-set c.args.self.now c.args.num (present c.args.object)
