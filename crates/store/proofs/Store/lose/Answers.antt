use Rattle.std.proofs.Common.{◌≡◌, None, sym, ap, subst, ◌∙◌}
use Rattle.slab.specs.Slab.{Updates}
use Rattle.slab.specs.Slab as slab
use Rattle.std.specs.Option.{option_map}
use Rattle.model.specs.FiniteMap as map
use Rattle.model.specs.State.{names_of_inode}
use Rattle.store.specs.Headers.{at_place}
use Rattle.store.specs.Links.{links_in}
use Rattle.store.specs.Numbers.{Numbers}
use Rattle.store.specs.Places.{hidden, swept, unset}
use Rattle.store.specs.Shown.{descriptions, inodes}
use Rattle.store.proofs.Counted.{counted-altered, counted-set, counted_number, get-inodes_of, kept-hidden, names_at}
use Rattle.store.proofs.Rows.{numbers_of, store-altered, store-unset}
use Rattle.store.proofs.Changes.{descriptions-lost, inodes-lost, rights-lost}
use Rattle.store.proofs.Store.lose.Goals as goal

pub invariant_of-self : goal.invariant_of-self
invariant_of-self c =
    let headers = c.set_rights_at.new.headers in
    let counted = counted-set None _ _ _ c.self.invariant c.set_rights_at.ensures in
    let unset_is : numbers_of c.self.inside.root headers ≡ unset c.args.self.now c.args.num = store-unset _ _ _ _ c.self.view_is _ _ c.num.view_is c.set_rights_at.ensures in
    counted-altered hidden _ _ _ counted
    (subst (λ k. Updates headers c.hide_at.new.headers k (option_map (at_place hidden) (slab.get headers k))) c.num.view_is c.hide_at.ensures)
    (λ header found sound. kept-hidden header sound
    (counted_number headers counted _ header found ∙ ap (λ (s : Numbers). links_in (inodes s) c.args.num) unset_is ∙ c.requires.unnamed)
    (ap names_at (sym found) ∙ sym (ap names_of_inode (get-inodes_of headers _)) ∙ ap (λ (s : Numbers). names_of_inode (map.get (inodes s) c.args.num)) unset_is ∙ c.requires.bare))

pub returns-clause-lost : goal.returns-clause-lost
returns-clause-lost c = c.sweep.ensures ∙ ap (λ s. swept s c.args.num)
    (store-altered _ _ _ _ (store-unset _ _ _ _ c.self.view_is _ _ c.num.view_is c.set_rights_at.ensures) _ _ c.num.view_is hidden c.hide_at.ensures)

pub returns-clause-shown : goal.returns-clause-shown
returns-clause-shown c = ap inodes (returns-clause-lost c) ∙ inodes-lost c.args.self.now c.args.num

pub returns-clause-open : goal.returns-clause-open
returns-clause-open c = ap descriptions (returns-clause-lost c) ∙ descriptions-lost c.args.self.now c.args.num

pub returns-clause-unset : goal.returns-clause-unset
returns-clause-unset c = ap (λ (s : Numbers). s.rights) (returns-clause-lost c) ∙ rights-lost c.args.self.now c.args.num
