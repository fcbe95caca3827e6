use Rattle.std.proofs.Common.{◌≢◌, Some, None}
use Rattle.model.specs.FiniteMap as map
use Rattle.store.proofs.Counted.{counted-set}
use Rattle.store.proofs.Rows.{store-set}
use Rattle.store.proofs.Changes.{get-inodes_by}
use Rattle.store.proofs.Store.set_rights.Goals as goal

pub invariant_of-self : goal.invariant_of-self
invariant_of-self c = counted-set (Some c.args.rights) _ _ _ c.self.invariant c.set_rights_at.ensures

pub returns : goal.returns
returns c =
    let used : map.get c.args.self.now.places c.args.num ≢ None = λ none. c.requires (get-inodes_by c.args.self.now c.args.num None none) in
    store-set _ _ _ _ c.self.view_is _ _ c.num.view_is c.args.rights used c.set_rights_at.ensures
