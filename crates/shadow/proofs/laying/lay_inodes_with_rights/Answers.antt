use Rattle.std.proofs.Common.{◌∙◌, sym, ap, subst}
use Rattle.model.specs.FiniteMap.{get}
use Rattle.shadow.specs.Laid.{IsCarried}
use Rattle.notes.specs.Patches.{kept_at, rights_over}
use Rattle.shadow.proofs.committing.RightsSteps.{set_then}
use Rattle.shadow.proofs.laying.lay_inodes_with_rights.Goals as goal

pub lay_rights-requires : goal.lay_rights-requires
lay_rights-requires c =
    set_then c.args.store.now c.lay_inodes.new.store c.args.inodes c.args.rights.now
    c.requires.ready c.lay_inodes.ensures.places c.requires.set

pub returns-clause-root : goal.returns-clause-root
returns-clause-root c = c.lay_rights.ensures.root ∙ c.lay_inodes.ensures.root

pub returns-clause-places : goal.returns-clause-places
returns-clause-places c = λ n.
    subst (λ m. IsCarried (kept_at c.args.inodes n) (get c.args.store.now.places n) (get m n))
    (sym c.lay_rights.ensures.places) (c.lay_inodes.ensures.places n)

pub returns-clause-rights : goal.returns-clause-rights
returns-clause-rights c = λ n.
    c.lay_rights.ensures.each n
    ∙ ap (λ m. rights_over (kept_at c.args.rights.now n) (get m n)) c.lay_inodes.ensures.rights
