use Rattle.std.proofs.Common.{[], ◌∷◌, ap, sym}
use Rattle.ids.specs.Rights.{owned}
use Rattle.model.specs.Changes.{Set_rights}
use Rattle.model.specs.Calls.{Done}
use Rattle.model.specs.Plans.{changed}
use Rattle.walk.proofs.Laws.{goes, via}
use Rattle.path_calls.proofs.rights.set_owner.Goals as goal

pub returns : goal.returns
returns g c = goes (λ rights. changed Done (Set_rights c.args.inode (owned c.args.kind c.args.owner rights) ∷ [])) c.in_ok-rights.ensures (via (ap (λ rights. changed Done (Set_rights c.args.inode rights ∷ [])) (sym c.owned-revised.ensures)) (c.done.ensures _ _))
