use Rattle.std.proofs.Common.{[], ◌∷◌, ap, sym}
use Rattle.ids.specs.Rights.{permitted}
use Rattle.model.specs.Changes.{Set_rights}
use Rattle.model.specs.Calls.{Done}
use Rattle.model.specs.Plans.{changed}
use Rattle.walk.proofs.Laws.{goes, via}
use Rattle.path_calls.proofs.rights.set_permissions.Goals as goal

pub returns : goal.returns
returns g c = goes (λ rights. changed Done (Set_rights c.args.inode (permitted c.args.permissions rights) ∷ [])) c.in_ok-rights.ensures (via (ap (λ rights. changed Done (Set_rights c.args.inode rights ∷ [])) (sym c.permitted-revised.ensures)) (c.done.ensures _ _))
