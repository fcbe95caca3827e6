use Rattle.std.proofs.Common.{subst}
use Rattle.notes.specs.Notes.{AtRights}
use Rattle.notes.proofs.RightsEdits.{Kept_rights, rights_at}
use Rattle.notes.proofs.new_rights.NewRights.set.Goals as goal

pub returns-clause-ok : goal.returns-clause-ok
returns-clause-ok c =
    subst (λ (rs : Kept_rights). AtRights c.args.num c.args.rights rs c.insert.new.self.entries) c.self.view_is
    (rights_at c.args.num c.args.rights c.self.inside.each.entries c.insert.new.self.entries c.in_ok-insert.ensures.updates.0)
