use Rattle.std.proofs.Common.{◌∙◌}
use Rattle.store.proofs.Rows.{slot-rights}
use Rattle.store.proofs.Store.rights.Goals as goal

pub returns : goal.returns
returns c = c.rights_at.ensures ∙ slot-rights _ c.self.inside.headers _ c.self.view_is _ _ c.num.view_is
