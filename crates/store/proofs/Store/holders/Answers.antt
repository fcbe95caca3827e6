use Rattle.std.proofs.Common.{Option, ap, ◌∙◌}
use Rattle.store.specs.Places.{holders_of, opened_in}
use Rattle.store.specs.declared.Place.{Place}
use Rattle.store.proofs.Rows.{slot}
use Rattle.store.proofs.Store.holders.Goals as goal

pub returns : goal.returns
returns c = c.holders_at.ensures ∙ ap (λ (o : Option Place). holders_of (opened_in o)) (slot _ c.self.inside.headers _ c.self.view_is _ _ c.num.view_is)
