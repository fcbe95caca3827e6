use Rattle.std.proofs.Common.{Option, ap, ◌∙◌}
use Rattle.store.specs.Places.{file_in, openings_of}
use Rattle.store.specs.declared.Place.{Place}
use Rattle.store.proofs.Rows.{slot}
use Rattle.store.proofs.Store.openings.Goals as goal

pub returns : goal.returns
returns c = c.openings_at.ensures ∙ ap (λ (o : Option Place). openings_of (file_in o)) (slot _ c.self.inside.headers _ c.self.view_is _ _ c.num.view_is)
