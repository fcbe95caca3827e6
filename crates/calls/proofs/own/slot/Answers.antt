use Rattle.std.proofs.Common.{Option, refl, sym, ap, ◌∙◌}
use Rattle.model.specs.Plan.{EBADF, or_refuse}
use Rattle.model.specs.Calls.{Slot}
use Rattle.walk.proofs.Laws.{gives, via}
use Rattle.calls.proofs.own.slot.Goals as goal

pub returns-in-Some : goal.returns-in-Some
returns-in-Some g c before = via (ap (λ (it : Option Slot). or_refuse EBADF it) (sym c.slot.ensures ∙ c.in-Some.is)) gives

pub returns-in-None : goal.returns-in-None
returns-in-None g c before = via (ap (λ (it : Option Slot). or_refuse EBADF it) (sym c.slot.ensures ∙ c.in-None.is)) (record { is = refl })
