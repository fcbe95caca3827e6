use Rattle.std.proofs.Common.{ℕ, Option, refl, sym, ap, ◌∙◌}
use Rattle.model.specs.Plan.{EMFILE, or_refuse}
use Rattle.walk.proofs.Laws.{gives, via}
use Rattle.calls.proofs.own.free_from.Goals as goal

pub returns-in-Some-clause-value : goal.returns-in-Some-clause-value
returns-in-Some-clause-value g c before = via (ap (λ (fd : Option ℕ). or_refuse EMFILE fd) (sym c.free_from.ensures.value ∙ c.in-Some.is)) gives

pub returns-in-None-clause-value : goal.returns-in-None-clause-value
returns-in-None-clause-value g c before = via (ap (λ (fd : Option ℕ). or_refuse EMFILE fd) (sym c.free_from.ensures.value ∙ c.in-None.is)) (record { is = refl })
