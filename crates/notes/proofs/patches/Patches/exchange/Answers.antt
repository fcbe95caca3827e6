use Rattle.std.proofs.Common.{sym, subst}
use Rattle.model.specs.Changes.{Edit}
use Rattle.notes.specs.Steps.{TakesIn}
use Rattle.notes.proofs.Outcomes.{ok_so}
use Rattle.notes.proofs.patches.Patches.exchange.Goals as goal

pub returns-clause-ok : goal.returns-clause-ok
returns-clause-ok c =
    ok_so c.swap-noted.result
    (λ t. subst (λ (e : Edit). TakesIn c.args.chosen.now e c.args.self.now c.swap-noted.new.self) (sym c.in-Swap.is) (t c.args.chosen.now))
    c.swap-noted.ensures.ok
