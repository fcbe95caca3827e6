use Rattle.std.proofs.Common.{rules, ◌≡◌, Option, Some, None, false, ℕ, refl, sym, ◌∙◌}
use Rattle.std.specs.Option.{is_some}
use Rattle.fdtable.proofs.Taken.{remove_absent}
use Rattle.fdtable.proofs.pages.Pages.clear.Goals as goal

-- what is not some is none
not_some : (o : Option ℕ) → is_some o ≡ false → o ≡ None
not_some None e = refl
not_some (Some d) e = absurd cc

pub returns-else-is_some-clause-slots : goal.returns-else-is_some-clause-slots
returns-else-is_some-clause-slots c =
    let closed : is_some c.get.result ≡ false = search rules in
    remove_absent c.args.self.now.slots c.args.fd (sym c.get.ensures.value ∙ not_some c.get.result closed)
