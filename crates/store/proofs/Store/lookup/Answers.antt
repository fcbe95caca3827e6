use Rattle.std.proofs.Common.{ℕ, sym, ap, ◌∙◌}
use Rattle.model.specs.FiniteMap as map
use Rattle.model.specs.FiniteMap.{FinMap}
use Rattle.model.specs.State.{name_cmp}
use Rattle.store.proofs.Store.lookup.Goals as goal

pub returns-in-None : goal.returns-in-None
returns-in-None c = sym (ap (λ (names : FinMap name_cmp ℕ). map.get names c.args.name.now) c.in-None.ensures.shown ∙ map.get-empty name_cmp c.args.name.now)
