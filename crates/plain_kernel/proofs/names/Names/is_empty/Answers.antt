use Rattle.std.proofs.Common.{sym, ap, ◌∙◌}
use Rattle.std.specs.Map.{keys_of}
use Rattle.model.specs.FiniteMap as finite
use Rattle.model.specs.Paths.{is_empty}
use Rattle.plain_kernel.proofs.Orders.{name_total}
use Rattle.plain_kernel.proofs.Trees.{entries_made, none_there}
use Rattle.plain_kernel.proofs.names.Names.is_empty.Goals as goal

pub returns : goal.returns
returns c =
    none_there c.is_empty.result c.self.inside.given.entries c.is_empty.ensures
    ∙ ap (λ es. is_empty (keys_of es)) (sym (entries_made name_total c.self.inside.given.entries c.self.invariant))
    ∙ ap (λ m. is_empty (finite.keys m)) c.self.view_is
