use Rattle.std.proofs.Common.{◌≡◌, ℕ, List, map, sym, ap, ◌∙◌}
use Rattle.std.proofs.lemmas.Map.Iter.{iter_end}
use Rattle.std.specs.Map.{keys_of}
use Rattle.std.specs.Map.Iter.{deref}
use Rattle.model.specs.FiniteMap as finite
use Rattle.model.specs.State.{Name}
use Rattle.plain_kernel.proofs.Orders.{name_total}
use Rattle.plain_kernel.proofs.Trees.{entries_made}
use Rattle.plain_kernel.proofs.names.Names.names.Goals as goal

pub returns : goal.returns
returns c =
    let es : List (Name × ℕ) = c.self.inside.given.entries in
    let shown : map deref c.loop-name.yielded ≡ keys_of es
    = (iter_end deref (keys_of es) c.loop-name.yielded c.into_iter-name-iterator.result c.loop-name.name-iterator c.next.new.self c.next.result (c.into_iter-name-iterator.ensures.into_iter_gives ∙ c.keys-name-items.ensures.rest) c.loop-name.yielded_by c.in-None.is c.next.ensures.steps).0 in
    c.new.ensures ∙ c.loop-name.invariant ∙ shown ∙ ap keys_of (sym (entries_made name_total es c.self.invariant)) ∙ ap finite.keys c.self.view_is
