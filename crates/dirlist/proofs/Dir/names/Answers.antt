use Rattle.std.proofs.Common.{◌≡◌, ℕ, List, IsPermutation, map, ap, subst, ◌∙◌}
use Rattle.std.proofs.lemmas.Map.Iter.{iter_end}
use Rattle.std.specs.Map.{keys_of}
use Rattle.std.specs.Map.Iter.{deref}
use Rattle.model.specs.FiniteMap as finite
use Rattle.model.specs.State.{Name}
use Rattle.dirlist.specs.Listing.{Listing}
use Rattle.dirlist.proofs.Laid.{table_sorted}
use Rattle.dirlist.proofs.Dir.names.Goals as goal

pub returns : goal.returns
returns c =
    let es : List (Name × ℕ) = c.self.inside.numbers.entries in
    let shown : map deref c.loop-name.yielded ≡ keys_of es
    = (iter_end deref (keys_of es) c.loop-name.yielded c.into_iter-name-iterator.result c.loop-name.name-iterator c.next.new.self c.next.result (c.into_iter-name-iterator.ensures.into_iter_gives ∙ c.keys-name-items.ensures.rest) c.loop-name.yielded_by c.in-None.is c.next.ensures.steps).0 in
    let moved : IsPermutation (keys_of es) c.sort_names.new.names.items
    = subst (λ (us : List Name). IsPermutation us c.sort_names.new.names.items) (c.loop-name.invariant ∙ shown) c.sort_names.ensures.permutation in
    c.new.ensures ∙ table_sorted es c.keys-name-items.ensures.unique c.sort_names.new.names.items moved c.sort_names.ensures.sorted
    ∙ ap (λ (d : Listing). finite.keys d.names) c.self.view_is
