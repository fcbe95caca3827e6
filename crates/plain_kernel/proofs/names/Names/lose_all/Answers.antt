use Rattle.std.proofs.Common.{◌≡◌, ℕ, ◌-◌, ◌==◌, List, map, sym, ap, ◌∙◌}
use Rattle.std.proofs.lemmas.Map.Iter.{iter_end}
use Rattle.std.specs.List.{count_by}
use Rattle.std.specs.Map.{values_of}
use Rattle.std.specs.Map.Iter.{deref}
use Rattle.model.specs.State.{Name}
use Rattle.plain_kernel.specs.Counts.{count_at, times_given}
use Rattle.plain_kernel.proofs.Orders.{name_total}
use Rattle.plain_kernel.proofs.Trees.{entries_made}
use Rattle.plain_kernel.proofs.names.Names.lose_all.Goals as goal

pub returns : goal.returns
returns c = λ n.
    let es : List (Name × ℕ) = c.self.inside.given.entries in
    let shown : map deref c.loop-num.yielded ≡ values_of es
    = (iter_end deref (values_of es) c.loop-num.yielded c.into_iter-num-iterator.result c.loop-num.num-iterator c.next.new.self c.next.result (c.into_iter-num-iterator.ensures.into_iter_gives ∙ c.values-num-items.ensures.rest) c.loop-num.yielded_by c.in-None.is c.next.ensures.steps).0 in
    c.loop-num.invariant n
    ∙ ap (λ (ns : List ℕ). count_at c.args.counts.now n - count_by (λ m. m == n) ns) (shown ∙ ap values_of (sym (entries_made name_total es c.self.invariant)))
    ∙ ap (λ m. count_at c.args.counts.now n - times_given n m) c.self.view_is
