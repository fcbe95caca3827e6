use Rattle.std.proofs.Common.{refl, ap, ◌∙◌}
use Rattle.std.specs.Ordering.{eq_by_cmp}
use Rattle.model.specs.FiniteMap as finite
use Rattle.nodes.specs.Parts.{Numbered}
use Rattle.nodes.specs.DirectoryEntries.{entry_cmp, entry_cmp_total, entry_exact}
use Rattle.model.proofs.Laws.{removed}
use Rattle.nodes.proofs.index.Index.remove.Goals as goal

pub returns-clause-numbers : goal.returns-clause-numbers
returns-clause-numbers c =
    removed entry_cmp_total entry_exact (eq_by_cmp entry_cmp) (λ x y. refl) c.self.inside.numbers.entries c.remove.new.self.entries c.args.entry.now c.remove.ensures.updates.0
    ∙ ap (λ (i : Numbered). finite.remove i.numbers c.args.entry.now) c.self.view_is
