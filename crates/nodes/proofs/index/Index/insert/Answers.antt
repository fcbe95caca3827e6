use Rattle.std.proofs.Common.{refl, ap, ◌∙◌}
use Rattle.std.specs.Ordering.{eq_by_cmp}
use Rattle.model.specs.FiniteMap as finite
use Rattle.nodes.specs.Parts.{Numbered}
use Rattle.nodes.specs.DirectoryEntries.{entry_cmp, entry_cmp_total, entry_exact}
use Rattle.model.proofs.Laws.{inserted}
use Rattle.nodes.proofs.index.Index.insert.Goals as goal

pub returns-clause-ok : goal.returns-clause-ok
returns-clause-ok c =
    inserted entry_cmp_total entry_exact (eq_by_cmp entry_cmp) (λ x y. refl) c.self.inside.numbers.entries c.insert.new.self.entries c.args.entry c.args.number c.in_ok-insert.ensures.updates.0
    ∙ ap (λ (i : Numbered). finite.insert i.numbers c.args.entry c.args.number) c.self.view_is
