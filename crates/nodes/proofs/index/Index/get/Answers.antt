use Rattle.std.proofs.Common.{refl, sym, ap, ◌∙◌}
use Rattle.std.specs.Ordering.{eq_by_cmp}
use Rattle.model.specs.FiniteMap as finite
use Rattle.nodes.specs.Parts.{Numbered}
use Rattle.nodes.specs.DirectoryEntries.{entry_cmp, entry_cmp_total, entry_exact}
use Rattle.model.proofs.Laws.{get_at}
use Rattle.nodes.proofs.index.Index.get.Goals as goal

pub returns : goal.returns
returns c =
    c.copied.ensures ∙ c.get.ensures.value
    ∙ sym (get_at entry_cmp_total entry_exact (eq_by_cmp entry_cmp) (λ x y. refl) c.self.inside.numbers.entries c.args.entry.now)
    ∙ ap (λ (i : Numbered). finite.get i.numbers c.args.entry.now) c.self.view_is
