use Rattle.std.proofs.Common.{refl, ap, ◌∙◌, arith}
use Rattle.std.specs.Ordering.{eq_by_cmp}
use Rattle.nodes.specs.Parts.{Numbered}
use Rattle.nodes.specs.DirectoryEntries.{entry_cmp, entry_cmp_total, entry_exact}
use Rattle.model.proofs.Laws.{same_made}
use Rattle.nodes.proofs.index.Index.reserve.Goals as goal

pub returns-clause-numbers : goal.returns-clause-numbers
returns-clause-numbers c =
    same_made entry_cmp_total entry_exact (eq_by_cmp entry_cmp) (λ x y. refl) c.self.inside.numbers.entries c.reserve.new.self.entries c.reserve.ensures.entries.2
    ∙ ap (λ (i : Numbered). i.numbers) c.self.view_is

pub returns-clause-room : goal.returns-clause-room
returns-clause-room c = omega (arith, ap (λ (i : Numbered). i.room) c.self.view_is, c.reserve.ensures.spare)

pub returns-clause-succeeds : goal.returns-clause-succeeds
returns-clause-succeeds c = λ h. c.reserve.ensures.succeeds (omega (arith, ap (λ (i : Numbered). i.room) c.self.view_is, h))
