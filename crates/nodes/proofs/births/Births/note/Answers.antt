use Rattle.std.proofs.Common.{nat_eq, ap, ◌∙◌}
use Rattle.std.specs.Cmp.{nat_cmp_total, unsigned_ties}
use Rattle.model.specs.FiniteMap as finite
use Rattle.nodes.specs.Parts.{Counted}
use Rattle.nodes.specs.Tables.{more}
use Rattle.model.proofs.Laws.{inserted}
use Rattle.nodes.proofs.births.Births.note.Goals as goal

pub returns-clause-ok : goal.returns-clause-ok
returns-clause-ok c =
    inserted nat_cmp_total finite.nat_cmp-IsAntisymmetric nat_eq unsigned_ties c.self.inside.counts.entries c.insert.new.self.entries c.inode.inside.0 c.saturating_add-births.result c.in_ok-insert.ensures.updates.0
    ∙ ap (λ (b : Counted). finite.insert b.counts c.inode.inside.0 c.saturating_add-births.result) c.self.view_is
    ∙ ap (λ n. finite.insert c.args.self.now.counts n c.saturating_add-births.result) c.inode.view_is
    ∙ ap (finite.insert c.args.self.now.counts c.args.inode) (c.saturating_add-births.ensures ∙ ap more c.get.ensures)
