use Rattle.std.proofs.Common.{◌≡◌, nat_eq, sym, ap, ◌∙◌}
use Rattle.std.specs.Cmp.{nat_cmp_total, unsigned_ties}
use Rattle.model.specs.FiniteMap as finite
use Rattle.nodes.specs.Parts.{Counted}
use Rattle.nodes.specs.Tables.{births_by}
use Rattle.model.proofs.Laws.{get_at}
use Rattle.nodes.proofs.births.Births.get.Goals as goal

pub returns-in-Some : goal.returns-in-Some
returns-in-Some c =
    let found : c.copied.result ≡ finite.get c.args.self.now.counts c.args.inode
    = c.copied.ensures ∙ c.get.ensures.value
    ∙ sym (get_at nat_cmp_total finite.nat_cmp-IsAntisymmetric nat_eq unsigned_ties c.self.inside.counts.entries c.inode.inside.0)
    ∙ ap (λ (b : Counted). finite.get b.counts c.inode.inside.0) c.self.view_is
    ∙ ap (finite.get c.args.self.now.counts) c.inode.view_is in
    ap births_by (sym c.in-Some.is ∙ found)

pub returns-in-None : goal.returns-in-None
returns-in-None c =
    let found : c.copied.result ≡ finite.get c.args.self.now.counts c.args.inode
    = c.copied.ensures ∙ c.get.ensures.value
    ∙ sym (get_at nat_cmp_total finite.nat_cmp-IsAntisymmetric nat_eq unsigned_ties c.self.inside.counts.entries c.inode.inside.0)
    ∙ ap (λ (b : Counted). finite.get b.counts c.inode.inside.0) c.self.view_is
    ∙ ap (finite.get c.args.self.now.counts) c.inode.view_is in
    ap births_by (sym c.in-None.is ∙ found)
