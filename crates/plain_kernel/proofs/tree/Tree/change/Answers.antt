use Rattle.std.proofs.Common.{sym, ap, ◌∙◌, rules}
use Rattle.std.specs.Cmp.{nat_cmp_total}
use Rattle.model.specs.FiniteMap as map
use Rattle.plain_kernel.proofs.Trees.{get_at, inserted}
use Rattle.plain_kernel.proofs.tree.Tree.change.Goals as goal

pub returns : goal.returns
returns g c =
    inserted nat_cmp_total map.nat_cmp-IsAntisymmetric c.self.inside.slots.entries (c.get_mut.follows.lender c.args.value).entries c.args.num c.args.value ((c.get_mut.follows.holds c.args.value).3 (search rules)).0
    ∙ ap (λ m. map.insert m c.args.num c.args.value) c.self.view_is

pub unreachable-requires : goal.unreachable-requires
unreachable-requires g c = absurd (c.requires (ap (λ m. map.get m c.args.num) (sym c.self.view_is) ∙ get_at nat_cmp_total c.self.inside.slots.entries c.args.num ∙ sym c.in-None.ensures.value))
