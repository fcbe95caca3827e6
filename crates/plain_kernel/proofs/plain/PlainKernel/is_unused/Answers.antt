use Rattle.std.proofs.Common.{◌≡◌, true, false, not, sym, ap, ◌∙◌}
use Rattle.model.specs.FiniteMap.{get}
use Rattle.plain_kernel.proofs.Choosing.{nothing_by, something_by, yes_by}
use Rattle.plain_kernel.proofs.plain.PlainKernel.is_unused.Goals as goal

pub returns-then-is_none : goal.returns-then-is_none
returns-then-is_none c = (
  λ told. record {
    inode = nothing_by c.get.result _ (c.get.ensures ∙ ap (λ k. get k.inodes c.args.num) c.self.view_is) c.if-is_none.ensures;
    description = nothing_by c.get-then-is_none.result _ (c.get-then-is_none.ensures ∙ ap (λ k. get k.descriptions c.args.num) c.self.view_is) (c.is_none-then-is_none.ensures ∙ ap not told);
  },
  λ unused. yes_by _ _ c.is_none-then-is_none.ensures (something_by c.get-then-is_none.result _ (c.get-then-is_none.ensures ∙ ap (λ k. get k.descriptions c.args.num) c.self.view_is) unused.description),
)

pub returns-else-is_none : goal.returns-else-is_none
returns-else-is_none c = (
  λ told. absurd (let wrong : true ≡ false = sym told ∙ c.if-is_none.false in cc),
  λ unused. yes_by _ _ c.is_none.ensures (something_by c.get.result _ (c.get.ensures ∙ ap (λ k. get k.inodes c.args.num) c.self.view_is) unused.inode),
)
