use Rattle.std.proofs.Common.{Some, ap, ◌∙◌}
use Rattle.model.specs.FiniteMap.{get}
use Rattle.model.specs.State.{offset_in}
use Rattle.plain_kernel.proofs.plain.PlainKernelLook.offset.Goals as goal

pub returns-in-Some : goal.returns-in-Some
returns-in-Some c = ap offset_in (ap Some c.description.view_is ∙ c.in-Some.ensures ∙ ap (λ k. get k.descriptions c.args.description) c.self.view_is)

pub returns-in-None : goal.returns-in-None
returns-in-None c = ap offset_in (c.in-None.ensures ∙ ap (λ k. get k.descriptions c.args.description) c.self.view_is)
