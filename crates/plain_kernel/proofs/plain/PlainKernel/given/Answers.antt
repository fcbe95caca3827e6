use Rattle.std.proofs.Common.{nat_cmp, sym, ap, ◌∙◌}
use Rattle.model.specs.FiniteMap.{get, get-empty}
use Rattle.model.specs.Changes.{or_new}
use Rattle.plain_kernel.proofs.plain.PlainKernel.given.Goals as goal

pub returns-in-Some : goal.returns-in-Some
returns-in-Some c =
    c.copied.ensures ∙ c.get-in-Some.ensures ∙ ap (get c.process.inside.table) c.fd.view_is ∙ ap (λ p. get p.table c.args.fd) c.process.view_is
    ∙ ap (λ o. get (or_new o).table c.args.fd) (c.in-Some.ensures ∙ ap (get c.self.inside.processes) c.key_of.ensures ∙ ap (λ k. get k.processes c.args.pid) c.self.view_is)

pub returns-in-None : goal.returns-in-None
returns-in-None c =
    sym (get-empty nat_cmp c.args.fd)
    ∙ ap (λ o. get (or_new o).table c.args.fd) (c.in-None.ensures ∙ ap (get c.self.inside.processes) c.key_of.ensures ∙ ap (λ k. get k.processes c.args.pid) c.self.view_is)
