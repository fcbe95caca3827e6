use Rattle.std.proofs.Common.{◌≤◌, nat_cmp, sym, ap, subst, ◌∙◌}
use Rattle.model.specs.FiniteMap.{get, get-empty}
use Rattle.model.specs.Changes.{or_new}
use Rattle.plain_kernel.proofs.plain.PlainKernel.lowest.Goals as goal

pub returns-in-Some-clause-free : goal.returns-in-Some-clause-free
returns-in-Some-clause-free c =
    sym (ap (λ p. get p.table c.free_from.result) c.process.view_is
    ∙ ap (λ o. get (or_new o).table c.free_from.result) (c.in-Some.ensures ∙ ap (get c.self.inside.processes) c.key_of.ensures ∙ ap (λ k. get k.processes c.args.pid) c.self.view_is))
    ∙ c.free_from.ensures.free

pub returns-in-Some-clause-open : goal.returns-in-Some-clause-open
returns-in-Some-clause-open c = λ f from below none.
    c.free_from.ensures.taken f (subst (λ n. n ≤ f) (sym c.first.view_is) from) below
    (ap (λ p. get p.table f) c.process.view_is
    ∙ ap (λ o. get (or_new o).table f) (c.in-Some.ensures ∙ ap (get c.self.inside.processes) c.key_of.ensures ∙ ap (λ k. get k.processes c.args.pid) c.self.view_is) ∙ none)

pub returns-in-None-clause-free : goal.returns-in-None-clause-free
returns-in-None-clause-free c =
    sym (ap (λ o. get (or_new o).table c.first.inside.0) (c.in-None.ensures ∙ ap (get c.self.inside.processes) c.key_of.ensures ∙ ap (λ k. get k.processes c.args.pid) c.self.view_is))
    ∙ get-empty nat_cmp c.first.inside.0
