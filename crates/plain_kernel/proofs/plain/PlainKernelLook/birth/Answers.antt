use Rattle.std.proofs.Common.{ℕ, Option, ap, ap₂, ◌∙◌}
use Rattle.model.specs.FiniteMap.{get}
use Rattle.model.specs.State.{Process}
use Rattle.model.specs.Changes.{or_new}
use Rattle.plain_kernel.proofs.plain.PlainKernelLook.birth.Goals as goal

pub returns-in-Some : goal.returns-in-Some
returns-in-Some c =
    ap₂ (λ (a b : ℕ). (a, b)) (ap (λ k. k.made) c.self.view_is)
    (ap (λ p. p.priority) c.process.view_is
    ∙ ap (λ (o : Option Process). (or_new o).priority) (c.in-Some.ensures ∙ ap (get c.self.inside.processes) c.key_of.ensures ∙ ap (λ k. get k.processes c.args.pid) c.self.view_is))

pub returns-in-None : goal.returns-in-None
returns-in-None c =
    ap₂ (λ (a b : ℕ). (a, b)) (ap (λ k. k.made) c.self.view_is)
    (ap (λ (o : Option Process). (or_new o).priority) (c.in-None.ensures ∙ ap (get c.self.inside.processes) c.key_of.ensures ∙ ap (λ k. get k.processes c.args.pid) c.self.view_is))
