use Rattle.kernel.proofs.Words.{◌∙◌, ap, bound, distinct, held_by, moment, Part}
use Rattle.kernel.proofs.kernel.Kernel.records.Goals as goal

pub returns-clause-count : goal.returns-clause-count
returns-clause-count c = c.records.ensures.count ∙ c.self.invariant.held_count ∙ ap (λ v. bound (moment v.log)) c.self.view_is

pub returns-clause-each : goal.returns-clause-each
returns-clause-each c = λ q.
    c.records.ensures.each q
    ∙ ap (λ (p : Part). p.held.touches) (c.self.invariant.parts q)
    ∙ ap (λ v. distinct (held_by (moment v.log) q)) c.self.view_is
