use Rattle.std.proofs.Common.{ℕ, true, false, sym, ap, ap₂, ◌∙◌}
use Rattle.plain_kernel.specs.Holders.{AreHoldersOf}
use Rattle.plain_kernel.proofs.Holding.{ends_told, held_with}
use Rattle.plain_kernel.proofs.plain.PlainKernelLook.ends.Goals as goal

pub returns : goal.returns
returns c =
    let k = c.args.self.now in
    let holders = c.self.inside.holders in
    let counted : AreHoldersOf k.descriptions k.processes holders = held_with _ _ _ _ _ (sym (ap (λ k. k.descriptions) c.self.view_is)) (sym (ap (λ k. k.processes) c.self.view_is)) c.self.invariant.1 in
    ap₂ (λ (a b : ℕ). (a, b))
    (ends_told k holders c.args.pipe false _ counted (c.in_ok-reading.ensures ∙ c.ends.ensures))
    (ends_told k holders c.args.pipe true _ counted (c.in_ok-writing.ensures ∙ c.ends-2.ensures))
